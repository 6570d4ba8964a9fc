-- Where segments stand in a reached state: an identity in one entry at most, below a mentor under which it may stand.
use Rattle.std.proofs.Common.{ℕ, ◌<◌, Bool, true, false, not, ◌||◌, ◌≡◌, ◌⊎◌, inl, inr, refl, sym, ap, subst, ◌∙◌, Some, None, arith}
use Rattle.std.specs.Prelude.{◌==◌, nat_lt, slice_index_or}
use Rattle.std.proofs.lemmas.Bool.{and_from, eqb-true, false_from_ne_true, lt-ltb}
use Rattle.words_layout.specs.Segments.{seg}
use Rattle.words_layout.specs.declared.segment.SegId.{SegId}
use Rattle.words_layout.specs.declared.coding.Alias.{Alias}
use Rattle.words_layout.proofs.Names.{same_seg-true}
use Rattle.policy.specs.Known.{Known}
use Rattle.class_model.specs.Config.{Shared, flows}
use Rattle.class_model.specs.Process.{Process, ProcName, known_at}
use Rattle.class_model.specs.State.{State, Part, entry_at, process_at, with_part}
use Rattle.class_model.specs.Valid.{is_root}
use Rattle.volume_image.specs.Valid.{may_stand}
use Rattle.effect_laws.proofs.Good.{InUse, Good}
use Rattle.effect_laws.proofs.Growing.{by_put}

-- the class of a known segment is at or above that of its mentor
abbrev pub IsUp : Shared → Known → Type 0
IsUp s k = flows s k.seg.mentor k.class ≡ true

-- so it is of all that a process knows
abbrev pub KnowsUp : Shared → Process → Type 0
KnowsUp s p = (i : ℕ) (k : Known) → known_at p i ≡ Some k → IsUp s k

-- no two entries of a part have one serial
abbrev pub AreSingle : Part → Type 0
AreSingle part = (x y : SegId) (e f : ℕ) (p q : Alias) → entry_at (part.cell x) e ≡ Some p → entry_at (part.cell y) f ≡ Some q → p.serial ≡ q.serial → (x ≡ y) × (e ≡ f)

-- no entry of the part of class c names the root
abbrev pub NoRoot : ℕ → Part → Type 0
NoRoot c part = (x : SegId) (e : ℕ) (p : Alias) → entry_at (part.cell x) e ≡ Some p → is_root (seg c p.serial) ≡ false

-- each segment that an entry of the part of class c names may stand there
abbrev pub MayStand : Shared → ℕ → Part → Type 0
MayStand s c part = (x : SegId) (e : ℕ) (p : Alias) → entry_at (part.cell x) e ≡ Some p → may_stand s.table (seg c p.serial) x ≡ true

pub record Placed (a : State) : Type 0 where
  pub one : (c : ℕ) → AreSingle (a.part c)
  pub no_root : (c : ℕ) → NoRoot c (a.part c)
  pub stands : (c : ℕ) → MayStand a.shared c (a.part c)
  pub known : (name : ProcName) (p : Process) → process_at a name ≡ Some p → KnowsUp a.shared p

-- an entry that is new: it has the next serial of its class, in a mentor that is in use and at or below the class
pub record IsNew (a : State) (d : ℕ) (at : SegId) (number : ℕ) (x : SegId) (e : ℕ) (p : Alias) : Type 0 where
  pub cell : x ≡ at
  pub entry : e ≡ number
  pub serial : p.serial ≡ (a.part d).next_serial
  pub above : flows a.shared at.mentor d ≡ true
  pub in_use : InUse a at

-- each entry of a part was there, or is the one that is new
pub record EntriesFrom (a : State) (d : ℕ) (X : Part) : Type 0 where
  pub at : SegId
  pub number : ℕ
  pub each : (x : SegId) (e : ℕ) (p : Alias) → entry_at (X.cell x) e ≡ Some p → (entry_at ((a.part d).cell x) e ≡ Some p) ⊎ IsNew a d at number x e p

pub all_old : (a : State) (d : ℕ) (X : Part) → ((x : SegId) (e : ℕ) (p : Alias) → entry_at (X.cell x) e ≡ Some p → entry_at ((a.part d).cell x) e ≡ Some p) → EntriesFrom a d X
all_old a d X h = record { at = seg 0 0; number = 0; each = λ x e p k. inl (h x e p k) }

module _ (n : ℕ) (a : State) (good : Good n a) (placed : Placed a) (d : ℕ) (X : Part) (from : EntriesFrom a d X) where
  old_serial : (x : SegId) (e : ℕ) (p : Alias) → entry_at ((a.part d).cell x) e ≡ Some p → p.serial < (a.part d).next_serial
  old_serial x e p h = ((good.cells d x).entries e p h).in_use.serial

  single : AreSingle X
  single x y e f p q hp hq same = both (from.each x e p hp) (from.each y f q hq)
    where
      both : (entry_at ((a.part d).cell x) e ≡ Some p) ⊎ IsNew a d from.at from.number x e p → (entry_at ((a.part d).cell y) f ≡ Some q) ⊎ IsNew a d from.at from.number y f q → (x ≡ y) × (e ≡ f)
      both (inl u) (inl v) = placed.one d x y e f p q u v same
      both (inl u) (inr v) = let s = old_serial x e p u in let t = v.serial in absurd (omega (arith, s, t, same))
      both (inr u) (inl v) = let s = old_serial y f q v in let t = u.serial in absurd (omega (arith, s, t, same))
      both (inr u) (inr v) = (u.cell ∙ sym v.cell, u.entry ∙ sym v.entry)

  new_not_root : (p : Alias) → p.serial ≡ (a.part d).next_serial → is_root (seg d p.serial) ≡ false
  new_not_root p e = false_from_ne_true (is_root (seg d p.serial)) (λ h.
      let same : seg d p.serial ≡ seg 0 0 = same_seg-true (seg d p.serial) (seg 0 0) h in
      let m : d ≡ 0 = ap (λ (z : SegId). z.mentor) same in
      let s : p.serial ≡ 0 = ap (λ (z : SegId). z.serial) same in
      let used : 0 < (a.part 0).next_serial = good.root.in_use.serial in
      let here : 0 < (a.part d).next_serial = subst (λ z. 0 < (a.part z).next_serial) (sym m) used in
      omega (arith, e, s, here))

  rootless : NoRoot d X
  rootless x e p h = elim (from.each x e p h) [ inl u ↦ placed.no_root d x e p u | inr u ↦ new_not_root p u.serial ]

  new_stands : (x : SegId) (e : ℕ) (p : Alias) → IsNew a d from.at from.number x e p → may_stand a.shared.table (seg d p.serial) x ≡ true
  new_stands x e p u = subst (λ z. may_stand a.shared.table (seg d p.serial) z ≡ true) (sym u.cell) (and_from _ _ u.above (by_class (from.at.mentor == d) refl))
    where
      by_class : (b : Bool) → (from.at.mentor == d) ≡ b → (not b || nat_lt from.at.serial p.serial) ≡ true
      by_class true h =
          let m : from.at.mentor ≡ d = eqb-true from.at.mentor d h in
          let used : from.at.serial < (a.part from.at.mentor).next_serial = u.in_use.serial in
          let here : from.at.serial < (a.part d).next_serial = subst (λ z. from.at.serial < (a.part z).next_serial) m used in
          let s : p.serial ≡ (a.part d).next_serial = u.serial in
          lt-ltb from.at.serial p.serial (omega (arith, here, s))
      by_class false h = refl

  standing : MayStand a.shared d X
  standing x e p h = elim (from.each x e p h) [ inl u ↦ placed.stands d x e p u | inr u ↦ new_stands x e p u ]

  pub placed_with : ((p i : ℕ) (q : Process) → slice_index_or (X.slots p) i None ≡ Some q → KnowsUp a.shared q) → Placed (with_part a d X)
  placed_with knows = record {
    one = λ c. by_put (λ c (z : Part). AreSingle z) a.part d X c single (λ e. placed.one c);
    no_root = λ c. by_put (λ c (z : Part). NoRoot c z) a.part d X c rootless (λ e. placed.no_root c);
    stands = λ c. by_put (λ c (z : Part). MayStand a.shared c z) a.part d X c standing (λ e. placed.stands c);
    known = λ name p. by_put (λ c (z : Part). slice_index_or (z.slots name.processor) name.slot None ≡ Some p → KnowsUp a.shared p) a.part d X name.class
        (knows name.processor name.slot p) (λ e h. placed.known name p h);
  }
