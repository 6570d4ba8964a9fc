-- What is good stays good where identities stay in use, with their sizes and brackets.
use Rattle.std.proofs.Common.{ℕ, zero, suc, ◌+◌, ◌≤◌, ◌<◌, [], ◌∷◌, true, false, List, ◌≡◌, refl, sym, subst, ◌∙◌, Option, Some, None, inl, inr, ◌⊎◌, arith}
use Rattle.std.specs.Prelude.{◌==◌, if◌then◌else◌, slice_index_or, slice_set}
use Rattle.std.proofs.lemmas.Bool.{eqb-true}
use Rattle.std.proofs.Math.Nat.{le_trans}
use Rattle.lists.specs.Lists.{put}
use Rattle.words_layout.specs.Segments.{seg}
use Rattle.words_layout.specs.declared.segment.SegId.{SegId}
use Rattle.words_layout.specs.declared.coding.Alias.{Alias}
use Rattle.policy.specs.Known.{Known}
use Rattle.class_model.specs.Process.{Process}
use Rattle.class_model.specs.State.{State, Part, Cell, with_part}
use Rattle.effect_laws.proofs.Good.{Given, InUse, EntryGood, WordsGood, CellGood, KnownGood, ProcessGood, RootGood, Good}

-- a property of a table with one place changed
pub by_put : {X : Type 0} (P : ℕ → X → Type 0) (f : ℕ → X) (d : ℕ) (x : X) (c : ℕ) → P d x → ((c == d) ≡ false → P c (f c)) → P c (put f d x c)
by_put P f d x c here there = elim (c == d) as (λ b. (c == d) ≡ b → P c (if b then x else f c)) [
  | true ↦ λ e. subst (λ z. P z x) (sym (eqb-true c d e)) here
  | false ↦ λ e. there e
] refl

-- what was in use is, as it was given
pub record Grows (t t' : Given) (a : State) (parts : ℕ → Part) : Type 0 where
  pub in_use : (u : SegId) → InUse a u → InUse (record a { part = parts }) u
  pub size : (c : ℕ) (u : SegId) → InUse a u → t'.size c u ≡ t.size c u
  pub brackets : (c : ℕ) (u : SegId) → InUse a u → t'.brackets c u ≡ t.brackets c u

module _ (t t' : Given) (a : State) (parts : ℕ → Part) (g : Grows t t' a parts) where
  abbrev after : State
  after = record a { part = parts }

  pub grow_entry : (c : ℕ) (x : Alias) → EntryGood t a c x → EntryGood t' after c x
  grow_entry c x e = record {
    in_use = g.in_use (seg c x.serial) e.in_use;
    class = e.class;
    above = e.above;
    size = e.size ∙ sym (g.size x.class (seg c x.serial) e.in_use);
    in_range = e.in_range;
    brackets = e.brackets ∙ sym (g.brackets x.class (seg c x.serial) e.in_use);
    in_order = e.in_order;
  }

  pub grow_words : (c : ℕ) (u : SegId) (words : List ℕ) → WordsGood t a c u words → WordsGood t' after c u words
  grow_words c u words w = record { size = w.size ∙ sym (g.size c u w.in_use); in_use = g.in_use u w.in_use; in_range = w.in_range }

  pub grow_cell : (n n' : ℕ) → n ≤ n' → (c : ℕ) (u : SegId) (cell : Cell) → CellGood n t a c u cell → CellGood n' t' after c u cell
  grow_cell n n' le c u cell k = record {
    eight = k.eight;
    entries = λ e x h. grow_entry c x (k.entries e x h);
    live = λ words h. grow_words c u words (k.live words h);
    stored = λ words h. grow_words c u words (k.stored words h);
    writes = le_trans k.writes le;
    sequencer = le_trans k.sequencer le;
  }

  pub grow_known : (d : ℕ) (k : Known) → KnownGood t a d k → KnownGood t' after d k
  grow_known d k h = record { fits = h.fits; in_use = g.in_use k.seg h.in_use; size = h.size ∙ sym (g.size k.class k.seg h.in_use); brackets = h.brackets ∙ sym (g.brackets k.class k.seg h.in_use) }

  pub grow_process : (d : ℕ) (p : Process) → ProcessGood t a d p → ProcessGood t' after d p
  grow_process d p h = record { fits = h.fits; known = λ i k e. grow_known d k (h.known i k e); pad = h.pad }

  pub grow_root : RootGood t a → RootGood t' after
  grow_root r = record { in_use = g.in_use (seg 0 0) r.in_use; size = g.size 0 (seg 0 0) r.in_use ∙ r.size; brackets = g.brackets 0 (seg 0 0) r.in_use ∙ r.brackets }

-- where the next serial doesn't fall, what is in use stays in use
pub keep_use : (a : State) (d : ℕ) (X : Part) → (a.part d).next_serial ≤ X.next_serial → (u : SegId) → InUse a u → InUse (with_part a d X) u
keep_use a d X le u h = record {
  mentor = h.mentor;
  serial = by_put (λ c (z : Part). (c ≡ u.mentor) → u.serial < z.next_serial) a.part d X u.mentor
      (λ e. (let s : u.serial < (a.part u.mentor).next_serial = h.serial in let s' : u.serial < (a.part d).next_serial = rw e s in omega (arith, s', le)))
      (λ e k. h.serial) refl;
}

pub keeps_all : (t : Given) (a : State) (d : ℕ) (X : Part) → (a.part d).next_serial ≤ X.next_serial → Grows t t a (put a.part d X)
keeps_all t a d X le = record { in_use = keep_use a d X le; size = λ c u h. refl; brackets = λ c u h. refl }

-- a state with the part of one class changed
abbrev pub good_with : (n n' : ℕ) → n ≤ n' → (a : State) (good : Good n a) (d : ℕ) (X : Part) (t' : Given) → Grows good.given t' a (put a.part d X) → X.next_serial ≤ 64 →
    ((u : SegId) → CellGood n' t' (with_part a d X) d u (X.cell u)) →
    ((p i : ℕ) (q : Process) → slice_index_or (X.slots p) i None ≡ Some q → ProcessGood t' (with_part a d X) d q) →
    X.used ≤ n' → ((x : ℕ) (u : SegId) → X.component x u ≤ n') → Good n' (with_part a d X)
good_with n n' le a good d X t' g serial cells processes used components = record {
  given = t';
  sound = good.sound;
  root = grow_root good.given t' a (put a.part d X) g good.root;
  serials = λ c. by_put (λ c (z : Part). z.next_serial ≤ 64) a.part d X c serial (λ e. good.serials c);
  cells = λ c u. by_put (λ c (z : Part). CellGood n' t' (with_part a d X) c u (z.cell u)) a.part d X c (cells u)
      (λ e. grow_cell good.given t' a (put a.part d X) g n n' le c u ((a.part c).cell u) (good.cells c u));
  processes = λ name p. by_put (λ c (z : Part). slice_index_or (z.slots name.processor) name.slot None ≡ Some p → ProcessGood t' (with_part a d X) c p) a.part d X name.class
      (processes name.processor name.slot p)
      (λ e h. grow_process good.given t' a (put a.part d X) g name.class p (good.processes name p h));
  used = λ c. by_put (λ c (z : Part). z.used ≤ n') a.part d X c used (λ e. le_trans (good.used c) le);
  components = λ c x u. by_put (λ c (z : Part). z.component x u ≤ n') a.part d X c (components x u) (λ e. le_trans (good.components c x u) le);
}

-- nothing but time has passed
pub good_more : (n : ℕ) (a : State) → Good n a → Good (n + 1) a
good_more n a good = record {
  given = good.given;
  sound = good.sound;
  root = good.root;
  serials = good.serials;
  cells = λ c u. (let k = good.cells c u in record { eight = k.eight; entries = k.entries; live = k.live; stored = k.stored; writes = le_trans k.writes (omega arith); sequencer = le_trans k.sequencer (omega arith) });
  processes = good.processes;
  used = λ c. le_trans (good.used c) (omega arith);
  components = λ c x u. le_trans (good.components c x u) (omega arith);
}

-- what is read of a list with one place changed
pub set-read : {X : Type 0} (l : List (Option X)) (i j : ℕ) (x : Option X) (r : X) → slice_index_or (slice_set l i x) j None ≡ Some r → (x ≡ Some r) ⊎ (slice_index_or l j None ≡ Some r)
set-read [] i j x r h = inr h
set-read (y ∷ ys) zero zero x r h = inl h
set-read (y ∷ ys) zero (suc j) x r h = inr h
set-read (y ∷ ys) (suc i) zero x r h = inr h
set-read (y ∷ ys) (suc i) (suc j) x r h = set-read ys i j x r h
