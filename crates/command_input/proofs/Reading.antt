-- Reading the ports: port 0, and then each volume that the configuration names.
use Rattle.std.proofs.Common.{◌≡◌, ◌≢◌, ℕ, zero, suc, ◌+◌, ◌<◌, ◌≤◌, ◌⊎◌, inl, inr, List, [], ◌∷◌, ◌++◌, length, take, refl, sym, ap, subst, ◌∙◌, Some, None, arith}
use Rattle.std.proofs.lemmas.Bool.{cases_eq, cases_lt}
use Rattle.std.proofs.lemmas.List.{drop_all, take_all, length-take-le, map_push}
use Rattle.std.proofs.lemmas.List.Elements.{Contains-push, Contains-push_cases, Contains-append_left}
use Rattle.std.specs.Prelude.{Contains}
use Rattle.std.specs.List.{AllByRecursion}
use Rattle.labels.specs.Label.{ClassEntry}
use Rattle.host_ports.specs.Ports.{Port, Told, PullKeeps, FillsWhole}
use Rattle.config_text.specs.declared.config.Config.{Config as ConfigText}
use Rattle.class_model.specs.Config.{SegRecord}
use Rattle.volume_image.specs.Valid.{IsVolume}
use Rattle.volume_image.specs.Volumes.{Spells as SpellsVolume}
use Rattle.loader.specs.Records.{Volumes, AreVolumes, Ascend, named_by, numbers_of}
use Rattle.loader.proofs.NamedVolumes.{contains_behind}
use Rattle.command_input.specs.Input.{Ports, IfTold, NothingPushed, IsReadWhole, IsAccepted, AreNamedBelow, ReadsBelow, ConfigHad, limit}
use Rattle.command_input.specs.Reading.{ReadsIn, VolumeReads, VolumesRead}
use Rattle.command_input.proofs.Failures.{none_on, pull_none}

-- ---- one port

reads_told : (left after : Told) (most n : ℕ) (buf : List ℕ) → FillsWhole left after n buf → length buf ≡ most + 1 → n ≤ most → IfTold left (λ bytes. take n buf ≡ bytes)
reads_told None after most n buf f len h = tt
reads_told (Some bytes) after most n buf f len h = let few : length bytes ≤ n = (let e = f.0 in omega arith) in f.1 ∙ take_all n bytes few

reads_whole : (left after : Told) (most n : ℕ) (buf : List ℕ) → FillsWhole left after n buf → length buf ≡ most + 1 → n ≤ most → IfTold left (λ bytes. (length bytes ≤ most) × (after ≡ Some []))
reads_whole None after most n buf f len h = tt
reads_whole (Some bytes) after most n buf f len h = let few : length bytes ≤ n = (let e = f.0 in omega arith) in (omega arith, f.2 ∙ ap Some (drop_all n bytes few))

reads_short : (left after : Told) (n : ℕ) (buf : List ℕ) → FillsWhole left after n buf → n ≤ length buf
reads_short None after n buf f = f.0
reads_short (Some bytes) after n buf f = let e = f.0 in omega arith

pub reads_in : (port : ℕ) (before after : Ports) (n : ℕ) (buf bytes : List ℕ) → FillsWhole (before port).left (after port).left n buf → length buf ≡ limit port + 1 → n ≤ limit port →
    PullKeeps port before after → (after port).pulls ≡ (before port).pulls → bytes ≡ take n buf → ReadsIn port before after bytes
reads_in port before after n buf bytes f len h keeps stays e = subst (ReadsIn port before after) (sym e) (record {
  told = reads_told (before port).left (after port).left (limit port) n buf f len h;
  short = let k = length-take-le n buf (reads_short (before port).left (after port).left n buf f) in omega arith;
  whole = reads_whole (before port).left (after port).left (limit port) n buf f len h;
  keeps = keeps;
  stays = stays;
})

-- a port is the one that was read, or is as it was
pub pulled_same : {X : Type 0} (of : Port → X) (port : ℕ) (before after : Ports) → PullKeeps port before after → of (after port) ≡ of (before port) → (p : ℕ) → (p ≡ port) ⊎ (p ≢ port) → of (after p) ≡ of (before p)
pulled_same of port before after keeps same p (inl e) = subst (λ q. of (after q) ≡ of (before q)) (sym e) same
pulled_same of port before after keeps same p (inr other) = ap of (keeps.others p other)

pub silent_pull : (port : ℕ) (before after : Ports) → PullKeeps port before after → NothingPushed before after
silent_pull port before after keeps = record {
  taken = λ p. pulled_same (λ (x : Port). x.taken) port before after keeps keeps.taken p (cases_eq p port);
  pushes = λ p. pulled_same (λ (x : Port). x.pushes) port before after keeps keeps.pushes p (cases_eq p port);
}

pub silent_on : (before middle after : Ports) → NothingPushed before middle → NothingPushed middle after → NothingPushed before after
silent_on before middle after f g = record { taken = λ p. g.taken p ∙ f.taken p; pushes = λ p. g.pushes p ∙ f.pushes p }

pub silent_same : (before middle after : Ports) → NothingPushed before middle → ((p : ℕ) → after p ≡ middle p) → NothingPushed before after
silent_same before middle after f same = record { taken = λ p. ap (λ (x : Port). x.taken) (same p) ∙ f.taken p; pushes = λ p. ap (λ (x : Port). x.pushes) (same p) ∙ f.pushes p }

-- ---- what was told and read stays so

pub told_as : (P : List ℕ → Type 0) (left other : Told) → other ≡ left → IfTold left P → IfTold other P
told_as P left other e h = subst (λ (t : Told). IfTold t P) (sym e) h

pub told_of : (P : List ℕ → Type 0) (left : Told) (bytes : List ℕ) → IfTold left (λ b. bytes ≡ b) → P bytes → IfTold left P
told_of P None bytes e h = tt
told_of P (Some b) bytes e h = subst P e h

pub whole_as : (p : ℕ) (before after begin end : Ports) → (begin p).left ≡ (before p).left → (end p).left ≡ (after p).left → IsReadWhole p before after → IsReadWhole p begin end
whole_as p before after begin end e f h =
    subst (λ (t : Told). IfTold t (λ bytes. (length bytes ≤ limit p) × ((end p).left ≡ Some []))) (sym e)
    (subst (λ (t : Told). IfTold (before p).left (λ bytes. (length bytes ≤ limit p) × (t ≡ Some []))) (sym f) h)

accepted_as : (table : List ClassEntry) (before after begin end : Ports) (v : ℕ × List SegRecord) → (begin v.0).left ≡ (before v.0).left → (end v.0).left ≡ (after v.0).left →
    IsAccepted table before after v → IsAccepted table begin end v
accepted_as table before after begin end v e f h = record {
  port = h.port;
  left = told_as (λ bytes. SpellsVolume table bytes v.1) (before v.0).left (begin v.0).left e h.left;
  whole = whole_as v.0 before after begin end e f h.whole;
}

pub all_accepted_as : (table : List ClassEntry) (before after begin end : Ports) (vs : Volumes) →
    ((p : ℕ) → 1 ≤ p → Contains (numbers_of vs) p → ((begin p).left ≡ (before p).left) × ((end p).left ≡ (after p).left)) → AllByRecursion (IsAccepted table before after) vs →
    AllByRecursion (IsAccepted table begin end) vs
all_accepted_as table before after begin end [] same h = tt
all_accepted_as table before after begin end (v ∷ vs) same h =
    let here = same v.0 h.0.port (0, omega arith, refl) in (
      accepted_as table before after begin end v here.0 here.1 h.0,
      all_accepted_as table before after begin end vs (λ p some c. same p some (contains_behind v.0 (numbers_of vs) p c)) h.1,
    )

all_push : {X : Type 0} (P : X → Type 0) (xs : List X) (x : X) → AllByRecursion P xs → P x → AllByRecursion P (xs ++ x ∷ [])
all_push P [] x h p = (p, tt)
all_push P (y ∷ ys) x h p = (h.0, all_push P ys x h.1 p)

-- ---- the numbers

pub lt_of_ne : (p n : ℕ) → p < n + 1 → p ≢ n → p < n
lt_of_ne p n lt other = by (cases_lt p n)
  where
    by : (p < n) ⊎ (n ≤ p) → p < n
    by (inl less) = less
    by (inr ge) = absurd (other (omega arith))

ascend_push : (low : ℕ) (xs : List ℕ) (n : ℕ) → Ascend low xs → low < n → ((p : ℕ) → Contains xs p → p < n) → Ascend low (xs ++ n ∷ [])
ascend_push low [] n up lt all = (lt, tt)
ascend_push low (x ∷ xs) n up lt all = (up.0, ascend_push x xs n up.1 (all x (0, omega arith, refl)) (λ p c. all p (contains_behind x xs p c)))

ascend_some : (low : ℕ) (xs : List ℕ) (p : ℕ) → Ascend low xs → Contains xs p → low < p
ascend_some low [] p up c = let lt = c.1 in absurd (omega arith)
ascend_some low (x ∷ xs) p up (zero, lt, e) = let a = up.0 in omega (arith, e, a)
ascend_some low (x ∷ xs) p up (suc i, lt, e) = let a = up.0 in let b = ascend_some x xs p up.1 (i, omega arith, e) in omega (arith, a, b)

pub numbers_some : (n : ℕ) (k : ConfigText) (numbers : List ℕ) (p : ℕ) → AreNamedBelow n k numbers → Contains numbers p → 1 ≤ p
numbers_some n k numbers p h c = let lt = ascend_some 0 numbers p h.ascend c in omega arith

numbers_none : (k : ConfigText) → AreNamedBelow 1 k []
numbers_none k = record {
  ascend = tt;
  named = λ p c. (let lt = c.1 in absurd (omega arith));
  all = λ p some lt h. absurd (omega (arith, some, lt));
}

numbers_skip : (n : ℕ) (k : ConfigText) (numbers : List ℕ) → AreNamedBelow n k numbers → (Contains (named_by k) n → ⊥) → AreNamedBelow (n + 1) k numbers
numbers_skip n k numbers h none = record {
  ascend = h.ascend;
  named = λ p c. (let a = h.named p c in let lt = a.0 in (omega arith, a.1));
  all = λ p some lt c. by p some lt c (cases_eq p n);
}
  where
    by : (p : ℕ) → 1 ≤ p → p < n + 1 → Contains (named_by k) p → (p ≡ n) ⊎ (p ≢ n) → Contains numbers p
    by p some lt c (inl e) = absurd (none (subst (Contains (named_by k)) e c))
    by p some lt c (inr other) = h.all p some (lt_of_ne p n lt other) c

numbers_more : (n : ℕ) (k : ConfigText) (numbers : List ℕ) → 1 ≤ n → AreNamedBelow n k numbers → Contains (named_by k) n → AreNamedBelow (n + 1) k (numbers ++ n ∷ [])
numbers_more n k numbers some h named = record {
  ascend = ascend_push 0 numbers n h.ascend (omega arith) (λ p c. (h.named p c).0);
  named = λ p c. by p (Contains-push_cases numbers n p c);
  all = λ p least lt c. there p least lt c (cases_eq p n);
}
  where
    by : (p : ℕ) → Contains numbers p ⊎ (n ≡ p) → (p < n + 1) × Contains (named_by k) p
    by p (inl c) = let a = h.named p c in let lt = a.0 in (omega arith, a.1)
    by p (inr e) = subst (λ q. (q < n + 1) × Contains (named_by k) q) e (omega arith, named)

    there : (p : ℕ) → 1 ≤ p → p < n + 1 → Contains (named_by k) p → (p ≡ n) ⊎ (p ≢ n) → Contains (numbers ++ n ∷ []) p
    there p least lt c (inl e) = subst (Contains (numbers ++ n ∷ [])) (sym e) (Contains-push numbers n)
    there p least lt c (inr other) = Contains-append_left numbers (n ∷ []) p (h.all p least (lt_of_ne p n lt other) c)

-- ---- the volumes

pub read_none : (k : ConfigText) (before : Ports) → VolumesRead 1 k before before []
read_none k before = record {
  volumes = tt;
  valid = tt;
  numbers = numbers_none k;
  others = λ p none. refl;
  silent = record { taken = λ p. refl; pushes = λ p. refl };
  none = record { pulls = λ p. refl; pushes = λ p. refl };
}

pub read_skip : (n : ℕ) (k : ConfigText) (before now : Ports) (vs : Volumes) → VolumesRead n k before now vs → (Contains (named_by k) n → ⊥) → VolumesRead (n + 1) k before now vs
read_skip n k before now vs r none = record {
  volumes = r.volumes;
  valid = r.valid;
  numbers = numbers_skip n k (numbers_of vs) r.numbers none;
  others = r.others;
  silent = r.silent;
  none = r.none;
}

module _ (n : ℕ) (k : ConfigText) (before now after : Ports) (vs : Volumes) (v : List SegRecord) where
  numbers_push : numbers_of (vs ++ (n, v) ∷ []) ≡ numbers_of vs ++ n ∷ []
  numbers_push = map_push (λ (w : ℕ × List SegRecord). w.0) vs (n, v)

  others_more : VolumesRead n k before now vs → PullKeeps n now after → (p : ℕ) → (Contains (numbers_of vs ++ n ∷ []) p → ⊥) → after p ≡ before p
  others_more r keeps p none =
      keeps.others p (λ e. none (subst (Contains (numbers_of vs ++ n ∷ [])) (sym e) (Contains-push (numbers_of vs) n))) ∙
      r.others p (λ c. none (Contains-append_left (numbers_of vs) (n ∷ []) p c))

  not_yet : VolumesRead n k before now vs → now n ≡ before n
  not_yet r = r.others n (λ c. (let lt = (r.numbers.named n c).0 in absurd (omega arith)))

  pub read_more : 1 ≤ n → VolumesRead n k before now vs → Contains (named_by k) n → VolumeReads k.table n now after v → VolumesRead (n + 1) k before after (vs ++ (n, v) ∷ [])
  read_more some r named got = record {
    volumes = all_push (IsAccepted k.table before after) vs (n, v)
        (all_accepted_as k.table before now before after vs (λ p least c. (refl, ap (λ (x : Port). x.left) (got.reads.keeps.others p (λ e. (let lt = (r.numbers.named p c).0 in absurd (omega (arith, e, lt))))))) r.volumes)
        (record {
          port = some;
          left = told_as (λ bytes. SpellsVolume k.table bytes v) (now n).left (before n).left (ap (λ (x : Port). x.left) (sym (not_yet r)))
              (told_of (λ bytes. SpellsVolume k.table bytes v) (now n).left got.bytes got.reads.told got.spelled);
          whole = whole_as n now after before after (ap (λ (x : Port). x.left) (sym (not_yet r))) refl got.reads.whole;
        });
    valid = all_push (λ (w : ℕ × List SegRecord). IsVolume k.table w.1) vs (n, v) r.valid got.valid;
    numbers = subst (AreNamedBelow (n + 1) k) (sym numbers_push) (numbers_more n k (numbers_of vs) some r.numbers named);
    others = λ p none. others_more r got.reads.keeps p (λ c. none (subst (λ (t : List ℕ). Contains t p) (sym numbers_push) c));
    silent = silent_on before now after r.silent (silent_pull n now after got.reads.keeps);
    none = none_on before now after r.none (pull_none n now after got.reads.keeps got.reads.stays);
  }

pub are_volumes : (k : ConfigText) (before after : Ports) (vs : Volumes) → VolumesRead 5 k before after vs → AreVolumes k vs
are_volumes k before after vs r = record {
  valid = r.valid;
  ascend = r.numbers.ascend;
  named = λ n c. (let a = r.numbers.named n c in let lt = a.0 in (omega arith, a.1));
  all = λ n some most c. r.numbers.all n some (omega arith) c;
}

-- ---- port 0, and then volumes

module _ (n : ℕ) (before middle now after : Ports) (k : ConfigText) (vs : Volumes) where
  pub reads_below : 1 ≤ n → ConfigHad before middle k → VolumesRead n k middle now vs → ((p : ℕ) → p < n → (after p).left ≡ (now p).left) → ReadsBelow n before after k vs
  reads_below some had r same = record {
    config = had.told;
    whole = whole_as 0 before middle before after refl (same 0 (omega arith) ∙ ap (λ (x : Port). x.left) (r.others 0 (λ c. (let least = numbers_some n k (numbers_of vs) 0 r.numbers c in absurd (omega arith))))) had.whole;
    volumes = all_accepted_as k.table middle now before after vs
        (λ p least c. (ap (λ (x : Port). x.left) (sym (had.keeps.others p (λ e. absurd (omega (arith, e, least))))), same p (r.numbers.named p c).0)) r.volumes;
    numbers = r.numbers;
  }

-- what was read stays so where no more is
pub reads_kept : (n : ℕ) (before now after : Ports) (k : ConfigText) (vs : Volumes) → ((p : ℕ) → (after p).left ≡ (now p).left) → ReadsBelow n before now k vs → ReadsBelow n before after k vs
reads_kept n before now after k vs same reads = record {
  config = reads.config;
  whole = whole_as 0 before now before after refl (same 0) reads.whole;
  volumes = all_accepted_as k.table before now before after vs (λ p least c. (refl, same p)) reads.volumes;
  numbers = reads.numbers;
}
