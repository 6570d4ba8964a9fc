-- Releases, one after the other, are the last one per target.
use Rattle.std.proofs.Common.{◌≡◌, ℕ, suc, ◌+◌, ◌<◌, ◌≤◌, true, false, cond, List, [], ◌∷◌, ◌++◌, length, get_or, take, drop, Option, Some, None, refl, sym, ap, subst, ◌∙◌}
use Rattle.std.specs.Prelude.{map, find}
use Rattle.std.specs.List.{AllByRecursion}
use Rattle.std.specs.Option.{option_map_or}
use Rattle.std.proofs.lemmas.List.{take_more, take_all, take-append-drop, reverse-append}
use Rattle.std.proofs.Math.Seq.{drop-cons}
use Rattle.text_lines.specs.Faults.{first_code}
use Rattle.words_layout.specs.declared.segment.SegId.{SegId}
use Rattle.class_model.specs.Config.{SegRecord}
use Rattle.release_guard.specs.declared.order.Release.{Release}
use Rattle.release_guard.specs.declared.fault.Lack.{Lack}
use Rattle.release_guard.specs.Codes.{lack_number}
use Rattle.release_guard.specs.Guard.{Volume, is_same, words_at, last_to, released, release_tests}
use Rattle.release_guard.specs.Working.{renewed, HasAll, FirstLack}

last_push : (rs : List Release) (x : Release) (u : SegId) → last_to (rs ++ x ∷ []) u ≡ cond (is_same x.to u) (Some x) (last_to rs u)
last_push rs x u = ap (find (λ (y : Release). is_same y.to u)) (reverse-append rs (x ∷ []))

abbrev from_source : Volume → SegRecord → Release → SegRecord
from_source v r x = record r { kept = words_at v x.from }

renewed_last : (v : Volume) (x : Release) (w : List ℕ) (r : SegRecord) (o : Option Release) → words_at v x.from ≡ Some w → renewed x.to w (option_map_or (from_source v r) o r) ≡ option_map_or (from_source v r) (cond (is_same x.to r.seg) (Some x) o) r
renewed_last v x w r None is =
    elim (is_same x.to r.seg) as (λ b. cond b (record r { kept = Some w }) r ≡ option_map_or (from_source v r) (cond b (Some x) None) r) [
      | true ↦ ap (λ (k : Option (List ℕ)). record r { kept = k }) (sym is)
      | false ↦ refl
    ]
renewed_last v x w r (Some y) is =
    elim (is_same x.to r.seg) as (λ b. cond b (record r { kept = Some w }) (from_source v r y) ≡ option_map_or (from_source v r) (cond b (Some x) (Some y)) r) [
      | true ↦ ap (λ (k : Option (List ℕ)). record r { kept = k }) (sym is)
      | false ↦ refl
    ]

renewed_released : (rs : List Release) (v : Volume) (x : Release) (w : List ℕ) (r : SegRecord) → words_at v x.from ≡ Some w → renewed x.to w (released rs v r) ≡ released (rs ++ x ∷ []) v r
renewed_released rs v x w r is = renewed_last v x w r (last_to rs r.seg) is ∙ ap (λ o. option_map_or (from_source v r) o r) (sym (last_push rs x r.seg))

all_renewed : (rs : List Release) (v : Volume) (x : Release) (w : List ℕ) (ss : List SegRecord) → words_at v x.from ≡ Some w → map (renewed x.to w) (map (released rs v) ss) ≡ map (released (rs ++ x ∷ []) v) ss
all_renewed rs v x w [] is = refl
all_renewed rs v x w (s ∷ ss) is = ap (λ (y : SegRecord). y ∷ map (renewed x.to w) (map (released rs v) ss)) (renewed_released rs v x w s is) ∙ ap (λ ys. released (rs ++ x ∷ []) v s ∷ ys) (all_renewed rs v x w ss is)

none_released : (v : Volume) (ss : List SegRecord) → map (released [] v) ss ≡ ss
none_released v [] = refl
none_released v (s ∷ ss) = ap (λ ys. s ∷ ys) (none_released v ss)

-- No release is carried out yet.
pub begun : (releases : List Release) (v made : List SegRecord) → made ≡ v → made ≡ map (released (take 0 releases) v) v
begun [] v made is = is ∙ sym (none_released v v)
begun (x ∷ xs) v made is = is ∙ sym (none_released v v)

-- One more is.
pub one_more : (releases : List Release) (i : ℕ) (d x : Release) (v made new : List SegRecord) (w : List ℕ) → i < length releases → x ≡ get_or releases i d → made ≡ map (released (take i releases) v) v → words_at v x.from ≡ Some w →
    new ≡ map (renewed x.to w) made → new ≡ map (released (take (i + 1) releases) v) v
one_more releases i d x v made new w lt is held words more =
    more ∙ ap (map (renewed x.to w)) held ∙ all_renewed (take i releases) v x w v words ∙ ap (λ rs. map (released rs v) v) (ap (λ (y : Release). take i releases ++ y ∷ []) is ∙ sym (take_more releases i d lt))

all_push : (v : Volume) (rs : List Release) (x : Release) → AllByRecursion (HasAll v) rs → HasAll v x → AllByRecursion (HasAll v) (rs ++ x ∷ [])
all_push v [] x all is = (is, tt)
all_push v (y ∷ ys) x all is = (all.0, all_push v ys x all.1 is)

-- It lacks nothing.
pub one_right : (releases : List Release) (i : ℕ) (d x : Release) (v : Volume) → i < length releases → x ≡ get_or releases i d → AllByRecursion (HasAll v) (take i releases) → HasAll v x → AllByRecursion (HasAll v) (take (i + 1) releases)
one_right releases i d x v lt is all right = subst (AllByRecursion (HasAll v)) (ap (λ (y : Release). take i releases ++ y ∷ []) is ∙ sym (take_more releases i d lt)) (all_push v (take i releases) x all right)

-- It lacks something.
pub one_lacks : (releases : List Release) (i : ℕ) (d x : Release) (v : Volume) (l : Lack) → i < length releases → x ≡ get_or releases i d → AllByRecursion (HasAll v) (take i releases) → first_code (release_tests v x) ≡ Some l → FirstLack releases v x.line (lack_number l)
one_lacks releases i d x v l lt is all first = record {
  before = take i releases;
  here = x;
  after = drop (suc i) releases;
  whole = sym (take-append-drop i releases) ∙ ap (λ (ys : List Release). take i releases ++ ys) (drop-cons releases i d lt ∙ ap (λ (y : Release). y ∷ drop (suc i) releases) (sym is));
  right = all;
  lack = l;
  first = first;
  line_is = refl;
  code_is = refl;
}

-- All are carried out.
pub all_right : (releases : List Release) (i : ℕ) (v : Volume) → length releases ≤ i → AllByRecursion (HasAll v) (take i releases) → AllByRecursion (HasAll v) releases
all_right releases i v past all = subst (AllByRecursion (HasAll v)) (take_all i releases past) all

pub all_made : (releases : List Release) (i : ℕ) (v made : List SegRecord) → length releases ≤ i → made ≡ map (released (take i releases) v) v → made ≡ map (released releases v) v
all_made releases i v made past held = held ∙ ap (λ rs. map (released rs v) v) (take_all i releases past)
