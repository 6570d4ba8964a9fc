-- What is made of a volume is a function of what is exported of it and of the words at the sources.
use Rattle.std.proofs.Common.{◌≡◌, ℕ, Bool, true, false, cond, List, [], ◌∷◌, Option, Some, None, refl, sym, ap, ◌∙◌}
use Rattle.std.specs.Prelude.{map, reverse}
use Rattle.std.specs.List.{AllByRecursion, filter_map, cons_option}
use Rattle.std.specs.Option.{option_map_or}
use Rattle.class_model.specs.Config.{SegRecord, low_record}
use Rattle.release_guard.specs.declared.order.Release.{Release}
use Rattle.release_guard.specs.declared.order.Order.{Order}
use Rattle.release_guard.specs.Guard.{Volume, is_same, words_at, last_to, released, is_exported, exported, guard, source_words}
use Rattle.release_guard.proofs.Members.{all_reverse, find_has, all_equal}

-- what a record keeps behind the releases
abbrev kept_by : Volume → Option Release → Option (List ℕ) → Option (List ℕ)
kept_by v o own = option_map_or (λ (x : Release). words_at v x.from) o own

-- an exported record behind the releases
abbrev shown : (ℕ → Bool) → List Release → Volume → SegRecord → SegRecord
shown low releases v s = record s { kept = cond (low s.class) (kept_by v (last_to releases s.seg) s.kept) None }

abbrev from_source : Volume → SegRecord → Release → SegRecord
from_source v r x = record r { kept = words_at v x.from }

as_record : (v : Volume) (r : SegRecord) (o : Option Release) → option_map_or (from_source v r) o r ≡ record r { kept = kept_by v o r.kept }
as_record v r None = refl
as_record v r (Some x) = refl

same_kept : (b : Bool) (v : Volume) (o : Option Release) (own : Option (List ℕ)) → cond b (kept_by v o own) None ≡ cond b (kept_by v o (cond b own None)) None
same_kept true v o own = refl
same_kept false v o own = refl

-- First the releases and then the export are first the export and then the releases.
swapped : (low : ℕ → Bool) (releases : List Release) (v : Volume) (rs : List SegRecord) → filter_map (low_record low) (map (released releases v) rs) ≡ map (shown low releases v) (filter_map (low_record low) rs)
swapped low releases v [] = refl
swapped low releases v (r ∷ rs) =
    let more : List SegRecord = filter_map (low_record low) (map (released releases v) rs) in
    let o = last_to releases r.seg in
    ap (λ (m : SegRecord). cons_option (low_record low m) more) (as_record v r o) ∙
    elim (low r.seg.mentor) as (λ b. cons_option (cond b (Some (record r { kept = cond (low r.class) (kept_by v o r.kept) None })) None) more
    ≡ map (shown low releases v) (cons_option (cond b (Some (record r { kept = cond (low r.class) r.kept None })) None) (filter_map (low_record low) rs))) [
      | true ↦ ap (λ (ks : Option (List ℕ)). record r { kept = ks } ∷ more) (same_kept (low r.class) v o r.kept) ∙ ap (λ (ys : List SegRecord). shown low releases v (record r { kept = cond (low r.class) r.kept None }) ∷ ys) (swapped low releases v rs)
      | false ↦ swapped low releases v rs
    ]

kept_same : (releases : List Release) (v w : Volume) (s : SegRecord) (o : Option Release) → last_to releases s.seg ≡ o → AllByRecursion (λ (x : Release). words_at v x.from ≡ words_at w x.from) releases → kept_by v o s.kept ≡ kept_by w o s.kept
kept_same releases v w s None e all = refl
kept_same releases v w s (Some x) e all =
    (find_has (λ (x : Release). words_at v x.from ≡ words_at w x.from) (λ (y : Release). is_same y.to s.seg) (reverse releases) x (all_reverse (λ (x : Release). words_at v x.from ≡ words_at w x.from) releases all) e).0

shown_same : (low : ℕ → Bool) (releases : List Release) (v w : Volume) (ss : List SegRecord) → AllByRecursion (λ (x : Release). words_at v x.from ≡ words_at w x.from) releases → map (shown low releases v) ss ≡ map (shown low releases w) ss
shown_same low releases v w [] all = refl
shown_same low releases v w (s ∷ ss) all =
    ap (λ (ks : Option (List ℕ)). record s { kept = cond (low s.class) ks None } ∷ map (shown low releases v) ss) (kept_same releases v w s (last_to releases s.seg) refl all) ∙
    ap (λ (ys : List SegRecord). shown low releases w s ∷ ys) (shown_same low releases v w ss all)

pub same_guard : (k : Order) (v w : Volume) → exported k v ≡ exported k w → source_words k v ≡ source_words k w → guard k v ≡ guard k w
same_guard k v w low words =
    let all = all_equal (λ (x : Release). words_at v x.from) (λ (x : Release). words_at w x.from) k.releases words in
    swapped (is_exported k) k.releases v v ∙ shown_same (is_exported k) k.releases v w (exported k v) all ∙ ap (map (shown (is_exported k) k.releases w)) low ∙ sym (swapped (is_exported k) k.releases w w)
