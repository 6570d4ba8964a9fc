-- The records that are added are those of the volume after the run, and there is room for each.
use Rattle.std.proofs.Common.{◌≡◌, ℕ, ◌+◌, ◌*◌, ◌<◌, ◌≤◌, true, false, List, [], ◌∷◌, ◌++◌, length, refl, sym, ap, subst, ◌∙◌, Option, Some, None, arith, append_assoc, length-append}
use Rattle.std.proofs.lemmas.Bool.{and_parts, eqb-true}
use Rattle.std.proofs.lemmas.List.{append-nil, take_all}
use Rattle.std.specs.Prelude.{◌==◌, IfSome, is_some}
use Rattle.std.specs.Int.{w64, to_be_bytes}
use Rattle.std.specs.List.{filter_map, flat_map, list_all, cons_option}
use Rattle.std.specs.Option.{option_map}
use Rattle.std.proofs.lemmas.List.Concat.{flat_map-cons, flat_map-append}
use Rattle.lists.specs.Lists.{below}
use Rattle.labels.specs.Label.{ClassEntry}
use Rattle.words_layout.specs.Segments.{numbered}
use Rattle.words_layout.specs.Limits.{IsIdentity}
use Rattle.words_layout.specs.declared.segment.SegId.{SegId}
use Rattle.config_text.specs.declared.config.Config.{Config as ConfigText}
use Rattle.config_text.specs.Valid.{IsValid, pool_ok}
use Rattle.class_model.specs.Config.{Config, SegRecord}
use Rattle.volume_image.specs.Written.{kept_bytes, record_bytes, front, written}
use Rattle.volume_image.specs.Images.{Drawn, room}
use Rattle.volume_image.proofs.Counting.{begun_whole}
use Rattle.end_volumes.specs.declared.origins.Origin.{Origin}
use Rattle.end_volumes.specs.After.{Tree, origin, found, record_of, record_after, records_after, listed}
use Rattle.end_volumes.proofs.FirstAnswers.{filter_map_more, filter_map_same, filter_map_count, filter_map_by_number}
use Rattle.end_volumes.proofs.AfterOrigins.{origin_placed}
use Rattle.end_volumes.proofs.AfterPaths.{found_same}

-- ---- how long a record gets

words_length : (ws : List ℕ) → length (flat_map (to_be_bytes w64) ws) ≡ 8 * length ws
words_length [] = refl
words_length (w ∷ ws) =
    let parts : length (flat_map (to_be_bytes w64) (w ∷ ws)) ≡ 8 + length (flat_map (to_be_bytes w64) ws) =
    ap length (flat_map-cons (to_be_bytes w64) w ws) ∙ length-append (to_be_bytes w64 w) (flat_map (to_be_bytes w64) ws) in
    omega (arith, parts, words_length ws)

kept_length : (kept : Option (List ℕ)) → IfSome kept (λ ws. length ws ≤ 64) → length (kept_bytes kept) ≤ 513
kept_length None few = omega arith
kept_length (Some ws) few = omega (arith, words_length ws, few)

pub record_length : (r : SegRecord) → IfSome r.kept (λ ws. length ws ≤ 64) → length (record_bytes r) ≤ 523
unfolding record_bytes
record_length r few = omega (arith, kept_length r.kept few)

pub record_fits : (spare : ℕ) (r : SegRecord) → IfSome r.kept (λ ws. length ws ≤ 64) → 523 ≤ spare → length (record_bytes r) ≤ spare
record_fits spare r few room = omega (arith, record_length r few, room)

pub record_adds : (old new : List ℕ) (r : SegRecord) → new ≡ old ++ record_bytes r → IfSome r.kept (λ ws. length ws ≤ 64) → length new ≤ length old + 523
record_adds old new r is few = omega (arith, ap length is, length-append old (record_bytes r), record_length r few)

pub mapped_few : {X : Type 0} (g : X → List ℕ) (o : Option X) → IfSome o (λ x. length (g x) ≤ 64) → IfSome (option_map g o) (λ ws. length ws ≤ 64)
mapped_few g None few = tt
mapped_few g (Some x) few = few

-- ---- the records, one after the other

-- The records of the numbers below n were added to the first image.
pub record Adding (f : ℕ → Option SegRecord) (n : ℕ) (first now : Drawn) : Type 0 where
  pub bytes : now.bytes ≡ first.bytes ++ flat_map record_bytes (filter_map f (below n))
  pub few : length now.bytes ≤ length first.bytes + 523 * n
  pub wide : room first ≤ room now

module _ (f : ℕ → Option SegRecord) (n : ℕ) where
  pub bytes_more : (r : SegRecord) (first now after : List ℕ) → f n ≡ Some r → now ≡ first ++ flat_map record_bytes (filter_map f (below n)) → after ≡ now ++ record_bytes r → after ≡ first ++ flat_map record_bytes (filter_map f (below (n + 1)))
  bytes_more r first now after is so_far more =
      let rs : List SegRecord = filter_map f (below n) in
      let one : flat_map record_bytes (filter_map f (below (n + 1))) ≡ flat_map record_bytes rs ++ record_bytes r =
      ap (flat_map record_bytes) (filter_map_more f n ∙ ap (λ (o : Option SegRecord). rs ++ cons_option o []) is) ∙ (flat_map-append record_bytes rs (r ∷ []) ∙ ap (λ (t : List ℕ). flat_map record_bytes rs ++ t) (append-nil (record_bytes r))) in
      more ∙ (ap (λ (t : List ℕ). t ++ record_bytes r) so_far ∙ (append_assoc first (flat_map record_bytes rs) (record_bytes r) ∙ ap (λ (t : List ℕ). first ++ t) (sym one)))

  pub bytes_same : (first now : List ℕ) → f n ≡ None → now ≡ first ++ flat_map record_bytes (filter_map f (below n)) → now ≡ first ++ flat_map record_bytes (filter_map f (below (n + 1)))
  bytes_same first now is so_far =
      let rs : List SegRecord = filter_map f (below n) in
      let one : filter_map f (below (n + 1)) ≡ rs = filter_map_more f n ∙ (ap (λ (o : Option SegRecord). rs ++ cons_option o []) is ∙ append-nil rs) in
      so_far ∙ ap (λ (t : List SegRecord). first ++ flat_map record_bytes t) (sym one)

pub adding_none : (f : ℕ → Option SegRecord) (first : Drawn) → Adding f 0 first first
adding_none f first = record { bytes = sym (append-nil first.bytes); few = omega arith; wide = omega arith }

pub adding_more : (f : ℕ → Option SegRecord) (n : ℕ) (first now after : Drawn) (r : SegRecord) → Adding f n first now → f n ≡ Some r → after.bytes ≡ now.bytes ++ record_bytes r → length after.bytes ≤ length now.bytes + 523 → room now ≤ room after → Adding f (n + 1) first after
adding_more f n first now after r a is added few wide = record {
  bytes = bytes_more f n r first.bytes now.bytes after.bytes is a.bytes added;
  few = omega (arith, a.few, few);
  wide = omega (arith, a.wide, wide);
}

pub adding_same : (f : ℕ → Option SegRecord) (n : ℕ) (first now : Drawn) → Adding f n first now → f n ≡ None → Adding f (n + 1) first now
adding_same f n first now a is = record { bytes = bytes_same f n first.bytes now.bytes is a.bytes; few = omega (arith, a.few); wide = a.wide }

module _ (f : ℕ → Option Origin) (n count : ℕ) (so_far : count ≡ length (filter_map f (below n))) where
  pub count_more : (o : Option Origin) → o ≡ f n → is_some o ≡ true → count + 1 ≡ length (filter_map f (below (n + 1)))
  count_more None is some = absurd cc
  count_more (Some x) is some =
      let one : filter_map f (below (n + 1)) ≡ filter_map f (below n) ++ x ∷ [] = filter_map_more f n ∙ ap (λ (y : Option Origin). filter_map f (below n) ++ cons_option y []) (sym is) in
      omega (arith, so_far, ap length one, length-append (filter_map f (below n)) (x ∷ []))

  pub count_same : (o : Option Origin) → o ≡ f n → is_some o ≡ false → count ≡ length (filter_map f (below (n + 1)))
  count_same None is none =
      so_far ∙ sym (ap length (filter_map_more f n ∙ (ap (λ (x : Option Origin). filter_map f (below n) ++ cons_option x []) (sym is) ∙ append-nil (filter_map f (below n)))))
  count_same (Some x) is none = absurd cc

-- ---- the whole

-- one pool for each class
pub pools_are : (k : ConfigText) → IsValid k → length k.pools ≡ length k.table
pools_are k valid = eqb-true (length k.pools) (length k.table) (and_parts (length k.pools == length k.table) (list_all pool_ok k.pools) valid.pools).0

module _ (k : Config) (v : ℕ) (table : List ClassEntry) (t : Tree) (list : List (Option Origin)) (few : length table ≤ 16) (n_is : t.classes ≡ length table)
    (stand : (u : SegId) → IsIdentity u → u.mentor < t.classes → listed list u ≡ origin t u) where
  abbrev n : ℕ
  n = length table

  -- segments of the table's classes
  abbrev IsOf : SegId → Type 0
  IsOf u = (u.mentor < n) × (u.serial < 64)

  same_places : (u : SegId) → IsOf u → listed list u ≡ origin t u
  same_places u h = stand u (omega (arith, few, h.0), h.1) (omega (arith, n_is, h.0))

  closed : (u : SegId) → IsOf u → IfSome (origin t u) (λ (o : Origin). IsOf o.mentor)
  closed u h = subst (λ m. IfSome (origin t u) (λ (o : Origin). (o.mentor.mentor < m) × (o.mentor.serial < 64))) n_is (origin_placed t u)

  found_is : (u : SegId) → IsOf u → found k v (listed list) (64 * n) u ≡ found k v (origin t) (64 * n) u
  found_is u h = found_same k (listed list) (origin t) IsOf same_places closed v (64 * n) u h

  -- what is found by number
  abbrev by_number : ℕ → Option Origin
  by_number j = found k v (listed list) (64 * n) (numbered j)

  abbrev made : ℕ → Option SegRecord
  made j = option_map (record_of t (numbered j)) (by_number j)

  record_is : (j : ℕ) → j < 64 * n → made j ≡ record_after k v t (numbered j)
  record_is j lt =
      let h : IsOf (numbered j) = (omega (arith, lt), omega arith) in
      ap (option_map (record_of t (numbered j))) (found_is (numbered j) h ∙ ap (λ m. found k v (origin t) (64 * m) (numbered j)) (sym n_is))

  pub records_are : filter_map made (below (64 * n)) ≡ records_after k v t
  records_are =
      filter_map_same made (λ j. record_after k v t (numbered j)) (64 * n) record_is
      ∙ (ap (λ m. filter_map (λ j. record_after k v t (numbered j)) (below (64 * m))) (sym n_is)
      ∙ sym (filter_map_by_number (record_after k v t) t.classes))

  pub whole : (count : ℕ) (first bytes : List ℕ) → count ≡ length (filter_map by_number (below (64 * n))) → first ≡ front table count → bytes ≡ first ++ flat_map record_bytes (filter_map made (below (64 * n))) →
      bytes ≡ written table (records_after k v t)
  whole count first bytes counted start added =
      let rs : List SegRecord = records_after k v t in
      let long : count ≡ length rs = counted ∙ (sym (filter_map_count (λ j. record_of t (numbered j)) by_number (below (64 * n))) ∙ ap length records_are) in
      let parts : bytes ≡ front table (length rs) ++ flat_map record_bytes rs = added ∙ (λ j. (start ∙ ap (front table) long) j ++ flat_map record_bytes (records_are j)) in
      parts ∙ (ap (λ (x : List SegRecord). front table (length rs) ++ flat_map record_bytes x) (sym (take_all (length rs) rs (omega arith))) ∙ begun_whole table rs)
