-- Records that are collected, record by record and volume by volume.
use Rattle.std.proofs.Common.{ℕ, ◌+◌, ◌<◌, ◌≤◌, List, [], ◌∷◌, ◌++◌, ◌≡◌, refl, sym, ap, ◌∙◌, Option, Some, None, length, get_or, take, drop, append_assoc}
use Rattle.std.proofs.lemmas.List.{append-nil, drop_more, drop_all, take_more, take_all}
use Rattle.std.proofs.lemmas.List.Concat.{flat_map-append}
use Rattle.std.proofs.lemmas.List.Elements.{filter_map-append}
use Rattle.std.specs.List.{cons_option, filter_map}
use Rattle.std.specs.Option.{option_to_list}
use Rattle.class_model.specs.Config.{SegRecord}
use Rattle.loader.specs.Records.{Volumes, records_of}

front_is : (o : Option SegRecord) (rest : List SegRecord) → option_to_list o ++ rest ≡ cons_option o rest
front_is None rest = refl
front_is (Some x) rest = refl

module _ (g : SegRecord → Option SegRecord) where
  -- the records from place i on: what it gives of that one, and of the later ones
  item_parts : (xs : List SegRecord) (i : ℕ) (x : SegRecord) (o : Option SegRecord) → i < length xs → x ≡ get_or xs i x → o ≡ g x → filter_map g (drop i xs) ≡ cons_option o (filter_map g (drop (i + 1) xs))
  item_parts xs i x o lt is made =
      ap (filter_map g) (drop_more xs i x lt ∙ ap (λ (z : SegRecord). z ∷ drop (i + 1) xs) (sym is)) ∙ ap (λ (p : Option SegRecord). cons_option p (filter_map g (drop (i + 1) xs))) (sym made)

  pub item_added : (xs : List SegRecord) (i : ℕ) (x : SegRecord) (o : Option SegRecord) (so_far new all : List SegRecord) → so_far ++ filter_map g (drop i xs) ≡ all → i < length xs → x ≡ get_or xs i x →
      o ≡ g x → new ≡ so_far ++ option_to_list o → new ++ filter_map g (drop (i + 1) xs) ≡ all
  item_added xs i x o so_far new all before lt is made push =
      let rest : List SegRecord = filter_map g (drop (i + 1) xs) in
      ap (λ (t : List SegRecord). t ++ rest) push ∙ append_assoc so_far (option_to_list o) rest
      ∙ ap (λ (t : List SegRecord). so_far ++ t) (front_is o rest ∙ sym (item_parts xs i x o lt is made)) ∙ before

  pub items_ended : (xs : List SegRecord) (i : ℕ) (so_far all : List SegRecord) → so_far ++ filter_map g (drop i xs) ≡ all → length xs ≤ i → so_far ≡ all
  items_ended xs i so_far all before past = sym (append-nil so_far) ∙ ap (λ (t : List SegRecord). so_far ++ filter_map g t) (sym (drop_all i xs past)) ∙ before

  pub volume_more : (vs : Volumes) (i : ℕ) (x : ℕ × List SegRecord) (rs so_far new : List SegRecord) → so_far ≡ filter_map g (records_of (take i vs)) → i < length vs → rs ≡ (get_or vs i x).1 →
      new ≡ so_far ++ filter_map g rs → new ≡ filter_map g (records_of (take (i + 1) vs))
  volume_more vs i x rs so_far new before lt is added =
      let a : List SegRecord = records_of (take i vs) in
      let more : records_of (take (i + 1) vs) ≡ a ++ (get_or vs i x).1 =
      ap records_of (take_more vs i x lt) ∙ flat_map-append (λ (v : ℕ × List SegRecord). v.1) (take i vs) (get_or vs i x ∷ []) ∙ ap (λ (t : List SegRecord). a ++ t) (append-nil (get_or vs i x).1) in
      added ∙ ap (λ (t : List SegRecord). t ++ filter_map g rs) before ∙ sym (filter_map-append g a rs) ∙ ap (λ (t : List SegRecord). filter_map g (a ++ t)) is ∙ sym (ap (filter_map g) more)

  pub volumes_ended : (vs : Volumes) (i : ℕ) (all : List SegRecord) → all ≡ filter_map g (records_of (take i vs)) → length vs ≤ i → all ≡ filter_map g (records_of vs)
  volumes_ended vs i all before past = before ∙ ap (λ (t : Volumes). filter_map g (records_of t)) (take_all i vs past)
