-- The words after stores, by name.
use Rattle.std.proofs.Common.{ℕ, ◌*◌, ◌<◌, Bool, true, false, ◌&&◌, List, [], ◌∷◌, ◌≡◌, ◌⊎◌, inl, inr, refl, sym, ap, subst, ◌∙◌, length, replicate}
use Rattle.std.proofs.lemmas.Bool.{cases_eq, ne_eqb, eq-eqb, and_from, and_right, lt-ltb}
use Rattle.std.proofs.lemmas.List.{length-replicate, length-set}
use Rattle.std.specs.Prelude.{◌==◌, if◌then◌else◌, fold, nat_lt}
use Rattle.std.specs.List.{AllByRecursion}
use Rattle.words_layout.specs.Words.{GuardedWord, NextSerial, HomeOf, PageTenant, PageWord, Started, Tickets, Finished, Places, ComponentOf, SequencerOf, Guarded, Words, Store, same_word, address}
use Rattle.words_layout.specs.Limits.{IsIdentity, identity_in_limits, guarded_in_limits}
use Rattle.words_layout.specs.declared.segment.SegId.{SegId}
use Rattle.words_layout.specs.Named.{word_in, words_in, PerformedByName}
use Rattle.words_layout.proofs.Addresses.{address_limit}
use Rattle.words_layout.proofs.ByName.{operations_go_by_name, fresh_words_are_zero}
use Rattle.class_model.specs.Config.{SegRecord}
use Rattle.loader.specs.Stores.{IsStorable, WordStore, store_in, stored, after_stores, entry_store}

-- the store is of that word
abbrev pub names : ℕ → GuardedWord → WordStore → Bool
names c q s = same_word q s.word && s.class == c

-- what a guarded word is after the stores: the number of the last one that is of it, and else what it was
abbrev pub value_after : ℕ → GuardedWord → ℕ → List WordStore → ℕ
value_after c q v ss = fold (λ n (s : WordStore). if names c q s then s.number else n) v ss

-- The layout has the word of the store.
pub record StoreFits (classes : ℕ) (s : WordStore) : Type 0 where
  pub class : s.class < classes
  pub word : guarded_in_limits s.word ≡ true

-- the words of a class but the guarded ones
abbrev pub unguarded : Words → Words
unguarded w = record w { guarded = λ q. 0 }

and_yes : (a b : Bool) → b ≡ true → (a && b) ≡ a
and_yes true b e = e
and_yes false b e = refl

pub length_after : (ss : List WordStore) (ws : List ℕ) → length (after_stores ws ss) ≡ length ws
length_after [] ws = refl
length_after (s ∷ ss) ws = length_after ss (stored ws s) ∙ length-set ws (address s.class (Guarded s.word)) s.number

-- the address of a store lies in the layout
pub store_within : (classes : ℕ) (s : WordStore) → StoreFits classes s → address s.class (Guarded s.word) < 34869 * classes
store_within classes s fits = address_limit classes s.class (Guarded s.word) fits.class fits.word

-- ---- which stores fit

pub identity_fits : (u : SegId) → IsIdentity u → identity_in_limits u ≡ true
identity_fits u ok = and_from (nat_lt u.mentor 16) (nat_lt u.serial 64) (lt-ltb u.mentor 16 ok.0) (lt-ltb u.serial 64 ok.1)

module _ (classes : ℕ) where
  pub entry_fits : (r : SegRecord) → IsStorable classes r → StoreFits classes (entry_store r)
  entry_fits r ok = record { class = ok.under; word = and_from (identity_in_limits r.mentor) (nat_lt r.entry 8) (identity_fits r.mentor ok.mentor) (lt-ltb r.entry 8 ok.entry) }

  module _ (c : ℕ) (known : c < classes) where
    pub serial_fits : (n : ℕ) → StoreFits classes (store_in c NextSerial n)
    serial_fits n = record { class = known; word = refl }

    pub home_fits : (u : SegId) (n : ℕ) → IsIdentity u → StoreFits classes (store_in c (HomeOf u) n)
    home_fits u n ok = record { class = known; word = identity_fits u ok }

    pub tenant_fits : (g n : ℕ) → g < 32 → StoreFits classes (store_in c (PageTenant g) n)
    tenant_fits g n low = record { class = known; word = lt-ltb g 32 low }

    pub word_fits : (g i n : ℕ) → g < 32 → i < 64 → StoreFits classes (store_in c (PageWord g i) n)
    word_fits g i n low few = record { class = known; word = and_from (nat_lt g 32) (nat_lt i 64) (lt-ltb g 32 low) (lt-ltb i 64 few) }

  -- where a store is made that fits, the layout has its address
  pub there : (s : WordStore) (a : ℕ) → StoreFits classes s → a ≡ address s.class (Guarded s.word) → a < 34869 * classes
  there s a fits e = subst (λ n. n < 34869 * classes) (sym e) (store_within classes s fits)

-- ---- by name

module _ (classes : ℕ) where
  -- ---- one store

  module _ (ws : List ℕ) (s : WordStore) (long : length ws ≡ 34869 * classes) (fits : StoreFits classes s) where
    by_name : PerformedByName ws s.class (Store (Guarded s.word) s.number) 0 (stored ws s)
    by_name = operations_go_by_name classes s.class (Store (Guarded s.word) s.number) ws 0 (stored ws s) long fits.class fits.word (record { answered = refl; done = refl })

    guarded_one : (c : ℕ) (q : GuardedWord) → word_in (stored ws s) c (Guarded q) ≡ (if names c q s then s.number else word_in ws c (Guarded q))
    guarded_one c q = either (cases_eq s.class c)
      where
        either : (s.class ≡ c) ⊎ (s.class ≡ c → ⊥) → word_in (stored ws s) c (Guarded q) ≡ (if names c q s then s.number else word_in ws c (Guarded q))
        either (inl same) = subst (λ d. word_in (stored ws s) d (Guarded q) ≡ (if names d q s then s.number else word_in ws d (Guarded q))) same
            (ap (λ (w : Words). w.guarded q) by_name.own
            ∙ ap (λ (b : Bool). if b then s.number else word_in ws s.class (Guarded q)) (sym (and_yes (same_word q s.word) (s.class == s.class) (eq-eqb s.class s.class refl))))
        either (inr apart) =
            ap (λ (w : Words). w.guarded q) (by_name.others c (λ e. apart (sym e)))
            ∙ ap (λ (b : Bool). if b then s.number else word_in ws c (Guarded q)) (sym (and_right (same_word q s.word) (s.class == c) (ne_eqb s.class c apart)))

    rest_one : (c : ℕ) → unguarded (words_in (stored ws s) c) ≡ unguarded (words_in ws c)
    rest_one c = either (cases_eq s.class c)
      where
        either : (s.class ≡ c) ⊎ (s.class ≡ c → ⊥) → unguarded (words_in (stored ws s) c) ≡ unguarded (words_in ws c)
        either (inl same) = subst (λ d. unguarded (words_in (stored ws s) d) ≡ unguarded (words_in ws d)) same (ap unguarded by_name.own)
        either (inr apart) = ap unguarded (by_name.others c (λ e. apart (sym e)))

  -- ---- many stores

  guarded_after : (ss : List WordStore) (ws : List ℕ) → length ws ≡ 34869 * classes → AllByRecursion (StoreFits classes) ss → (c : ℕ) (q : GuardedWord) →
      word_in (after_stores ws ss) c (Guarded q) ≡ value_after c q (word_in ws c (Guarded q)) ss
  guarded_after [] ws long fits c q = refl
  guarded_after (s ∷ ss) ws long fits c q =
      guarded_after ss (stored ws s) (length-set ws (address s.class (Guarded s.word)) s.number ∙ long) fits.1 c q
      ∙ ap (λ n. value_after c q n ss) (guarded_one ws s long fits.0 c q)

  rest_after : (ss : List WordStore) (ws : List ℕ) → length ws ≡ 34869 * classes → AllByRecursion (StoreFits classes) ss → (c : ℕ) →
      unguarded (words_in (after_stores ws ss) c) ≡ unguarded (words_in ws c)
  rest_after [] ws long fits c = refl
  rest_after (s ∷ ss) ws long fits c =
      rest_after ss (stored ws s) (length-set ws (address s.class (Guarded s.word)) s.number ∙ long) fits.1 c ∙ rest_one ws s long fits.0 c

  -- ---- from words that are all 0

  abbrev fresh : List ℕ
  fresh = replicate (34869 * classes) 0

  -- the words of a class of which only guarded ones may be other than 0
  abbrev pub zero_but : (GuardedWord → ℕ) → Words
  zero_but f = record {
    started = λ g. 0;
    tickets = λ g. 0;
    finished = λ g. 0;
    places = 0;
    component = λ x u. 0;
    sequencer = λ u. 0;
    guarded = f;
  }

  fresh_rest : (c : ℕ) → unguarded (words_in fresh c) ≡ zero_but (λ q. 0)
  fresh_rest c = λ j. record {
    started = λ g. (fresh_words_are_zero (34869 * classes) c (Started g)) j;
    tickets = λ g. (fresh_words_are_zero (34869 * classes) c (Tickets g)) j;
    finished = λ g. (fresh_words_are_zero (34869 * classes) c (Finished g)) j;
    places = (fresh_words_are_zero (34869 * classes) c Places) j;
    component = λ x u. (fresh_words_are_zero (34869 * classes) c (ComponentOf x u)) j;
    sequencer = λ u. (fresh_words_are_zero (34869 * classes) c (SequencerOf u)) j;
    guarded = λ q. 0;
  }

  pub words_after_stores : (ss : List WordStore) → AllByRecursion (StoreFits classes) ss → (c : ℕ) (f : GuardedWord → ℕ) → ((q : GuardedWord) → value_after c q 0 ss ≡ f q) →
      words_in (after_stores fresh ss) c ≡ zero_but f
  words_after_stores ss fits c f each =
      let long : length fresh ≡ 34869 * classes = length-replicate {A = ℕ} (34869 * classes) 0 in
      let rest : unguarded (words_in (after_stores fresh ss) c) ≡ zero_but (λ q. 0) = rest_after ss fresh long fits c ∙ fresh_rest c in
      let here : (q : GuardedWord) → word_in (after_stores fresh ss) c (Guarded q) ≡ f q = λ q.
      guarded_after ss fresh long fits c q ∙ ap (λ n. value_after c q n ss) (fresh_words_are_zero (34869 * classes) c (Guarded q)) ∙ each q in
      λ j. record (rest j) { guarded = λ q. (here q) j }
