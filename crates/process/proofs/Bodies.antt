-- What the body of each request may show fits, whatever it loads.
use Rattle.std.proofs.Common.{ℕ, zero, suc, ◌+◌, ◌<◌, Bool, true, false, ◌&&◌, ◌||◌, List, [], ◌∷◌, ◌++◌, ◌≡◌, refl, sym, ap, ◌∙◌, subst, inl, inr, Option, Some, None, ◌≤◌, length, arith}
use Rattle.std.specs.Prelude.{◌==◌, if◌then◌else◌, nat_le, nat_lt, unwrap_or, is_some}
use Rattle.std.proofs.lemmas.Bool.{and_parts, and_from, lt-ltb, or_cases, ltb-true, leb-true, eqb-true}
use Rattle.labels.specs.Label.{label_of}
use Rattle.labels.proofs.OrderLaws.{dominates_twin}
use Rattle.labels.proofs.Tables.{class_antisymmetric}
use Rattle.rings.specs.Brackets.{Brackets, in_order}
use Rattle.words_layout.specs.Coding.{home_of, entry_of, unpack_home, unpack_alias, home_in_range, page_in_range, alias_in_range, size_in_range, pack_entry}
use Rattle.words_layout.specs.Limits.{identity_in_limits, guarded_in_limits}
use Rattle.words_layout.specs.Segments.{seg}
use Rattle.words_layout.specs.Words.{GuardedWord, NextSerial, EntryOf, plus_one, FrameTenant, FrameWord, PageTenant, PageWord}
use Rattle.words_layout.specs.declared.coding.Alias.{Alias}
use Rattle.words_layout.specs.declared.coding.Home.{Home}
use Rattle.words_layout.specs.declared.coding.Home.TheVariants as H
use Rattle.words_layout.specs.declared.segment.SegId.{SegId}
use Rattle.words_layout.proofs.Spellings.{unpack_home-exact, unpack_alias-exact}
use Rattle.policy.specs.Known.{Known, observes, modifies, signals, rights_of, alias_brackets, known_by, in_table, new_alias}
use Rattle.policy.specs.Outcome.{Outcome, Refused, Value, shown, judged}
use Rattle.policy.specs.Verdict.{verdict}
use Rattle.policy.specs.declared.rule.Rule.{Rule}
use Rattle.policy.specs.declared.rule.Rule.TheVariants.{SerialsUsed, NotEmpty}
use Rattle.policy.proofs.Verdicts.{passes_where_permitted}
use Rattle.turns.specs.Bodies.{Inner, Outer}
use Rattle.tree_gates.specs.Tree.{make_known_body, create_serial, create_entry, create_home, create_body, check_entries, free_page, free_home, delete_child, delete_entry, delete_body}
use Rattle.swap_gates.specs.Swap.{find_free, zero_words, copy_words, fill_frame, bring_in, swap_in_home, swap_in_body, take_out, take_page, swap_out_home, swap_out_body}
use Rattle.data_gates.specs.Data.{load_words, fetch_home, fetch_body, store_words, count_write, update_home, update_body}
use Rattle.class_model.specs.Config.{Shared, classes, flows}
use Rattle.process.specs.Fits.{IsSound, KnownFits, OutcomeFits, LoadsFit, InnerFits, OuterFits}

-- what the three modes of makeknown come to: some right, and no other than the mode asks for
pub record IsMode (mode : ℕ) : Type 0 where
  pub some_right : (observes (rights_of mode) || modifies (rights_of mode) || signals (rights_of mode)) ≡ true
  pub observed : observes (rights_of mode) ≡ true → observes mode ≡ true
  pub modified : modifies (rights_of mode) ≡ true → (observes mode ≡ true) × (modifies mode ≡ true)

pub is_mode : (mode : ℕ) → (mode == 1 || mode == 2 || mode == 3) ≡ true → IsMode mode
is_mode mode h = elim (or_cases (mode == 1 || mode == 2) (mode == 3) h) [
  | inl e ↦ elim (or_cases (mode == 1) (mode == 2) e) [
    | inl f ↦ subst IsMode (sym (eqb-true mode 1 f)) one
    | inr f ↦ subst IsMode (sym (eqb-true mode 2 f)) two
  ]
  | inr e ↦ subst IsMode (sym (eqb-true mode 3 e)) three
]
  where
    one : IsMode 1
    one = record { some_right = refl; observed = λ e. refl; modified = λ e. absurd (cc) }

    two : IsMode 2
    two = record { some_right = refl; observed = λ e. absurd (cc); modified = λ e. absurd (cc) }

    three : IsMode 3
    three = record { some_right = refl; observed = λ e. refl; modified = λ e. (refl, refl) }

-- an entry that a word spells is in range
spelled_whole : (word : ℕ) (o : Option (Option Alias)) (a : Alias) → unpack_alias word ≡ o → unwrap_or o None ≡ Some a → alias_in_range a ≡ true
spelled_whole word None a e h = absurd (cc)
spelled_whole word (Some entry) a e h = ((unpack_alias-exact word (Some a)).0 (e ∙ ap Some h)).range

spelled : (word : ℕ) (a : Alias) → entry_of word ≡ Some a → alias_in_range a ≡ true
spelled word a h = spelled_whole word (unpack_alias word) a refl h

-- a home that a word is taken for is in range
home_spelled : (word : ℕ) (o : Option Home) → unpack_home word ≡ o → home_in_range (unwrap_or o H.Never) ≡ true
home_spelled word None e = refl
home_spelled word (Some h) e = ((unpack_home-exact word h).0 e).range

homely : (word : ℕ) → home_in_range (home_of word) ≡ true
homely word = home_spelled word (unpack_home word) refl

-- the frame and the page of a resident home
frame_there : (f size : ℕ) (page : Option ℕ) → home_in_range (H.Resident f page size) ≡ true → (nat_lt f 16 ≡ true) × (page_in_range page ≡ true)
frame_there f size page h = and_parts (nat_lt f 16) (page_in_range page) (and_parts (nat_lt f 16 && page_in_range page) (size_in_range size) h).0

-- the page of a stored one
page_there : (g size : ℕ) → home_in_range (H.Stored g size) ≡ true → nat_lt g 32 ≡ true
page_there g size h = (and_parts (nat_lt g 32) (size_in_range size) h).0

-- a word of a frame or a page
word_there : (test : Bool) (i : ℕ) → test ≡ true → i < 64 → (test && nat_lt i 64) ≡ true
word_there test i h lt = and_from test (nat_lt i 64) h (lt-ltb i 64 lt)

module _ (s : Shared) (good : IsSound s) (d : ℕ) (below : d < classes s) (ring m : ℕ) (mentor : m < classes s) (mode : ℕ) (known_mode : IsMode mode) where
  module _ (a : Alias) (range : alias_in_range a ≡ true) (there : (nat_lt a.class (classes s) && in_order (alias_brackets a)) ≡ true)
      (passed : verdict (label_of s.table d) ring (label_of s.table a.class) (alias_brackets a) mode ≡ None) where
    class_there : a.class < classes s
    class_there = ltb-true a.class (classes s) (and_parts (nat_lt a.class (classes s)) (in_order (alias_brackets a)) there).0

    up : observes mode ≡ true → flows s a.class d ≡ true
    up o =
        let p = ((passes_where_permitted (label_of s.table d) ring (label_of s.table a.class) (alias_brackets a) mode).0 passed).observing o in
        (dominates_twin (label_of s.table d) (label_of s.table a.class)).1 (p.no_read_up, p.no_read_down)

    down : modifies mode ≡ true → flows s d a.class ≡ true
    down w =
        let p = ((passes_where_permitted (label_of s.table d) ring (label_of s.table a.class) (alias_brackets a) mode).0 passed).modifying w in
        (dominates_twin (label_of s.table a.class) (label_of s.table d)).1 (p.no_write_down, p.no_write_up)

    learned_fits : KnownFits s d (known_by m a (rights_of mode))
    learned_fits =
        let serial = and_parts _ (nat_lt a.serial 64) range in
        let size = and_parts _ (size_in_range a.size) serial.0 in
        record {
          class = class_there;
          mentor = mentor;
          serial = ltb-true a.serial 64 serial.1;
          size = leb-true a.size 64 (and_parts (nat_le 1 a.size) (nat_le a.size 64) size.1).1;
          in_order = (and_parts (nat_lt a.class (classes s)) (in_order (alias_brackets a)) there).1;
          some_right = known_mode.some_right;
          observed = λ o. up (known_mode.observed o);
          modified = λ w. let both = known_mode.modified w in class_antisymmetric s.table good.table a.class d class_there below (up both.0) (down both.1);
        }

  judged_fits : (a : Alias) → alias_in_range a ≡ true → (nat_lt a.class (classes s) && in_order (alias_brackets a)) ≡ true → (v : Option Rule) →
      verdict (label_of s.table d) ring (label_of s.table a.class) (alias_brackets a) mode ≡ v → OutcomeFits s d (judged v (known_by m a (rights_of mode)))
  judged_fits a range there None e = learned_fits a range there e
  judged_fits a range there (Some rule) e = tt

  entry_fits : (o : Option Alias) → ((a : Alias) → o ≡ Some a → alias_in_range a ≡ true) → OutcomeFits s d (shown s.table d ring m mode (in_table s.table o))
  entry_fits None range = tt
  entry_fits (Some a) range = at (nat_lt a.class (classes s) && in_order (alias_brackets a)) refl
    where
      at : (b : Bool) → (nat_lt a.class (classes s) && in_order (alias_brackets a)) ≡ b → OutcomeFits s d (shown s.table d ring m mode (if b then Some a else None))
      at true e = judged_fits a (range a refl) e (verdict (label_of s.table d) ring (label_of s.table a.class) (alias_brackets a) mode) refl
      at false e = tt

  pub make_known_fits : (k : Known) (e : ℕ) → k.class ≡ m → identity_in_limits k.seg ≡ true → nat_lt e 8 ≡ true → LoadsFit s d (make_known_body s.table d ring k e mode)
  make_known_fits k e same known low = (
    and_from (identity_in_limits k.seg) (nat_lt e 8) known low,
    λ w. subst (λ (x : ℕ). OutcomeFits s d (shown s.table d ring x mode (in_table s.table (entry_of w)))) (sym same) (entry_fits (entry_of w) (spelled w)),
  )

module _ (s : Shared) (d : ℕ) where
  -- ---- fetch and update

  load_fits : (f at n : ℕ) (got : List ℕ) (pad : ℕ) → nat_lt f 16 ≡ true → at + n ≤ 64 → LoadsFit s d (load_words f at n got pad)
  load_fits f at zero got pad frame room = tt
  load_fits f at (suc n) got pad frame room = (word_there (nat_lt f 16) at frame (omega arith), λ w. load_fits f (at + 1) n (got ++ w ∷ []) pad frame (omega arith))

  fetched_fits : (offset count pad : ℕ) (h : Home) → offset + count ≤ 64 → home_in_range h ≡ true → LoadsFit s d (fetch_home offset count pad h)
  fetched_fits offset count pad (H.Resident f page size) room h = load_fits f offset count [] pad (frame_there f size page h).0 room
  fetched_fits offset count pad H.Deleted room h = tt
  fetched_fits offset count pad H.Never room h = tt
  fetched_fits offset count pad (H.Stored g size) room h = tt

  pub fetch_fits : (u : SegId) (offset count pad : ℕ) → identity_in_limits u ≡ true → offset + count ≤ 64 → LoadsFit s d (fetch_body u offset count pad)
  fetch_fits u offset count pad known room = (known, λ w. fetched_fits offset count pad (home_of w) room (homely w))

  store_fits : (f at : ℕ) (words : List ℕ) (rest : Inner Outcome) → nat_lt f 16 ≡ true → at + length words ≤ 64 → InnerFits s d rest → InnerFits s d (store_words f at words rest)
  store_fits f at [] rest frame room h = h
  store_fits f at (v ∷ vs) rest frame room h = (word_there (nat_lt f 16) at frame (omega arith), store_fits f (at + 1) vs rest frame (omega arith) h)

  updated_fits : (u : SegId) (offset : ℕ) (words : List ℕ) (h : Home) → identity_in_limits u ≡ true → offset + length words ≤ 64 → home_in_range h ≡ true → InnerFits s d (update_home u offset words h)
  updated_fits u offset words (H.Resident f page size) known room h = store_fits f offset words (count_write u) (frame_there f size page h).0 room (known, λ old. tt)
  updated_fits u offset words H.Deleted known room h = tt
  updated_fits u offset words H.Never known room h = tt
  updated_fits u offset words (H.Stored g size) known room h = tt

  pub update_fits : (u : SegId) (offset : ℕ) (words : List ℕ) → identity_in_limits u ≡ true → offset + length words ≤ 64 → InnerFits s d (update_body u offset words)
  update_fits u offset words known room = (known, λ w. updated_fits u offset words (home_of w) known room (homely w))

  -- ---- swapin and swapout

  either_inner : (b : Bool) (x y : Inner Outcome) → InnerFits s d x → InnerFits s d y → InnerFits s d (if b then x else y)
  either_inner true x y h k = h
  either_inner false x y h k = k

  find_fits : (tenant : ℕ → GuardedWord) (most i n : ℕ) (found : ℕ → Inner Outcome) (none : Inner Outcome) → i + n ≤ most →
      ((f : ℕ) → f < most → (guarded_in_limits (tenant f) ≡ true) × InnerFits s d (found f)) → InnerFits s d none → InnerFits s d (find_free tenant i n found none)
  find_fits tenant most i zero found none room each h = h
  find_fits tenant most i (suc n) found none room each h =
      let here = each i (omega arith) in
      (here.0, λ w. either_inner (w == 0) (found i) (find_free tenant (i + 1) n found none) here.1 (find_fits tenant most (i + 1) n found none (omega arith) each h))

  zero_fits : (f i n : ℕ) (rest : Inner Outcome) → nat_lt f 16 ≡ true → i + n ≤ 64 → InnerFits s d rest → InnerFits s d (zero_words f i n rest)
  zero_fits f i zero rest frame room h = h
  zero_fits f i (suc n) rest frame room h = (word_there (nat_lt f 16) i frame (omega arith), zero_fits f (i + 1) n rest frame (omega arith) h)

  -- each of the 64 words is within the limits
  AreWords : (ℕ → GuardedWord) → Type 0
  AreWords words = (i : ℕ) → i < 64 → guarded_in_limits (words i) ≡ true

  frame_words : (f : ℕ) → nat_lt f 16 ≡ true → AreWords (FrameWord f)
  unfolding AreWords
  frame_words f h i lt = word_there (nat_lt f 16) i h lt

  page_words : (g : ℕ) → nat_lt g 32 ≡ true → AreWords (PageWord g)
  unfolding AreWords
  page_words g h i lt = word_there (nat_lt g 32) i h lt

  copy_fits : (from to : ℕ → GuardedWord) (i n : ℕ) (rest : Inner Outcome) → AreWords from → AreWords to → i + n ≤ 64 → InnerFits s d rest → InnerFits s d (copy_words from to i n rest)
  unfolding AreWords
  copy_fits from to i zero rest out into room h = h
  copy_fits from to i (suc n) rest out into room h = (out i (omega arith), λ w. (into i (omega arith), copy_fits from to (i + 1) n rest out into (omega arith) h))

  fill_fits : (f size : ℕ) (page : Option ℕ) (rest : Inner Outcome) → nat_lt f 16 ≡ true → page_in_range page ≡ true → size ≤ 64 → InnerFits s d rest → InnerFits s d (fill_frame f size page rest)
  fill_fits f size None rest frame there room h = zero_fits f 0 size rest frame (omega arith) h
  fill_fits f size (Some g) rest frame there room h = copy_fits (PageWord g) (FrameWord f) 0 size rest (page_words g there) (frame_words f frame) (omega arith) h

  module _ (k : Known) (known : identity_in_limits k.seg ≡ true) (small : k.size ≤ 64) where
    bring_fits : (page : Option ℕ) → page_in_range page ≡ true → (f : ℕ) → f < 16 → (guarded_in_limits (FrameTenant f) ≡ true) × InnerFits s d (bring_in k page f)
    bring_fits page there f low = let frame : nat_lt f 16 ≡ true = lt-ltb f 16 low in (frame, (frame, fill_fits f k.size page _ frame there small (known, tt)))

    swapped_in_fits : (frames : ℕ) (h : Home) → frames ≤ 16 → home_in_range h ≡ true → InnerFits s d (swap_in_home frames k h)
    swapped_in_fits frames H.Deleted few h = tt
    swapped_in_fits frames (H.Resident f page size) few h = tt
    swapped_in_fits frames H.Never few h = find_fits FrameTenant 16 0 frames (bring_in k None) _ (omega arith) (bring_fits None refl) tt
    swapped_in_fits frames (H.Stored g size) few h = find_fits FrameTenant 16 0 frames (bring_in k (Some g)) _ (omega arith) (bring_fits (Some g) (page_there g size h)) tt

    pub swap_in_fits : (frames : ℕ) → frames ≤ 16 → OuterFits s d (swap_in_body frames k)
    swap_in_fits frames few = (known, (known, λ w. swapped_in_fits frames (home_of w) few (homely w)))

    take_fits : (f size g : ℕ) → nat_lt f 16 ≡ true → nat_lt g 32 ≡ true → InnerFits s d (take_out k f size g)
    take_fits f size g frame page = copy_fits (FrameWord f) (PageWord g) 0 k.size _ (frame_words f frame) (page_words g page) (omega arith) (frame, (known, tt))

    page_fits : (f size : ℕ) → nat_lt f 16 ≡ true → (g : ℕ) → g < 32 → (guarded_in_limits (PageTenant g) ≡ true) × InnerFits s d (take_page k f size g)
    page_fits f size frame g low = let page : nat_lt g 32 ≡ true = lt-ltb g 32 low in (page, (page, take_fits f size g frame page))

    swapped_out_fits : (pages : ℕ) (h : Home) → pages ≤ 32 → home_in_range h ≡ true → InnerFits s d (swap_out_home pages k h)
    swapped_out_fits pages H.Deleted few h = tt
    swapped_out_fits pages (H.Resident f (Some g) size) few h = let there = frame_there f size (Some g) h in take_fits f size g there.0 there.1
    swapped_out_fits pages (H.Resident f None size) few h =
        find_fits PageTenant 32 0 pages (take_page k f size) _ (omega arith) (page_fits f size (frame_there f size None h).0) tt
    swapped_out_fits pages H.Never few h = tt
    swapped_out_fits pages (H.Stored g size) few h = tt

    pub swap_out_fits : (pages : ℕ) → pages ≤ 32 → OuterFits s d (swap_out_body pages k)
    swap_out_fits pages few = (known, (known, λ w. swapped_out_fits pages (home_of w) few (homely w)))

  -- ---- create and delete

  either_fits : (b : Bool) (x y : Outer Outcome) → OuterFits s d x → OuterFits s d y → OuterFits s d (if b then x else y)
  either_fits true x y h k = h
  either_fits false x y h k = k

  -- entry e of the segment is within the limits
  entry_there : (u : SegId) (e : ℕ) → identity_in_limits u ≡ true → nat_lt e 8 ≡ true → guarded_in_limits (EntryOf u e) ≡ true
  entry_there u e known low = and_from (identity_in_limits u) (nat_lt e 8) known low

  check_fits : (u : SegId) (e n : ℕ) (rest : Outer Outcome) → identity_in_limits u ≡ true → e + n ≤ 8 → OuterFits s d rest → OuterFits s d (check_entries u e n rest)
  check_fits u e zero rest known room h = h
  check_fits u e (suc n) rest known room h = (
    entry_there u e known (lt-ltb e 8 (omega arith)),
    λ w. either_fits (is_some (entry_of w)) (Outer.Shows (Refused NotEmpty)) (check_entries u (e + 1) n rest) tt (check_fits u (e + 1) n rest known (omega arith) h),
  )

  module _ (u : SegId) (known : identity_in_limits u ≡ true) (e : ℕ) (low : nat_lt e 8 ≡ true) where
    serial_fits : (class : ℕ) (b : Brackets) (size n : ℕ) → OuterFits s d (create_serial u e class b size n)
    serial_fits class b size n = either_fits (nat_le 64 n) (Outer.Shows (Refused SerialsUsed))
        (Outer.Store NextSerial (plus_one n) (Outer.Store (EntryOf u e) (pack_entry (new_alias class b size n)) (Outer.Shows (Value n))))
        tt (refl, (entry_there u e known low, tt))

    entered_fits : (class : ℕ) (b : Brackets) (size : ℕ) (o : Option Alias) → OuterFits s d (create_entry u e class b size o)
    entered_fits class b size (Some a) = tt
    entered_fits class b size None = (refl, λ n. serial_fits class b size n)

    created_fits : (class : ℕ) (b : Brackets) (size : ℕ) (h : Home) → OuterFits s d (create_home u e class b size h)
    created_fits class b size H.Deleted = tt
    created_fits class b size H.Never = (entry_there u e known low, λ w. entered_fits class b size (entry_of w))
    created_fits class b size (H.Stored g n) = (entry_there u e known low, λ w. entered_fits class b size (entry_of w))
    created_fits class b size (H.Resident f page n) = (entry_there u e known low, λ w. entered_fits class b size (entry_of w))

    pub create_fits : (class : ℕ) (b : Brackets) (size : ℕ) → OuterFits s d (create_body u e class b size)
    create_fits class b size = (known, λ w. created_fits class b size (home_of w))

    free_page_fits : (page : Option ℕ) (rest : Inner Outcome) → page_in_range page ≡ true → InnerFits s d rest → InnerFits s d (free_page page rest)
    free_page_fits None rest there h = h
    free_page_fits (Some g) rest there h = (there, h)

    free_fits : (x : Home) (rest : Inner Outcome) → home_in_range x ≡ true → InnerFits s d rest → InnerFits s d (free_home x rest)
    free_fits (H.Resident f page size) rest range h = let there = frame_there f size page range in (there.0, free_page_fits page rest there.1 h)
    free_fits (H.Stored g size) rest range h = (page_there g size range, h)
    free_fits H.Never rest range h = h
    free_fits H.Deleted rest range h = h

    child_fits : (child : SegId) → identity_in_limits child ≡ true → InnerFits s d (delete_child child u e)
    child_fits child there = (there, λ w. free_fits (home_of w) _ (homely w) (there, (entry_there u e known low, tt)))

    entry_deleted_fits : d < 16 → (o : Option Alias) → ((a : Alias) → o ≡ Some a → alias_in_range a ≡ true) → OuterFits s d (delete_entry d u e o)
    entry_deleted_fits few None range = tt
    entry_deleted_fits few (Some a) range =
        let serial : nat_lt a.serial 64 ≡ true = (and_parts _ (nat_lt a.serial 64) (range a refl)).1 in
        let child : identity_in_limits (seg d a.serial) ≡ true = and_from (nat_lt d 16) (nat_lt a.serial 64) (lt-ltb d 16 few) serial in
        either_fits (a.class == d)
        (check_entries (seg d a.serial) 0 8 (Outer.Enter (seg d a.serial) (delete_child (seg d a.serial) u e)))
        (Outer.Store (EntryOf u e) 0 (Outer.Shows (Value 0)))
        (check_fits (seg d a.serial) 0 8 _ child (omega arith) (child, child_fits (seg d a.serial) child))
        (entry_there u e known low, tt)

    pub delete_fits : d < 16 → OuterFits s d (delete_body d u e)
    delete_fits few = (entry_there u e known low, λ w. entry_deleted_fits few (entry_of w) (spelled w))
