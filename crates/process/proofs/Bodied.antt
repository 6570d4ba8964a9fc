-- What the bodies of turns show: a refusal or a number. And the words that a fetch shows are for the place of the pad that it was given.
use Rattle.std.proofs.Common.{ℕ, zero, suc, ◌+◌, true, false, List, [], ◌∷◌, ◌++◌, refl, Option, Some, None}
use Rattle.std.specs.Prelude.{◌==◌, if◌then◌else◌, nat_le, is_some}
use Rattle.rings.specs.Brackets.{Brackets}
use Rattle.words_layout.specs.Coding.{home_of, entry_of, pack_entry}
use Rattle.words_layout.specs.Segments.{seg}
use Rattle.words_layout.specs.Words.{GuardedWord, NextSerial, EntryOf, plus_one, FrameTenant, FrameWord, PageTenant, PageWord}
use Rattle.words_layout.specs.declared.coding.Alias.{Alias}
use Rattle.words_layout.specs.declared.coding.Home.{Home}
use Rattle.words_layout.specs.declared.coding.Home.TheVariants as H
use Rattle.words_layout.specs.declared.segment.SegId.{SegId}
use Rattle.policy.specs.Known.{Known, new_alias}
use Rattle.policy.specs.Outcome.{Outcome, Refused, Value}
use Rattle.policy.specs.declared.rule.Rule.TheVariants.{SerialsUsed, NotEmpty}
use Rattle.turns.specs.Bodies.{Inner, Outer}
use Rattle.tree_gates.specs.Tree.{create_serial, create_entry, create_home, create_body, check_entries, free_page, free_home, delete_child, delete_entry, delete_body}
use Rattle.swap_gates.specs.Swap.{find_free, zero_words, copy_words, fill_frame, bring_in, swap_in_home, swap_in_body, take_out, take_page, swap_out_home, swap_out_body}
use Rattle.data_gates.specs.Data.{load_words, fetch_home, fetch_body, store_words, count_write, update_home, update_body}
use Rattle.process.specs.Shows.{LoadsShow, InnerShows, OuterShows, IsReply, IsFetch}

-- ---- fetch and update

loads_words : (pad f at n : ℕ) (got : List ℕ) → LoadsShow (IsFetch pad) (load_words f at n got pad)
loads_words pad f at zero got = refl
loads_words pad f at (suc n) got = λ w. loads_words pad f (at + 1) n (got ++ w ∷ [])

fetched : (offset count pad : ℕ) (h : Home) → LoadsShow (IsFetch pad) (fetch_home offset count pad h)
fetched offset count pad (H.Resident f page size) = loads_words pad f offset count []
fetched offset count pad H.Deleted = tt
fetched offset count pad H.Never = tt
fetched offset count pad (H.Stored g size) = tt

pub fetch_shows : (u : SegId) (offset count pad : ℕ) → LoadsShow (IsFetch pad) (fetch_body u offset count pad)
fetch_shows u offset count pad = λ w. fetched offset count pad (home_of w)

stores : (f at : ℕ) (words : List ℕ) (rest : Inner Outcome) → InnerShows IsReply rest → InnerShows IsReply (store_words f at words rest)
stores f at [] rest h = h
stores f at (v ∷ vs) rest h = stores f (at + 1) vs rest h

updated : (u : SegId) (offset : ℕ) (words : List ℕ) (h : Home) → InnerShows IsReply (update_home u offset words h)
updated u offset words (H.Resident f page size) = stores f offset words (count_write u) (λ old. tt)
updated u offset words H.Deleted = tt
updated u offset words H.Never = tt
updated u offset words (H.Stored g size) = tt

pub update_replies : (u : SegId) (offset : ℕ) (words : List ℕ) → InnerShows IsReply (update_body u offset words)
update_replies u offset words = λ w. updated u offset words (home_of w)

-- ---- swapin and swapout

finds : (tenant : ℕ → GuardedWord) (i n : ℕ) (found : ℕ → Inner Outcome) (none : Inner Outcome) → ((f : ℕ) → InnerShows IsReply (found f)) → InnerShows IsReply none →
    InnerShows IsReply (find_free tenant i n found none)
finds tenant i zero found none each h = h
finds tenant i (suc n) found none each h = λ w. elim (w == 0) as (λ b. InnerShows IsReply (if b then found i else find_free tenant (i + 1) n found none)) [ true ↦ each i | false ↦ finds tenant (i + 1) n found none each h ]

zeroes : (f i n : ℕ) (rest : Inner Outcome) → InnerShows IsReply rest → InnerShows IsReply (zero_words f i n rest)
zeroes f i zero rest h = h
zeroes f i (suc n) rest h = zeroes f (i + 1) n rest h

copies : (from to : ℕ → GuardedWord) (i n : ℕ) (rest : Inner Outcome) → InnerShows IsReply rest → InnerShows IsReply (copy_words from to i n rest)
copies from to i zero rest h = h
copies from to i (suc n) rest h = λ w. copies from to (i + 1) n rest h

fills : (f size : ℕ) (page : Option ℕ) (rest : Inner Outcome) → InnerShows IsReply rest → InnerShows IsReply (fill_frame f size page rest)
fills f size None rest h = zeroes f 0 size rest h
fills f size (Some g) rest h = copies (PageWord g) (FrameWord f) 0 size rest h

brings : (k : Known) (page : Option ℕ) (f : ℕ) → InnerShows IsReply (bring_in k page f)
brings k page f = fills f k.size page _ tt

swapped_in : (frames : ℕ) (k : Known) (h : Home) → InnerShows IsReply (swap_in_home frames k h)
swapped_in frames k H.Deleted = tt
swapped_in frames k (H.Resident f page size) = tt
swapped_in frames k H.Never = finds FrameTenant 0 frames (bring_in k None) _ (brings k None) tt
swapped_in frames k (H.Stored g size) = finds FrameTenant 0 frames (bring_in k (Some g)) _ (brings k (Some g)) tt

pub swap_in_replies : (frames : ℕ) (k : Known) → OuterShows IsReply (Unit {0}) (swap_in_body frames k)
swap_in_replies frames k = (tt, λ w. swapped_in frames k (home_of w))

takes : (k : Known) (f size g : ℕ) → InnerShows IsReply (take_out k f size g)
takes k f size g = copies (FrameWord f) (PageWord g) 0 k.size _ tt

swapped_out : (pages : ℕ) (k : Known) (h : Home) → InnerShows IsReply (swap_out_home pages k h)
swapped_out pages k H.Deleted = tt
swapped_out pages k (H.Resident f (Some g) size) = takes k f size g
swapped_out pages k (H.Resident f None size) = finds PageTenant 0 pages (take_page k f size) _ (takes k f size) tt
swapped_out pages k H.Never = tt
swapped_out pages k (H.Stored g size) = tt

pub swap_out_replies : (pages : ℕ) (k : Known) → OuterShows IsReply (Unit {0}) (swap_out_body pages k)
swap_out_replies pages k = (tt, λ w. swapped_out pages k (home_of w))

-- ---- create and delete

serial : (u : SegId) (e class : ℕ) (b : Brackets) (size n : ℕ) → OuterShows IsReply ⊥ (create_serial u e class b size n)
serial u e class b size n = elim (nat_le 64 n) as (λ t. OuterShows IsReply ⊥ (if t then Outer.Shows (Refused SerialsUsed) else Outer.Store NextSerial (plus_one n) (Outer.Store (EntryOf u e) (pack_entry (new_alias class b size n)) (Outer.Shows (Value n))))) [ true ↦ tt | false ↦ tt ]

entered : (u : SegId) (e class : ℕ) (b : Brackets) (size : ℕ) (o : Option Alias) → OuterShows IsReply ⊥ (create_entry u e class b size o)
entered u e class b size (Some a) = tt
entered u e class b size None = λ n. serial u e class b size n

created : (u : SegId) (e class : ℕ) (b : Brackets) (size : ℕ) (h : Home) → OuterShows IsReply ⊥ (create_home u e class b size h)
created u e class b size H.Deleted = tt
created u e class b size H.Never = λ w. entered u e class b size (entry_of w)
created u e class b size (H.Stored g n) = λ w. entered u e class b size (entry_of w)
created u e class b size (H.Resident f page n) = λ w. entered u e class b size (entry_of w)

pub create_replies : (u : SegId) (e class : ℕ) (b : Brackets) (size : ℕ) → OuterShows IsReply ⊥ (create_body u e class b size)
create_replies u e class b size = λ w. created u e class b size (home_of w)

checks : (u : SegId) (e n : ℕ) (rest : Outer Outcome) → OuterShows IsReply (Unit {0}) rest → OuterShows IsReply (Unit {0}) (check_entries u e n rest)
checks u e zero rest h = h
checks u e (suc n) rest h = λ w. elim (is_some (entry_of w)) as (λ t. OuterShows IsReply (Unit {0}) (if t then Outer.Shows (Refused NotEmpty) else check_entries u (e + 1) n rest)) [ true ↦ tt | false ↦ checks u (e + 1) n rest h ]

frees_page : (page : Option ℕ) (rest : Inner Outcome) → InnerShows IsReply rest → InnerShows IsReply (free_page page rest)
frees_page None rest h = h
frees_page (Some g) rest h = h

frees : (x : Home) (rest : Inner Outcome) → InnerShows IsReply rest → InnerShows IsReply (free_home x rest)
frees (H.Resident f page size) rest h = frees_page page rest h
frees (H.Stored g size) rest h = h
frees H.Never rest h = h
frees H.Deleted rest h = h

child_deleted : (child u : SegId) (e : ℕ) → InnerShows IsReply (delete_child child u e)
child_deleted child u e = λ w. frees (home_of w) _ tt

entry_deleted : (d : ℕ) (u : SegId) (e : ℕ) (o : Option Alias) → OuterShows IsReply (Unit {0}) (delete_entry d u e o)
entry_deleted d u e None = tt
entry_deleted d u e (Some a) =
    elim (a.class == d) as (λ t. OuterShows IsReply (Unit {0}) (if t then check_entries (seg d a.serial) 0 8 (Outer.Enter (seg d a.serial) (delete_child (seg d a.serial) u e)) else Outer.Store (EntryOf u e) 0 (Outer.Shows (Value 0)))) [ true ↦ checks (seg d a.serial) 0 8 _ (tt, child_deleted (seg d a.serial) u e) | false ↦ tt ]

pub delete_replies : (d : ℕ) (u : SegId) (e : ℕ) → OuterShows IsReply (Unit {0}) (delete_body d u e)
delete_replies d u e = λ w. entry_deleted d u e (entry_of w)
