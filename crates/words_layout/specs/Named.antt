-- The list of all words read by name, and the address operation of a named one: how the words in memory stand for the words of each class.
use Rattle.std.specs.Prelude.{◌≡◌, ℕ, ◌*◌, ◌<◌, List, length, slice_index, replicate, true, if◌then◌else◌}
use Rattle.words_layout.specs.Sizes.{class_words}
use Rattle.words_layout.specs.Words.{Word, Started, Tickets, Finished, Places, ComponentOf, SequencerOf, Guarded, OfClass, address, Words, WordOp, answer_to, words_after}
use Rattle.words_layout.specs.Limits.{word_in_limits, op_in_limits}
use Rattle.words_layout.specs.Ops.{IsWithin, Performed}
use Rattle.words_layout.specs.declared.op.Op.{Op}
use Rattle.words_layout.specs.declared.op.Op.TheVariants.{Nothing as NoWord, Load as LoadAt, Store as StoreAt, Add as AddAt}
use Rattle.words_layout.specs.declared.address.Addr.{Addr}

-- the word of that name among all words by address; 0 for a name outside the limits
abbrev pub word_in : List ℕ → ℕ → Word → ℕ
word_in ws class word = if word_in_limits word then slice_index ws (address class word) else 0

-- the words of a class by name, among all words by address
abbrev pub words_in : List ℕ → ℕ → Words
words_in ws class = record {
  started = λ g. word_in ws class (Started g);
  tickets = λ g. word_in ws class (Tickets g);
  finished = λ g. word_in ws class (Finished g);
  places = word_in ws class Places;
  component = λ x u. word_in ws class (ComponentOf x u);
  sequencer = λ u. word_in ws class (SequencerOf u);
  guarded = λ w. word_in ws class (Guarded w);
}

-- the address of a word
abbrev pub addr_of : ℕ → Word → Addr
addr_of class word = record { 0 = address class word }

-- the operation on addresses that is the named one of a caller of class d
abbrev pub op_at : ℕ → WordOp → Op
op_at d WordOp.Nothing = NoWord
op_at d (WordOp.Load class word) = LoadAt (addr_of class word)
op_at d (WordOp.Store word v) = StoreAt (addr_of d word) v
op_at d (WordOp.Add word v) = AddAt (addr_of d word) v

-- A named operation of a caller of class d, on all words: the answer is that of the words of the classes before, the words of
-- class d are those with the operation done, and the words of every other class are as they were.
pub record PerformedByName (before : List ℕ) (d : ℕ) (op : WordOp) (answer : ℕ) (after : List ℕ) : Type 0 where
  pub answered : answer ≡ answer_to (words_in before) d op
  pub own : words_in after d ≡ words_after (words_in before d) op
  pub others : (c : ℕ) → (c ≡ d → ⊥) → words_in after c ≡ words_in before c

-- an operation of a caller of class d performed at its addresses is performed by name
abbrev pub OperationsGoByName : Type 0
OperationsGoByName =
    (classes d : ℕ) (op : WordOp) (before : List ℕ) (answer : ℕ) (after : List ℕ) → length before ≡ class_words * classes → d < classes → op_in_limits classes op ≡ true →
    Performed before (op_at d op) answer after → PerformedByName before d op answer after

-- the address operation of a named one within the limits is within the layout
abbrev pub NamedOperationsAreWithin : Type 0
NamedOperationsAreWithin = (classes d : ℕ) (op : WordOp) → d < classes → op_in_limits classes op ≡ true → IsWithin classes (op_at d op)

-- where all words are 0, each word by name is 0
abbrev pub FreshWordsAreZero : Type 0
FreshWordsAreZero = (count class : ℕ) (word : Word) → word_in (replicate count 0) class word ≡ 0
