-- Cells that an effect changes stay good.
use Rattle.std.proofs.Common.{ℕ, ◌+◌, ◌≤◌, List, ◌≡◌, refl, sym, ap, subst, ◌∙◌, Option, Some, None, inl, inr, length, arith}
use Rattle.std.specs.Prelude.{slice_index_or, replicate, unwrap_or}
use Rattle.std.proofs.lemmas.List.{length-set}
use Rattle.std.proofs.Math.Nat.{le_trans}
use Rattle.lists.specs.Lists.{put, overwrite}
use Rattle.words_layout.specs.declared.segment.SegId.{SegId}
use Rattle.class_model.specs.State.{State, Part, Cell, Stored, In, Deleted, with_cell, with_part, live_of, live_words}
use Rattle.class_model.specs.Step.{with_entry}
use Rattle.class_model.specs.Process.{Process}
use Rattle.effect_laws.proofs.Good.{Given, WordsGood, CellGood, ProcessGood, Good}
use Rattle.effect_laws.proofs.GateData.{put-seg-both}
use Rattle.effect_laws.proofs.Growing.{Grows, keeps_all, grow_cell, grow_process, good_with, set-read}
use Rattle.effect_laws.proofs.GoodSettled.{length-overwrite}

-- all of a part but its processes
pub record PartGood (n : ℕ) (t : Given) (a : State) (d : ℕ) (part : Part) : Type 0 where
  pub serial : part.next_serial ≤ 64
  pub cells : (u : SegId) → CellGood n t a d u (part.cell u)
  pub used : part.used ≤ n
  pub components : (x : ℕ) (u : SegId) → part.component x u ≤ n

module _ (n : ℕ) (t : Given) (a : State) (d : ℕ) where
  pub part_more : (part : Part) → PartGood n t a d part → PartGood (n + 1) t a d part
  part_more part h = record {
    serial = h.serial;
    used = le_trans h.used (omega arith);
    components = λ x u. le_trans (h.components x u) (omega arith);
    cells = λ u. (let k = h.cells u in record { eight = k.eight; entries = k.entries; live = k.live; stored = k.stored; writes = le_trans k.writes (omega arith); sequencer = le_trans k.sequencer (omega arith) });
  }

  pub part_cell : (part : Part) (u : SegId) (cell : Cell) → PartGood n t a d part → CellGood n t a d u cell → PartGood n t a d (with_cell part u cell)
  part_cell part u cell h k = record {
    serial = h.serial;
    used = h.used;
    components = h.components;
    cells = λ v. put-seg-both (λ v (c : Cell). CellGood n t a d v c) part.cell u v cell (λ e. subst (λ z. CellGood n t a d z cell) (sym e) k) (λ e. h.cells v);
  }

  module _ (u : SegId) (cell : Cell) (k : CellGood n t a d u cell) where
    -- an entry that is emptied
    pub cell_emptied : (e : ℕ) → CellGood n t a d u (with_entry cell e None)
    cell_emptied e = record {
      eight = length-set cell.entries e None ∙ k.eight;
      entries = λ f x h. elim (set-read cell.entries e f None x h) [ inl z ↦ absurd (cc) | inr z ↦ k.entries f x z ];
      live = k.live;
      stored = k.stored;
      writes = k.writes;
      sequencer = k.sequencer;
    }

    -- a cell that is deleted
    pub cell_deleted : CellGood n t a d u (record cell { home = Deleted; stored = None })
    cell_deleted = record { eight = k.eight; entries = k.entries; live = λ words h. absurd (cc); stored = λ words h. absurd (cc); writes = k.writes; sequencer = k.sequencer }

    -- a cell that comes in
    pub cell_in : (words : List ℕ) → WordsGood t a d u words → CellGood n t a d u (record cell { home = In words })
    cell_in words w = record { eight = k.eight; entries = k.entries; live = λ x h. (let same : words ≡ x = cc in subst (WordsGood t a d u) same w); stored = k.stored; writes = k.writes; sequencer = k.sequencer }

    -- its words may come in
    pub brought_words : (size : ℕ) → WordsGood t a d u (replicate size 0) → WordsGood t a d u (unwrap_or cell.stored (replicate size 0))
    brought_words size zeros = by_stored cell.stored k.stored
      where
        by_stored : (o : Option (List ℕ)) → ((words : List ℕ) → o ≡ Some words → WordsGood t a d u words) → WordsGood t a d u (unwrap_or o (replicate size 0))
        by_stored None h = zeros
        by_stored (Some words) h = h words refl

    -- a cell that goes out
    pub cell_out : (words : List ℕ) → cell.home ≡ In words → CellGood n t a d u (record cell { home = Stored; stored = Some (live_words cell) })
    cell_out words e = record {
      eight = k.eight;
      entries = k.entries;
      live = λ x h. absurd (cc);
      stored = λ x h. (let same : live_words cell ≡ x = cc in let is : live_words cell ≡ words = ap live_of e in subst (WordsGood t a d u) (sym is ∙ same) (k.live words e));
      writes = k.writes;
      sequencer = k.sequencer;
    }

    -- the sequencer rises
    pub cell_ticket : CellGood (n + 1) t a d u (record cell { sequencer = cell.sequencer + 1 })
    cell_ticket = record {
      eight = k.eight;
      entries = k.entries;
      live = k.live;
      stored = k.stored;
      writes = le_trans k.writes (omega arith);
      sequencer = (let s : cell.sequencer ≤ n = k.sequencer in omega (arith, s));
    }

    -- the live words are written over
    pub cell_updated : (words : List ℕ) → cell.home ≡ In words → (offset : ℕ) (new : List ℕ) →
        CellGood (n + 1) t a d u (record cell { home = In (overwrite (live_words cell) offset new); writes = cell.writes + 1 })
    cell_updated words e offset new = record {
      eight = k.eight;
      entries = k.entries;
      live = λ x h. (let same : overwrite (live_words cell) offset new ≡ x = cc in subst (WordsGood t a d u) same written);
      stored = k.stored;
      writes = (let s : cell.writes ≤ n = k.writes in omega (arith, s));
      sequencer = le_trans k.sequencer (omega arith);
    }
      where
        was : WordsGood t a d u words
        was = k.live words e

        same_length : length (overwrite (live_words cell) offset new) ≡ length words
        same_length = length-overwrite (live_words cell) offset new ∙ ap length (ap live_of e)

        written : WordsGood t a d u (overwrite (live_words cell) offset new)
        written = record {
          size = same_length ∙ was.size;
          in_use = was.in_use;
          in_range = (let low = was.in_range.0 in let high = was.in_range.1 in (omega (arith, same_length, low), omega (arith, same_length, high)));
        }

-- a part that is good, with the processes and the next serial of before, makes a good state
module _ (n : ℕ) (a : State) (good : Good n a) (d : ℕ) (X : Part) (serial : X.next_serial ≡ (a.part d).next_serial) (slots : X.slots ≡ (a.part d).slots)
    (h : PartGood (n + 1) good.given a d X) where
  pub part_grows : Grows good.given good.given a (put a.part d X)
  part_grows = keeps_all good.given a d X (omega (arith, serial))

  pub part_processes : (p i : ℕ) (q : Process) → slice_index_or (X.slots p) i None ≡ Some q → ProcessGood good.given (with_part a d X) d q
  part_processes p i q e = grow_process good.given good.given a (put a.part d X) part_grows d q
      (good.processes (record { processor = p; class = d; slot = i }) q (ap (λ (f : ℕ → List (Option Process)). slice_index_or (f p) i None) (sym slots) ∙ e))

  abbrev pub good_part : Good (n + 1) (with_part a d X)
  good_part = good_with n (n + 1) (omega arith) a good d X good.given part_grows h.serial
      (λ u. grow_cell good.given good.given a (put a.part d X) part_grows (n + 1) (n + 1) (omega arith) d u (X.cell u) (h.cells u))
      part_processes h.used h.components

pub part_of_good : (n : ℕ) (a : State) (good : Good n a) (d : ℕ) → PartGood n good.given a d (a.part d)
part_of_good n a good d = record { serial = good.serials d; cells = good.cells d; used = good.used d; components = good.components d }
