-- The virtual processors of all processors, and the step machine that a machine in memory stands for.
use Rattle.std.specs.Prelude.{ℕ, List, [], ◌∷◌, None, slice_index_or, slice_set}
use Rattle.words_layout.specs.Named.{words_in}
use Rattle.class_model.specs.Config.{Shared}
use Rattle.machine.specs.Machine.{Machine}
use Rattle.machine.specs.Processing.{Processing, vp_of}

-- a virtual processor with four empty slots, which stands for one that there isn't
abbrev pub no_processing : Processing
no_processing = record { class = 0; slots = None ∷ None ∷ None ∷ None ∷ []; current = 0; lines = []; room = 0 }

-- the bank of a processor: one virtual processor for each class, in class order
abbrev pub bank_at : List (List Processing) → ℕ → List Processing
bank_at banks p = slice_index_or banks p []

-- the virtual processor of a class in a bank
abbrev pub vp_in : List Processing → ℕ → Processing
vp_in bank c = slice_index_or bank c no_processing

-- the virtual processor of class c on processor p
abbrev pub vp_at : List (List Processing) → ℕ → ℕ → Processing
vp_at banks p c = vp_in (bank_at banks p) c

-- the banks with that virtual processor changed
abbrev pub with_vp : List (List Processing) → ℕ → ℕ → Processing → List (List Processing)
with_vp banks p c v = slice_set banks p (slice_set (bank_at banks p) c v)

-- a machine on a port of words: the port, a bank for each processor, and what no step changes
pub record State (W : Type 0) : Type 0 where
  pub words : W
  pub banks : List (List Processing)
  pub shared : Shared

-- the step machine that a machine on words in memory stands for
abbrev pub machine_of : State (List ℕ) → Machine
machine_of m = record {
  shared = m.shared;
  part = λ c. record { words = words_in m.words c; vp = λ p. vp_of m.shared (vp_at m.banks p c) };
}
