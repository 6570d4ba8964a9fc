-- The opening state of a configuration as words and virtual processors.
use Rattle.std.specs.Prelude.{ℕ, ◌+◌, ◌&&◌, List, [], ◌==◌, map, Option, is_some, slice_index, slice_get}
use Rattle.std.specs.List.{filter, position}
use Rattle.std.specs.Option.{option_map, option_map_or, option_and_then}
use Rattle.words_layout.specs.Segments.{seg_number, same_seg}
use Rattle.words_layout.specs.Words.{Words, GuardedWords, NextSerial, HomeOf, EntryOf, PageTenant, PageWord}
use Rattle.words_layout.specs.Coding.{pack_home, pack_alias}
use Rattle.words_layout.specs.declared.segment.SegId.{SegId}
use Rattle.words_layout.specs.declared.op.Event.{Event}
use Rattle.words_layout.specs.declared.coding.Home.TheVariants as H
use Rattle.class_model.specs.Config.{Config, SegRecord, shared_of}
use Rattle.class_model.specs.Process.{Process, ProcName}
use Rattle.class_model.specs.Run.{opening_entry, opening_serial, opening_slots}
use Rattle.turns.specs.Doing.{Fresh}
use Rattle.process.specs.Running.{Running}
use Rattle.machine.specs.Machine.{Machine, VirtualProcessor, run, order_of_effect}

-- the kept records of a class, in the order of loading: the n-th has page n
abbrev pub paged : Config → ℕ → List SegRecord
paged k c = filter (λ (r : SegRecord). r.class == c && is_some r.kept) k.records

-- the page of the cell of class c and identity u at the opening
abbrev pub opening_page : Config → ℕ → SegId → Option ℕ
opening_page k c u = position (λ (r : SegRecord). same_seg r.seg u) (paged k c)

-- the size of the segment whose words page g has at the opening
abbrev pub page_size : Config → ℕ → ℕ → ℕ
page_size k c g = option_map_or (λ (r : SegRecord). r.size) (slice_get (paged k c) g) 0

-- a kept record is Stored in its page, any other segment is Never
abbrev pub opening_home_word : Config → ℕ → SegId → ℕ
opening_home_word k c u = option_map_or (λ g. pack_home (H.Stored g (page_size k c g))) (opening_page k c u) 0

-- the record whose words page g has at the opening
abbrev pub paged_at : Config → ℕ → ℕ → Option SegRecord
paged_at k c g = slice_get (paged k c) g

-- the guarded words of class c at the opening
abbrev pub opening_guarded : Config → ℕ → GuardedWords
opening_guarded k c NextSerial = opening_serial k c
opening_guarded k c (HomeOf u) = opening_home_word k c u
opening_guarded k c (EntryOf u e) = pack_alias (opening_entry k c u e)
opening_guarded k c (PageTenant g) = option_map_or (λ (r : SegRecord). seg_number r.seg + 1) (paged_at k c g) 0
opening_guarded k c (PageWord g i) = option_map_or (λ words. slice_index words i) (option_and_then (λ (r : SegRecord). r.kept) (paged_at k c g)) 0
opening_guarded k c _ = 0

-- the words of class c at the opening
abbrev pub opening_words : Config → ℕ → Words
opening_words k c = record {
  started = λ g. 0;
  tickets = λ g. 0;
  finished = λ g. 0;
  places = 0;
  component = λ x u. 0;
  sequencer = λ u. 0;
  guarded = opening_guarded k c;
}

-- a process before its first step
abbrev pub at_rest : Process → Running
at_rest p = record { process = p; doing = Fresh }

-- the virtual processor of class c on processor p at the opening
abbrev pub opening_vp : Config → ℕ → ℕ → VirtualProcessor
opening_vp k c p = record { slots = map (option_map at_rest) (opening_slots k c p); current = 0; lines = [] }

-- the opening state
abbrev pub opening : Config → Machine
opening k = record { shared = shared_of k; part = λ c. record { words = opening_words k c; vp = opening_vp k c } }

-- M(K, H)
abbrev pub machine : Config → List Event → Machine
machine k events = run (opening k) events

-- Eff(K, H)
abbrev pub effects : Config → List Event → List ProcName
effects k events = order_of_effect (opening k) events
