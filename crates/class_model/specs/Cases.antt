-- The worked cases: small configurations with their scripts, and what a run of them prints. The laws over them, in src/cases.rt
-- and in the crate of the report, say what each one shows.
use Rattle.std.specs.Prelude.{ℕ, List, [], ◌∷◌, ◌++◌, codes, map, replicate, Option, Some}
use Rattle.std.specs.List.{flat_map}
use Rattle.std.specs.Fmt.{digits}
use Rattle.labels.specs.Label.{ClassEntry}
use Rattle.rings.specs.Brackets.{Brackets}
use Rattle.script_lang.specs.declared.instr.Instr.{Instr}
use Rattle.script_lang.specs.declared.instr.Instr.TheVariants as I
use Rattle.class_model.specs.Config.{Config, ProcessLine, Script, Gate, Pool}
use Rattle.class_model.specs.Process.{ProcName}
use Rattle.class_model.specs.Report.{segment_text}
use Rattle.class_model.specs.Run.{run}
use Rattle.class_model.specs.Section.{section, seen}

-- What is read off a run. These words stay shut until a proof opens them, so that stating a case doesn't run it.

-- the console lines of a class after the steps of these processes
unfoldable pub console : ℕ → Config → List ProcName → List ℕ
console c k names = (seen c (run k names)).lines

-- the section of a class after the steps of these processes
unfoldable pub report : ℕ → Config → List ProcName → List ℕ
unfolding digits
report c k names = section c (run k names)

-- the lines of the segments of a class after the steps of these processes, a text for each segment
unfoldable pub segment_texts : ℕ → Config → List ProcName → List (List ℕ)
unfolding digits
segment_texts c k names = map segment_text (seen c (run k names)).segments

-- the console places of a class that are used up
unfoldable pub places_used : ℕ → Config → List ProcName → ℕ
places_used c k names = ((run k names).part c).used

-- lines, each with its line feed
abbrev pub text : List (List ℕ) → List ℕ
text lines = flat_map (λ line. line ++ 10 ∷ []) lines

-- n steps of the process in a slot of a processor and class
abbrev pub by : ℕ → ℕ → ℕ → ℕ → List ProcName
by processor class slot n = replicate n (record { processor = processor; class = class; slot = slot })

-- Parts of configurations.

-- a class by its name, its secrecy level and categories, and its integrity level and categories
abbrev pub class_entry : List ℕ → ℕ → ℕ → ℕ → ℕ → ClassEntry
class_entry name secrecy_level secrecy_cats integrity_level integrity_cats = record {
  name = name;
  label = record {
    secrecy_level = secrecy_level;
    secrecy_cats = secrecy_cats;
    integrity_level = integrity_level;
    integrity_cats = integrity_cats;
  };
}

-- class 0 of all cases
abbrev pub low : ClassEntry
low = class_entry (codes "low") 0 0 15 0

-- a class one secrecy level above it
abbrev pub high : ClassEntry
high = class_entry (codes "high") 1 0 15 0

-- the pool of a class, by its frames and pages
abbrev pub pool : ℕ → ℕ → Pool
pool frames pages = record { frames = frames; pages = pages }

-- a script of a class
abbrev pub script : ℕ → List Instr → Option Script
script class program = Some (record { class = class; program = program })

-- a gate of a class, by its script and brackets
abbrev pub gate : ℕ → ℕ → Brackets → Option Gate
gate class script brackets = Some (record { class = class; script = script; brackets = brackets })

-- a process of a processor and class, on a script, in a ring
abbrev pub process : ℕ → ℕ → ℕ → ℕ → ProcessLine
process processor class script ring = record { processor = processor; class = class; script = script; ring = ring }

-- classes low and high, each with two frames and two pages, and a console of 100 lines; with these scripts, gates and processes
abbrev pub two_classes : ℕ → List (Option Script) → List (Option Gate) → List ProcessLine → Config
two_classes processors scripts gates processes = record {
  table = low ∷ high ∷ [];
  pools = pool 2 2 ∷ pool 2 2 ∷ [];
  volumes = 0 ∷ 0 ∷ [];
  processors = processors;
  cycle = 0 ∷ [];
  rounds = 1;
  quantum = 1;
  console = 100;
  scripts = scripts;
  gates = gates;
  processes = processes;
  records = [];
}

-- one process of class 0 on one script
abbrev pub alone : List Instr → Config
alone program = two_classes 1 (script 0 program ∷ []) [] (process 0 0 0 4 ∷ [])

-- The configurations. In each script r5 = 511 spells the brackets 7 7 7, and a register that is never set is 0.

-- 5 is printed
unfoldable pub prints_five : Config
prints_five = alone (I.Set 2 5 ∷ I.Out 2 ∷ I.Halt ∷ [])

-- a segment of class 1 is made in entry 0 of the root
abbrev pub makes_upgraded : List Instr
makes_upgraded = I.Set 4 1 ∷ I.Set 5 511 ∷ I.Set 6 2 ∷ I.Create 2 2 4 5 6 ∷ I.Halt ∷ []

-- three classes, the labels of the last two beside each other: class 2 wants to observe a segment of class 1
unfoldable pub side_by_side : Config
side_by_side = record
    (two_classes 2 (script 0 makes_upgraded ∷ script 2 (I.Set 7 1 ∷ I.MakeKnown 2 2 7 ∷ I.Out 0 ∷ I.Halt ∷ []) ∷ []) []
    (process 0 0 0 4 ∷ process 1 2 1 4 ∷ [])) {
      table = low ∷ class_entry (codes "left") 3 1 15 0 ∷ class_entry (codes "right") 2 2 15 0 ∷ [];
      pools = pool 2 2 ∷ pool 2 2 ∷ pool 2 2 ∷ [];
      volumes = 0 ∷ 0 ∷ 0 ∷ [];
    }

-- class 1 has class 0's secrecy and a lower integrity: class 0 wants to observe a segment of it
unfoldable pub less_trusted : Config
less_trusted = record
    (alone (I.Set 4 1 ∷ I.Set 5 511 ∷ I.Set 6 2 ∷ I.Create 2 2 4 5 6 ∷ I.Set 7 1 ∷ I.MakeKnown 2 2 7 ∷ I.Out 0 ∷ I.Halt ∷ [])) {
      table = low ∷ class_entry (codes "high") 0 0 3 0 ∷ [];
    }

-- two processes draw ten tickets of the root each and print them
unfoldable pub ten_tickets_each : Config
ten_tickets_each =
    two_classes 2 (script 0 (I.Set 4 10 ∷ I.Ticket 2 ∷ I.Out 1 ∷ I.Set 5 1 ∷ I.Add 3 5 ∷ I.JumpL 3 4 1 ∷ I.Halt ∷ []) ∷ []) []
    (process 0 0 0 4 ∷ process 1 0 0 4 ∷ [])

-- class 0 has one frame, and two segments are swapped in
unfoldable pub one_frame : Config
one_frame = record
    (alone (I.Set 5 511 ∷ I.Set 6 2 ∷ I.Set 3 1 ∷ I.Create 2 2 2 5 6 ∷ I.Create 2 3 2 5 6 ∷ I.Set 7 3 ∷ I.MakeKnown 2 2 7 ∷
    I.SwapIn 1 ∷ I.MakeKnown 2 3 7 ∷ I.SwapIn 1 ∷ I.Out 0 ∷ I.Halt ∷ [])) {
      pools = pool 1 2 ∷ pool 2 2 ∷ [];
    }

-- 64 segments are made and deleted under a segment of class 1, after one of class 0 was refused there
unfoldable pub uses_up_serials : Config
uses_up_serials = two_classes 2 (script 0 makes_upgraded ∷ script 1 (
    I.Set 4 1 ∷ I.Set 5 511 ∷ I.Set 6 2 ∷ I.Set 7 3 ∷ I.MakeKnown 2 2 7 ∷ I.Copy 8 1 ∷ I.Create 8 2 2 5 6 ∷ I.Out 0 ∷ I.Set 11 64 ∷
    I.Create 8 2 4 5 6 ∷ I.Copy 12 0 ∷ I.Delete 8 2 ∷ I.Add 10 4 ∷ I.JumpL 10 11 9 ∷
    I.Create 8 2 4 5 6 ∷ I.Out 0 ∷ I.MakeKnown 8 2 7 ∷ I.Out 0 ∷ I.Halt ∷ []) ∷ []) []
    (process 0 0 0 4 ∷ process 1 1 1 4 ∷ [])

-- four processes are begun where three slots are free, and one on a script that isn't there
unfoldable pub spawns : Config
spawns = two_classes 1 (
    script 0 (I.Set 3 9 ∷ I.Spawn 1 3 ∷ I.Spawn 1 3 ∷ I.Spawn 1 3 ∷ I.Spawn 1 3 ∷ I.Out 0 ∷ I.Spawn 7 3 ∷ I.Out 0 ∷ I.Halt ∷ []) ∷
    script 0 (I.Out 2 ∷ I.Halt ∷ []) ∷ []) [] (process 0 0 0 4 ∷ [])

-- a return without a call, and a gate whose script calls the gate again and again
unfoldable pub calls : Config
calls = two_classes 1 (
    script 0 (I.Ret ∷ I.Out 0 ∷ I.Call 0 ∷ I.Halt ∷ []) ∷ script 0 (I.Call 0 ∷ I.Out 0 ∷ I.Halt ∷ []) ∷ [])
    (gate 0 1 (record { r1 = 0; r2 = 7; r3 = 7 }) ∷ []) (process 0 0 0 4 ∷ [])

-- a segment is written and swapped out, swapped in from its page and read, written again and swapped out to the same page
unfoldable pub to_the_page_and_back : Config
to_the_page_and_back = record
    (alone (I.Set 5 511 ∷ I.Set 6 2 ∷ I.Create 2 2 2 5 6 ∷ I.Set 7 3 ∷ I.MakeKnown 2 2 7 ∷ I.Copy 8 1 ∷ I.SwapIn 8 ∷
    I.Set 9 7 ∷ I.Put 9 2 ∷ I.Update 8 2 6 2 ∷ I.SwapOut 8 ∷
    I.SwapIn 8 ∷ I.Set 10 8 ∷ I.Fetch 8 2 6 10 ∷ I.Get 11 10 ∷ I.Out 11 ∷
    I.Set 9 9 ∷ I.Put 9 2 ∷ I.Update 8 2 6 2 ∷ I.SwapOut 8 ∷ I.Halt ∷ [])) { volumes = 1 ∷ 1 ∷ [] }

-- with one frame and one page: a segment that has both is deleted, and another one takes them
unfoldable pub deletes_resident : Config
deletes_resident = record
    (alone (I.Set 5 511 ∷ I.Set 6 2 ∷ I.Create 2 2 2 5 6 ∷ I.Set 7 3 ∷ I.MakeKnown 2 2 7 ∷ I.Copy 8 1 ∷ I.SwapIn 8 ∷ I.SwapOut 8 ∷
    I.SwapIn 8 ∷ I.Delete 2 2 ∷ I.SwapIn 8 ∷ I.Out 0 ∷
    I.Create 2 2 2 5 6 ∷ I.MakeKnown 2 2 7 ∷ I.Copy 8 1 ∷ I.SwapIn 8 ∷ I.SwapOut 8 ∷ I.Out 0 ∷ I.Halt ∷ [])) {
      pools = pool 1 1 ∷ pool 2 2 ∷ [];
    }

-- a segment of class 1 is known for signalling alone, advanced, drawn a ticket of, forgotten, advanced and known again
unfoldable pub signals_and_forgets : Config
signals_and_forgets = alone (I.Set 4 1 ∷ I.Set 5 511 ∷ I.Set 6 2 ∷ I.Create 2 2 4 5 6 ∷ I.Set 7 2 ∷ I.MakeKnown 2 2 7 ∷ I.Copy 8 1 ∷
    I.Advance 8 ∷ I.Ticket 8 ∷ I.Out 0 ∷ I.Terminate 8 ∷ I.Out 0 ∷ I.Advance 8 ∷ I.Out 0 ∷ I.MakeKnown 2 2 7 ∷ I.Out 1 ∷ I.Halt ∷ [])

-- two lines are printed where the console holds one
unfoldable pub full_console : Config
full_console = record (alone (I.Out 2 ∷ I.Out 2 ∷ I.Halt ∷ [])) { console = 1 }
