-- The worked cases of the machine of words: configurations, schedules, and what a run of them prints. The laws over them, in
-- src/cases.rt, say what each one shows. Those that the machine of whole instructions has too stand in its crate.
use Rattle.std.specs.Prelude.{ℕ, ◌==◌, ◌&&◌, Bool, List, [], ◌∷◌, ◌++◌, codes, length, map, replicate, reverse, take, count_by}
use Rattle.std.specs.List.{list_all}
use Rattle.std.specs.Fmt.{decimal, digits}
use Rattle.lists.specs.Lists.{below}
use Rattle.words_layout.specs.declared.segment.SegId.{SegId}
use Rattle.words_layout.specs.declared.op.Event.{Event}
use Rattle.script_lang.specs.declared.instr.Instr.{Instr}
use Rattle.script_lang.specs.declared.instr.Instr.TheVariants as I
use Rattle.class_model.specs.Config.{Config, low_config}
use Rattle.class_model.specs.Process.{ProcName}
use Rattle.class_model.specs.Report.{Seen, segment_text}
use Rattle.class_model.specs.Run.{history, opening}
use Rattle.class_model.specs.Run.{run as whole_run}
use Rattle.class_model.specs.Section.{section as whole_section, seen as whole_seen}
use Rattle.class_model.specs.Content.{looked_at}
use Rattle.class_model.specs.Cases.{text, class_entry, low, script, gate, process, two_classes, alone}
use Rattle.machine.specs.Low.{low_events}
use Rattle.machine.specs.Opening.{machine, effects}
use Rattle.schedule.specs.Schedule.{Shape}
use Rattle.report.specs.Reported.{section, seen}

-- What is read off a run of the machine of words. These words stay shut until a proof opens them, so that stating a case
-- doesn't run it.

-- the console lines of a class after these events
unfoldable pub console : ℕ → Config → List Event → List ℕ
console c k events = (seen c (machine k events)).lines

-- the section of a class after these events
unfoldable pub report : ℕ → Config → List Event → List ℕ
unfolding digits
report c k events = section c (machine k events)

-- the lines of the segments of a class after these events, a text for each segment
unfoldable pub segment_texts : ℕ → Config → List Event → List (List ℕ)
unfolding digits
segment_texts c k events = map segment_text (seen c (machine k events)).segments

-- the console lines of a class and the lines of its segments
abbrev pub lines_and_texts : Seen → List ℕ × List (List ℕ)
lines_and_texts s = (s.lines, map segment_text s.segments)

-- both after these events, for a run that is long to compute
unfoldable pub console_and_segments : ℕ → Config → List Event → List ℕ × List (List ℕ)
unfolding digits
console_and_segments c k events = lines_and_texts (seen c (machine k events))

-- the console places of a class that are used up
unfoldable pub places_used : ℕ → Config → List Event → ℕ
places_used c k events = ((machine k events).part c).words.places

-- the order of effect of these events
unfoldable pub order : Config → List Event → List ProcName
order k events = effects k events

-- What the machine of whole instructions gives from the order of effect alone.

-- its section of a class
unfoldable pub whole_report : ℕ → Config → List Event → List ℕ
unfolding digits
whole_report c k events = whole_section c (whole_run k (effects k events))

-- its console lines of a class
unfoldable pub whole_console : ℕ → Config → List Event → List ℕ
whole_console c k events = (whole_seen c (whole_run k (effects k events))).lines

-- The text of the headline: the section of a class by the machine of whole instructions, given only the configuration at or below
-- the class and the order of effect of the events at or below it.
unfoldable pub low_report : ℕ → Config → List Event → List ℕ
unfolding digits
low_report c k events = whole_section c (whole_run (low_config c k) (effects (low_config c k) (low_events k.table c events)))

-- the console lines in it
unfoldable pub low_console : ℕ → Config → List Event → List ℕ
low_console c k events = (whole_seen c (whole_run (low_config c k) (effects (low_config c k) (low_events k.table c events)))).lines

-- the section of a class that the machine of words prints, of the configuration and events at or below it
unfoldable pub view : ℕ → Config → List Event → List ℕ
unfolding digits
view c k events = section c (machine (low_config c k) (low_events k.table c events))

-- What the looks of a read or await saw, of the components of these classes, the last one first: the effect is the one behind n
-- effects, of this process, on this segment.
unfoldable pub looks_saw : Config → List Event → ℕ → ProcName → SegId → List ℕ → ℕ
looks_saw k events n who u classes = looked_at u who classes (reverse (take n (history (opening k) (effects k events))))

-- n events of a processor and class
abbrev pub events : ℕ → ℕ → ℕ → List Event
events processor class n = replicate n (record { processor = processor; class = class })

-- the process of a name
abbrev pub named : ℕ → ℕ → ℕ → ProcName
named processor class slot = record { processor = processor; class = class; slot = slot }

-- each of 0 to 19 stands once in the list
abbrev pub each_of_twenty_once : List ℕ → Bool
each_of_twenty_once xs = (length xs == 20) && list_all (λ n. count_by (λ x. x == n) xs == 1) (below 20)

-- the header of two processors and two classes, for a schedule
abbrev pub shape : Shape
shape = record { processors = 2; classes = 2; cycle = 0 ∷ []; quantum = 1 }

-- The configurations and schedules.

-- two processes, of class 0 and 1, each on a processor of its own
abbrev pub side_by_side_scripts : List Instr → List Instr → Config
side_by_side_scripts first second =
    two_classes 2 (script 0 first ∷ script 1 second ∷ []) [] (process 0 0 0 4 ∷ process 1 1 1 4 ∷ [])

-- a process of class 0 makes a segment of two words, brings it in, and writes 7 7 and then 8 8
abbrev pub writes_twice : List Instr
writes_twice = I.Set 5 511 ∷ I.Set 6 2 ∷ I.Create 2 2 2 5 6 ∷ I.Set 7 3 ∷ I.MakeKnown 2 2 7 ∷ I.Copy 8 1 ∷ I.SwapIn 8 ∷ I.Set 9 7 ∷
    I.Put 9 2 ∷ I.Set 10 1 ∷ I.Put 9 10 ∷ I.Update 8 2 6 2 ∷ I.Set 9 8 ∷ I.Put 9 2 ∷ I.Put 9 10 ∷ I.Update 8 2 6 2 ∷ I.Halt ∷ []

-- a process of class 1 fetches both words and prints them
unfoldable pub writer_and_reader : Config
writer_and_reader = side_by_side_scripts writes_twice (
    I.Set 7 1 ∷ I.MakeKnown 2 2 7 ∷ I.Copy 8 1 ∷ I.Set 6 2 ∷ I.Fetch 8 2 6 2 ∷ I.Get 9 2 ∷ I.Out 9 ∷ I.Set 10 1 ∷ I.Get 9 10 ∷
    I.Out 9 ∷ I.Halt ∷ [])

-- the reader has loaded the first word, and not yet the second, when the writer's second update begins and ends
unfoldable pub update_within_look : List Event
update_within_look =
    events 0 0 46 ++ events 1 1 7 ++ events 1 1 4 ++ events 0 0 8 ++ events 1 1 2 ++ events 1 1 6 ++ events 1 1 6 ++ events 0 0 1

-- the reader's look is whole before the second update
unfoldable pub look_before_update : List Event
look_before_update = events 0 0 46 ++ events 1 1 13 ++ events 0 0 8 ++ events 1 1 6 ++ events 0 0 1

-- the writer stands still in the middle of its second update
unfoldable pub update_left_unfinished : List Event
update_left_unfinished = events 0 0 46 ++ events 1 1 7 ++ events 0 0 5 ++ events 1 1 50

-- what class 0 prints where the writer has ended
abbrev pub writer_ended : List ℕ
writer_ended = text (codes "class 0 low" ∷ codes "process 0 0 ended script 0 place 16 ring 4" ∷
    codes "regs 0 2 0 0 0 511 2 3 1 8 1 0 0 0 0 0" ∷ codes "closed" ∷
    codes "segment 0 0 never writes 0 count 0 tickets 0" ∷ codes "entry 0 class 0 brackets 7 7 7 size 2 serial 1" ∷
    codes "segment 0 1 in writes 2 count 0 tickets 0" ∷ codes "words 8 8" ∷ [])

-- what class 1 prints where the reader has read 8 8
abbrev pub reader_ended : List ℕ
reader_ended = text (codes "class 1 high" ∷ codes "line 8" ∷ codes "line 8" ∷
    codes "process 1 0 ended script 1 place 10 ring 4" ∷ codes "regs 0 1 0 0 0 0 2 1 1 8 1 0 0 0 0 0" ∷ codes "closed" ∷ [])

-- the process of class 1 prints, is refused a fetch and a create, and starts again without end
unfoldable pub writer_and_other : Config
writer_and_other = side_by_side_scripts writes_twice (I.Out 2 ∷ I.Fetch 2 2 2 2 ∷ I.Create 2 2 2 2 2 ∷ I.Jump 0 ∷ [])

-- no script and no process
unfoldable pub nobody : Config
nobody = two_classes 1 [] [] []

-- rings 2, 4, 5 and 7 at a segment with brackets 2 4 6 and at a gate with these brackets
unfoldable pub rings : Config
rings = two_classes 4 (
    script 0 (I.Set 5 166 ∷ I.Set 6 1 ∷ I.Create 2 2 2 5 6 ∷ I.Set 7 3 ∷ I.MakeKnown 2 2 7 ∷ I.SwapIn 1 ∷ I.Halt ∷ []) ∷
    script 0 (I.Set 7 1 ∷ I.MakeKnown 2 2 7 ∷ I.Set 6 1 ∷ I.Fetch 1 2 6 2 ∷ I.Out 0 ∷ I.Halt ∷ []) ∷
    script 0 (I.Set 7 1 ∷ I.MakeKnown 2 2 7 ∷ I.Out 0 ∷ I.Call 0 ∷ I.Halt ∷ []) ∷
    script 0 (I.Call 0 ∷ I.Out 0 ∷ I.Halt ∷ []) ∷
    script 0 (I.MakeKnown 2 2 7 ∷ I.Out 0 ∷ I.Ret ∷ I.Halt ∷ []) ∷ [])
    (gate 0 4 (record { r1 = 2; r2 = 4; r3 = 6 }) ∷ [])
    (process 0 0 0 2 ∷ process 1 0 1 4 ∷ process 2 0 2 5 ∷ process 3 0 3 7 ∷ [])

-- class 0 writes, swaps out and brings another segment into the same frame
unfoldable pub swaps_under_a_reader : Config
swaps_under_a_reader = side_by_side_scripts
    (I.Set 5 511 ∷ I.Set 6 2 ∷ I.Create 2 2 2 5 6 ∷ I.Set 7 3 ∷ I.MakeKnown 2 2 7 ∷ I.Copy 8 1 ∷ I.SwapIn 8 ∷ I.Set 9 7 ∷ I.Put 9 2 ∷
    I.Set 10 1 ∷ I.Put 9 10 ∷ I.Update 8 2 6 2 ∷ I.SwapOut 8 ∷ I.Create 2 10 2 5 6 ∷ I.MakeKnown 2 10 7 ∷ I.Copy 11 1 ∷ I.SwapIn 11 ∷
    I.Halt ∷ [])
    (I.Set 7 1 ∷ I.MakeKnown 2 2 7 ∷ I.Copy 8 1 ∷ I.Set 6 2 ∷ I.Fetch 8 2 6 2 ∷ I.Out 0 ∷ I.Halt ∷ [])

-- the reader has loaded the home and a word when the segment goes out and the other one comes in
unfoldable pub swap_within_look : List Event
swap_within_look = events 0 0 43 ++ events 1 1 10 ++ events 0 0 45 ++ events 1 1 3 ++ events 1 1 4 ++ events 1 1 2 ++ events 0 0 1

-- class 0 makes a segment of class 1 and deletes it while a process of class 1 uses it
unfoldable pub withdraws : Config
withdraws = side_by_side_scripts
    (I.Set 4 1 ∷ I.Set 5 511 ∷ I.Set 6 2 ∷ I.Create 2 2 4 5 6 ∷ I.Delete 2 2 ∷ I.Out 0 ∷ I.Halt ∷ [])
    (I.Set 7 3 ∷ I.MakeKnown 2 2 7 ∷ I.Copy 8 1 ∷ I.Set 6 2 ∷ I.SwapIn 8 ∷ I.Set 9 9 ∷ I.Put 9 2 ∷ I.Update 8 2 6 2 ∷
    I.Fetch 8 2 6 2 ∷ I.Get 9 2 ∷ I.Out 9 ∷ I.MakeKnown 2 2 7 ∷ I.Out 0 ∷ I.Halt ∷ [])

-- it is deleted between two steps of the process that uses it
unfoldable pub withdrawn_in_use : List Event
withdrawn_in_use = events 0 0 12 ++ events 1 1 31 ++ events 0 0 8 ++ events 1 1 14

-- the root's eventcount is awaited at 0, at 1, and at the greatest number
unfoldable pub awaits : Config
awaits = alone (I.Await 2 2 ∷ I.Out 1 ∷ I.Advance 2 ∷ I.Set 3 1 ∷ I.Await 2 3 ∷ I.Out 1 ∷ I.Set 3 18446744073709551615 ∷ I.Await 2 3 ∷
    I.Halt ∷ [])

-- a process of class 1 wants to modify a segment of class 0, then observes it and wants to swap it in
unfoldable pub reader_wants_to_write : Config
reader_wants_to_write = side_by_side_scripts writes_twice
    (I.Set 7 3 ∷ I.MakeKnown 2 2 7 ∷ I.Out 0 ∷ I.Set 7 1 ∷ I.MakeKnown 2 2 7 ∷ I.SwapIn 1 ∷ I.Out 0 ∷ I.Halt ∷ [])

-- class 0 has two segments in frames: one is updated while the other one is read
unfoldable pub two_segments : Config
two_segments = two_classes 3 (script 0 writes_twice ∷
    script 1 (I.Set 7 1 ∷ I.Set 3 1 ∷ I.MakeKnown 2 3 7 ∷ I.Copy 8 1 ∷ I.Fetch 8 2 3 2 ∷ I.Out 0 ∷ I.Halt ∷ []) ∷
    script 0 (I.Set 3 1 ∷ I.Set 5 511 ∷ I.Set 7 3 ∷ I.Create 2 3 2 5 3 ∷ I.MakeKnown 2 3 7 ∷ I.SwapIn 1 ∷ I.Halt ∷ []) ∷ []) []
    (process 0 0 0 4 ∷ process 1 1 1 4 ∷ process 2 0 2 4 ∷ [])

-- the update of the one segment stands whole within the look at the other one
unfoldable pub update_elsewhere_within_look : List Event
update_elsewhere_within_look = events 2 0 30 ++ events 0 0 47 ++ events 1 1 7 ++ events 1 1 3 ++ events 0 0 8 ++ events 1 1 2 ++
    events 1 1 2 ++ events 0 0 1

-- class 0 makes a segment of class 1, advances it twice and wants to read it
abbrev pub signals_up : List Instr
signals_up = I.Set 4 1 ∷ I.Set 5 511 ∷ I.Set 6 2 ∷ I.Create 2 2 4 5 6 ∷ I.Set 7 2 ∷ I.MakeKnown 2 2 7 ∷ I.Copy 8 1 ∷ I.Advance 8 ∷
    I.Out 1 ∷ I.Advance 8 ∷ I.Out 1 ∷ I.Read 8 ∷ I.Out 0 ∷ I.Halt ∷ []

-- class 1 advances it too and awaits 3
unfoldable pub signals_and_awaits : Config
signals_and_awaits = side_by_side_scripts signals_up
    (I.Set 7 3 ∷ I.MakeKnown 2 2 7 ∷ I.Copy 8 1 ∷ I.Advance 8 ∷ I.Out 1 ∷ I.Set 3 3 ∷ I.Await 8 3 ∷ I.Out 1 ∷ I.Halt ∷ [])

-- class 1 reads it
unfoldable pub signals_and_reads : Config
signals_and_reads = side_by_side_scripts signals_up
    (I.Set 7 1 ∷ I.MakeKnown 2 2 7 ∷ I.Copy 8 1 ∷ I.Read 8 ∷ I.Out 1 ∷ I.Halt ∷ [])

-- the reader looks at the component of class 0 before the signals come
unfoldable pub signals_within_read : List Event
signals_within_read = events 0 0 18 ++ events 1 1 7 ++ events 0 0 4 ++ events 1 1 3 ++ events 0 0 3

-- a process of class 1 wants to signal a segment of class 0
unfoldable pub signals_down : Config
signals_down = side_by_side_scripts
    (I.Set 5 511 ∷ I.Set 6 1 ∷ I.Create 2 2 2 5 6 ∷ I.Halt ∷ []) (I.Set 7 2 ∷ I.MakeKnown 2 2 7 ∷ I.Out 0 ∷ I.Halt ∷ [])

-- one refusal after the other, of a class without pages
unfoldable pub refusals : Config
refusals = record (alone (I.Set 3 1 ∷ I.Set 4 8 ∷ I.Set 5 511 ∷ I.Set 15 99 ∷
    I.Terminate 15 ∷ I.Out 0 ∷ I.MakeKnown 2 15 3 ∷ I.Out 0 ∷ I.MakeKnown 2 2 15 ∷ I.Out 0 ∷
    I.Create 2 2 15 5 3 ∷ I.Out 0 ∷ I.Create 2 2 2 4 3 ∷ I.Out 0 ∷ I.Create 2 2 2 5 15 ∷ I.Out 0 ∷
    I.Create 2 2 2 5 3 ∷ I.Create 2 2 2 5 3 ∷ I.Out 0 ∷
    I.Set 7 3 ∷ I.MakeKnown 2 2 7 ∷ I.Copy 8 1 ∷ I.SwapIn 8 ∷ I.SwapIn 8 ∷ I.Out 0 ∷ I.SwapOut 8 ∷ I.Out 0 ∷
    I.Create 8 2 2 5 3 ∷ I.Delete 2 2 ∷ I.Out 0 ∷ I.Delete 8 2 ∷ I.Delete 2 2 ∷ I.SwapIn 8 ∷ I.Out 0 ∷ I.Halt ∷ [])) {
      pools = record { frames = 2; pages = 0 } ∷ record { frames = 2; pages = 2 } ∷ [];
    }

-- a segment is made known until no place is left
unfoldable pub fills_known_table : Config
fills_known_table = alone (I.Set 5 511 ∷ I.Set 6 1 ∷ I.Create 2 2 2 5 6 ∷ I.Set 7 1 ∷ I.MakeKnown 2 2 7 ∷ I.JumpZ 0 4 ∷ I.Out 0 ∷ I.Halt ∷ [])

-- a class of lower integrity wants to modify a segment of class 0
unfoldable pub writes_up_in_integrity : Config
writes_up_in_integrity = record (side_by_side_scripts
    (I.Set 5 511 ∷ I.Set 6 1 ∷ I.Create 2 2 2 5 6 ∷ I.Halt ∷ []) (I.Set 7 3 ∷ I.MakeKnown 2 2 7 ∷ I.Out 0 ∷ I.Halt ∷ [])) {
      table = low ∷ class_entry (codes "high") 0 0 3 0 ∷ [];
    }

-- ring 4 wants to modify a segment with brackets 2 4 6
unfoldable pub writes_from_outer_ring : Config
writes_from_outer_ring = alone (I.Set 5 166 ∷ I.Set 6 1 ∷ I.Create 2 2 2 5 6 ∷ I.Set 7 3 ∷ I.MakeKnown 2 2 7 ∷ I.Out 0 ∷ I.Halt ∷ [])

-- two processes of one virtual processor: the first awaits what the second one signals
unfoldable pub polls_and_frees : Config
polls_and_frees = two_classes 1 (
    script 0 (I.Set 3 1 ∷ I.Await 2 3 ∷ I.Out 1 ∷ I.Halt ∷ []) ∷ script 0 (I.Set 4 7 ∷ I.Out 4 ∷ I.Advance 2 ∷ I.Halt ∷ []) ∷ []) []
    (process 0 0 0 4 ∷ process 0 0 1 4 ∷ [])

-- no words are fetched from the root
unfoldable pub fetches_nothing : Config
fetches_nothing = alone (I.Fetch 2 2 2 2 ∷ I.Out 0 ∷ I.Halt ∷ [])

-- the lines of the 64 segments that were made and deleted under a segment of class 1
unfoldable pub deleted_texts : List (List ℕ)
unfolding digits
deleted_texts = map (λ s. text ((codes "segment 1 " ++ decimal s ++ codes " deleted writes 0 count 0 tickets 0") ∷ [])) (below 64)
