-- What is posted through a segment, and what the law of mailboxes says.
use Rattle.std.specs.Prelude.{ℕ, ◌≡◌, ◌≤◌, ◌^◌, Bool, true, ◌&&◌, ◌||◌, List, [], ◌++◌, ◌==◌, if◌then◌else◌, take, length, Option, Some, None, is_some, slice_get, slice_index_or}
use Rattle.std.specs.List.{filter, filter_map}
use Rattle.std.specs.Option.{option_map, option_map_or}
use Rattle.words_layout.specs.Segments.{same_seg}
use Rattle.words_layout.specs.declared.segment.SegId.{SegId}
use Rattle.policy.specs.Known.{Known}
use Rattle.policy.specs.Outcome.{Outcome, Value}
use Rattle.script_lang.specs.declared.instr.Instr.{Instr}
use Rattle.class_model.specs.Config.{Config, ProcessLine, program_of}
use Rattle.class_model.specs.Process.{Process, ProcName, reg, known_at}
use Rattle.class_model.specs.Plan.{Request, Ticket}
use Rattle.class_model.specs.State.{State, process_at}
use Rattle.class_model.specs.Run.{Happened, history, opening, run}
use Rattle.class_model.specs.Valid.{IsConfig}
use Rattle.class_model.specs.Content.{draws, advances, update_asked, tickets_in}
use Rattle.mail_scripts.specs.Programs.{IsPost, IsCollect}

-- register r9 of the process of an effect that is an Ok ticket of u
abbrev pub posted : SegId → Happened → Option ℕ
posted u h = if draws u h.deed.asked then option_map (λ (p : Process). reg p 9) (process_at h.before h.who) else None

-- What is posted through u by these effects: r9 of the poster at each Ok ticket of u, in the order of the tickets. The ticket that
-- returns k stands at place k.
abbrev pub posts : SegId → List Happened → List ℕ
posts u run = filter_map (posted u) run

-- the process line of a name; a process that was spawned has none
abbrev pub line_of : Config → ProcName → Option ProcessLine
line_of k n = slice_get (filter (λ (l : ProcessLine). l.processor == n.processor && l.class == n.class) k.processes) n.slot

-- the program of the script that the process line of a name names, none where it has no line
abbrev pub named_program : Config → ProcName → List Instr
named_program k n = option_map_or (λ (l : ProcessLine). program_of (slice_index_or k.scripts l.script None)) (line_of k n) []

-- its process line names a Post script
abbrev pub IsPoster : Config → ProcName → Type 0
IsPoster k n = IsPost (named_program k n)

-- its process line names a Collect script
abbrev pub IsCollector : Config → ProcName → Type 0
IsCollector k n = IsCollect (named_program k n)

-- it is an Ok ticket, update or advance of u
abbrev pub serves : SegId → Option (Request × Outcome) → Bool
serves u asked = draws u asked || advances u asked || is_some (update_asked u asked)

-- only posters make an Ok ticket, update or advance of u
abbrev pub OnlyPosters : Config → SegId → List Happened → Type 0
OnlyPosters k u run = (i : ℕ) (h : Happened) → slice_get run i ≡ Some h → serves u h.deed.asked ≡ true → IsPoster k h.who

-- The process has made the segment known. Place 0 is the root's from the begin.
pub record HasMadeKnown (p : Process) (u : SegId) : Type 0 where
  pub place : ℕ
  pub made : 1 ≤ place
  pub known : Known
  pub there : known_at p place ≡ Some known
  pub of_u : same_seg known.seg u ≡ true

-- a list begins with another one
abbrev pub BeginsWith : List ℕ → List ℕ → Type 0
BeginsWith all front = (rest : List ℕ) × (all ≡ front ++ rest)

-- the pad words below r9 of each collector that has made u known are a prefix of these posts
abbrev pub HoldsPrefixes : Config → SegId → List ℕ → State → Type 0
HoldsPrefixes k u posts a = (n : ProcName) (p : Process) → IsCollector k n → process_at a n ≡ Some p → HasMadeKnown p u → BeginsWith posts (take (reg p 9) p.pad)

-- Where only posters make an Ok ticket, update or advance of u, each collector of u holds a prefix of what was posted through u,
-- whatever the order of effect. A machine word counts the names.
abbrev pub MailArrives : Type 0
MailArrives = (k : Config) (names : List ProcName) (u : SegId) → IsConfig k → length names ≤ 2 ^ 64 → OnlyPosters k u (history (opening k) names) →
    HoldsPrefixes k u (posts u (history (opening k) names)) (run k names)

-- Each Ok ticket of u stands for one post: the ticket that answered v for the post at place v, which is r9 of its process.
abbrev pub PostsAreByTicket : Type 0
PostsAreByTicket = (k : Config) (names : List ProcName) (u : SegId) → IsConfig k → let run = history (opening k) names in
    (length (posts u run) ≡ tickets_in u run) ×
    ((i : ℕ) (h : Happened) (x : Known) (v : ℕ) (p : Process) → slice_get run i ≡ Some h → h.deed.asked ≡ Some (Ticket x, Value v) → same_seg x.seg u ≡ true → process_at h.before h.who ≡ Some p →
    slice_get (posts u run) v ≡ Some (reg p 9))
