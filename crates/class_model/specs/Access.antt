-- What an effect accesses, and whether the policy allows it by the labels and brackets that segments were given.
use Rattle.std.specs.Prelude.{ℕ, ◌+◌, Bool, true, false, ◌&&◌, List, [], ◌∷◌, ◌++◌, ◌==◌, if◌then◌else◌, Option, Some, None, is_none}
use Rattle.std.specs.List.{list_all, filter_map, find}
use Rattle.std.specs.Option.{option_map, option_map_or, option_and_then}
use Rattle.labels.specs.Label.{label_of}
use Rattle.rings.specs.Brackets.{Brackets}
use Rattle.words_layout.specs.Segments.{seg, same_seg}
use Rattle.words_layout.specs.declared.segment.SegId.{SegId}
use Rattle.words_layout.specs.declared.coding.Alias.{Alias}
use Rattle.policy.specs.Known.{Known}
use Rattle.policy.specs.Outcome.{Outcome, Value}
use Rattle.policy.specs.Verdict.{verdict}
use Rattle.class_model.specs.Config.{Config, SegRecord}
use Rattle.class_model.specs.Process.{Process, ProcName}
use Rattle.class_model.specs.Plan.{Request, MakeKnown, Create, Delete, SwapIn, SwapOut, Fetch, Update, Read, Advance, Ticket, Out}
use Rattle.class_model.specs.State.{State, entry_at, process_at}
use Rattle.class_model.specs.Run.{Happened, history, opening}

-- an access: the segment, the segment whose brackets are taken, and the rights
pub record Access : Type 0 where
  pub seg : SegId
  pub guard : SegId
  pub rights : ℕ

-- of the known segment itself
abbrev pub of_seg : Known → ℕ → Access
of_seg k rights = record { seg = k.seg; guard = k.seg; rights = rights }

-- delete modifies a child of class d only where it is Ok, under its mentor's brackets
abbrev pub child_access : ℕ → Known → Option Alias → Outcome → List Access
child_access d k (Some a) (Value v) = if a.class == d then record { seg = seg d a.serial; guard = k.seg; rights = 2 } ∷ [] else []
child_access d k _ _ = []

-- the accesses of a request of class d, in the state before it
abbrev pub accesses : State → ℕ → Request → Outcome → List Access
accesses a d (MakeKnown k e want) o = of_seg k 1 ∷ []
accesses a d (Create k e class b size) o = of_seg k 3 ∷ []
accesses a d (Delete k e) o = of_seg k 3 ∷ child_access d k (entry_at ((a.part d).cell k.seg) e) o
accesses a d (SwapIn k) o = of_seg k 3 ∷ []
accesses a d (SwapOut k) o = of_seg k 3 ∷ []
accesses a d (Fetch k offset count pad) o = of_seg k 1 ∷ []
accesses a d (Update k offset words) o = of_seg k 3 ∷ []
accesses a d (Read k wanted t) o = of_seg k 1 ∷ []
accesses a d (Advance k) o = of_seg k 2 ∷ []
accesses a d (Ticket k) o = of_seg k 3 ∷ []
accesses a d (Out value) o = []

-- what a segment was given when it came to be
pub record Given : Type 0 where
  pub seg : SegId
  pub class : ℕ
  pub brackets : Brackets
  pub size : ℕ

-- the root: class 0, brackets 7 7 7, size 0
abbrev pub given_root : Given
given_root = record { seg = seg 0 0; class = 0; brackets = record { r1 = 7; r2 = 7; r3 = 7 }; size = 0 }

-- what its record gave a segment
abbrev pub given_record : SegRecord → Given
given_record r = record { seg = r.seg; class = r.class; brackets = r.brackets; size = r.size }

-- what an Ok create of a process of class d gave the new segment
abbrev pub given_asked : ℕ → Option (Request × Outcome) → Option Given
given_asked d (Some (Create k e class b size, Value serial)) = Some (record { seg = seg d serial; class = class; brackets = b; size = size })
given_asked d _ = None

-- what an Ok create gave
abbrev pub given_effect : Happened → Option Given
given_effect h = given_asked h.who.class h.deed.asked

-- what was given to all segments: the root, the records and what was created in the run
abbrev pub all_given : Config → List Happened → List Given
all_given k run = given_root ∷ Rattle.std.specs.Prelude.map given_record k.records ++ filter_map given_effect run

-- what was given to a segment
abbrev pub given_to : List Given → SegId → Option Given
given_to all u = find (λ (g : Given). same_seg g.seg u) all

-- the access is allowed to a subject of class d in a ring
abbrev pub allowed : Config → List Given → ℕ → ℕ → Access → Bool
allowed k all d ring x =
    option_map_or (λ (object : Given).
    option_map_or (λ (guard : Given).
    is_none (verdict (label_of k.table d) ring (label_of k.table object.class) guard.brackets x.rights))
    (given_to all x.guard) false)
    (given_to all x.seg) false

-- the accesses of an effect
abbrev pub effect_accesses : Happened → List Access
effect_accesses h = option_map_or (λ (x : Request × Outcome). accesses h.before h.who.class x.0 x.1) h.deed.asked []

-- the ring of the process of an effect
abbrev pub ring_of : Happened → ℕ
ring_of h = option_map_or (λ (p : Process). p.ring) (process_at h.before h.who) 0

-- each access of each effect of the run is allowed
abbrev pub all_allowed : Config → List ProcName → Bool
all_allowed k names = let run = history (opening k) names in let all = all_given k run in
    list_all (λ (h : Happened). list_all (allowed k all h.who.class (ring_of h)) (effect_accesses h)) run
