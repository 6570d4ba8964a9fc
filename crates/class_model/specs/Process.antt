-- A process, and what its replies do to it.
use Rattle.std.specs.Prelude.{ℕ, ◌+◌, Bool, true, List, [], ◌∷◌, ◌==◌, if◌then◌else◌, replicate, length, Option, Some, None, is_none, slice_index, slice_index_or, slice_set, unwrap_or}
use Rattle.std.specs.List.{position}
use Rattle.lists.specs.Lists.{overwrite}
use Rattle.words_layout.specs.Segments.{seg}
use Rattle.policy.specs.Known.{Known, usable}
use Rattle.policy.specs.Outcome.{Outcome, Refused, Value, Learns, Words, Printed, Looked, Counted, Tally}
use Rattle.policy.specs.Verdict.{number}
use Rattle.policy.specs.declared.rule.Rule.{Rule}
use Rattle.policy.specs.declared.rule.Rule.TheVariants.{KstFull}

-- where a call goes back to
pub record Return : Type 0 where
  pub script : ℕ
  pub place : ℕ
  pub ring : ℕ

-- Sixteen registers, 64 pad words and sixteen known places; the ring stack with its top first; and the look at an eventcount
-- that it has begun.
pub record Process : Type 0 where
  pub script : ℕ
  pub place : ℕ
  pub ring : ℕ
  pub stack : List Return
  pub regs : List ℕ
  pub pad : List ℕ
  pub known : List (Option Known)
  pub live : Bool
  pub look : Option Tally

-- the name of a process
pub record ProcName : Type 0 where
  pub processor : ℕ
  pub class : ℕ
  pub slot : ℕ

-- the root as a process of a class knows it: class 0 may modify it, all may observe it
abbrev pub root_known : ℕ → Known
root_known class = record {
  seg = seg 0 0;
  class = 0;
  brackets = record { r1 = 7; r2 = 7; r3 = 7 };
  size = 0;
  rights = if class == 0 then 3 else 1;
}

-- a process at the start of a script, with r2 = start
abbrev pub new_process : ℕ → ℕ → ℕ → ℕ → Process
new_process class script ring start = record {
  script = script;
  place = 0;
  ring = ring;
  stack = [];
  regs = slice_set (replicate 16 0) 2 start;
  pad = replicate 64 0;
  known = Some (root_known class) ∷ replicate 15 None;
  live = true;
  look = None;
}

-- the number in a register
abbrev pub reg : Process → ℕ → ℕ
reg p a = slice_index p.regs a

-- the process with a register set, gone on to the next place
abbrev pub with_reg : Process → ℕ → ℕ → Process
with_reg p a v = record p { regs = slice_set p.regs a v; place = p.place + 1 }

-- what the process knows under a number
abbrev pub known_at : Process → ℕ → Option Known
known_at p segno = slice_index_or p.known segno None

-- likewise, where it may do more with it than signal
abbrev pub usable_at : Process → ℕ → Option Known
usable_at p segno = usable (known_at p segno)

-- how far its look at an eventcount has come
abbrev pub tally_of : Process → Tally
tally_of p = unwrap_or p.look (record { seen = 0; sum = 0 })

-- the least empty known place
abbrev pub free_known : Process → Option ℕ
free_known p = position (λ k. is_none k) p.known

-- the process gone on to the next place with a code in r0 and a value in r1
abbrev pub reply : Process → ℕ → ℕ → Process
reply p code value = record p { regs = slice_set (slice_set p.regs 0 code) 1 value; place = p.place + 1 }

-- a refusal changes r0 and r1 alone
abbrev pub refused : Process → Rule → Process
refused p rule = reply p (number rule) 0

-- an answer of Ok
abbrev pub answered : Process → ℕ → Process
answered p value = reply p 0 value

-- the known table with a segment in the place that was found
abbrev pub learned : Process → Known → Option ℕ → Process
learned p k None = refused p KstFull
learned p k (Some place) = answered (record p { known = slice_set p.known place (Some k) }) place

-- the process after the effect of its request
abbrev pub settled : Process → Outcome → Process
settled p (Refused rule) = refused p rule
settled p (Value value) = answered p value
settled p (Learns k) = learned p k (free_known p)
settled p (Words at words) = answered (record p { pad = overwrite p.pad at words }) (length words)
settled p (Printed place value) = answered p place
settled p (Looked tally) = record p { look = tally }
settled p (Counted sum) = answered (record p { look = None }) sum
