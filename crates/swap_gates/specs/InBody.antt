-- What is left of the body of swapin.
use Rattle.std.specs.Prelude.{ℕ, ◌+◌, ◌-◌, Option, Some, None}
use Rattle.words_layout.specs.Words.{HomeOf, FrameTenant, FrameWord, PageWord}
use Rattle.words_layout.specs.Coding.{home_of, pack_home}
use Rattle.words_layout.specs.declared.coding.Home.TheVariants as H
use Rattle.policy.specs.Known.{Known}
use Rattle.policy.specs.Outcome.{Outcome, Refused, Value}
use Rattle.policy.specs.declared.rule.Rule.TheVariants.{NoFrame}
use Rattle.turns.specs.Bodies.{Inner, Outer}
use Rattle.gate_parts.specs.Bodies.{came_to}
use Rattle.gate_parts.specs.Taken.{page_of}
use Rattle.swap_gates.specs.Swap.{find_free, zero_words, copy_words, bring_in, swap_in_home, swap_in_body}
use Rattle.swap_gates.specs.declared.in_body.Rest.{Rest}
use Rattle.swap_gates.specs.declared.in_body.Rest.TheVariants as R
use Rattle.swap_gates.specs.declared.in_body.InBody.{InBody}

-- the home is stored last
abbrev pub set_in : Known → Option ℕ → ℕ → Inner Outcome
set_in k page f = Inner.Store (HomeOf k.seg) (pack_home (H.Resident f page k.size)) (Inner.Shows (Value 0))

-- what is left of the segment's turn
abbrev pub in_rest : InBody → Rest → Inner Outcome
in_rest s R.Home = Inner.Load (HomeOf s.known.seg) (λ w. swap_in_home s.pool s.known (home_of w))
in_rest s R.Find = find_free FrameTenant s.frame (s.pool - s.frame) (bring_in s.known (page_of s.stored s.page)) (Inner.Shows (Refused NoFrame))
in_rest s R.Take = bring_in s.known (page_of s.stored s.page) s.frame
in_rest s R.Zero = zero_words s.frame s.place (s.known.size - s.place) (set_in s.known None s.frame)
in_rest s R.Load = copy_words (PageWord s.page) (FrameWord s.frame) s.place (s.known.size - s.place) (set_in s.known (Some s.page) s.frame)
in_rest s R.Store = Inner.Store (FrameWord s.frame s.place) s.word (copy_words (PageWord s.page) (FrameWord s.frame) (s.place + 1) (s.known.size - (s.place + 1)) (set_in s.known (Some s.page) s.frame))
in_rest s R.SetHome = set_in s.known (page_of s.stored s.page) s.frame
in_rest s (R.Shown refusal) = Inner.Shows (came_to refusal)

-- the whole body
abbrev pub in_whole : InBody → Outer Outcome
in_whole s = swap_in_body s.pool s.known

-- what is left of it
abbrev pub in_left : InBody → Outer Outcome
in_left s = Outer.Enter s.known.seg (in_rest s s.rest)
