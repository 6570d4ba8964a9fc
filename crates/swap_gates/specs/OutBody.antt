-- What is left of the body of swapout.
use Rattle.std.specs.Prelude.{ℕ, ◌+◌, ◌-◌}
use Rattle.words_layout.specs.Words.{HomeOf, FrameTenant, FrameWord, PageTenant, PageWord}
use Rattle.words_layout.specs.Coding.{home_of, pack_home}
use Rattle.words_layout.specs.declared.coding.Home.TheVariants as H
use Rattle.policy.specs.Outcome.{Outcome, Refused, Value}
use Rattle.policy.specs.declared.rule.Rule.TheVariants.{NoPage}
use Rattle.turns.specs.Bodies.{Inner, Outer}
use Rattle.gate_parts.specs.Bodies.{came_to}
use Rattle.swap_gates.specs.Swap.{find_free, copy_words, take_page, swap_out_home, swap_out_body}
use Rattle.swap_gates.specs.declared.out_body.Rest.{Rest}
use Rattle.swap_gates.specs.declared.out_body.Rest.TheVariants as R
use Rattle.swap_gates.specs.declared.out_body.OutBody.{OutBody}

-- the home is stored last
abbrev pub set_out : OutBody → Inner Outcome
set_out s = Inner.Store (HomeOf s.known.seg) (pack_home (H.Stored s.page s.size)) (Inner.Shows (Value 0))

-- the frame is freed before it
abbrev pub freed : OutBody → Inner Outcome
freed s = Inner.Store (FrameTenant s.frame) 0 (set_out s)

-- what is left of the segment's turn
abbrev pub out_rest : OutBody → Rest → Inner Outcome
out_rest s R.Home = Inner.Load (HomeOf s.known.seg) (λ w. swap_out_home s.pool s.known (home_of w))
out_rest s R.Find = find_free PageTenant s.page (s.pool - s.page) (take_page s.known s.frame s.size) (Inner.Shows (Refused NoPage))
out_rest s R.Take = take_page s.known s.frame s.size s.page
out_rest s R.Load = copy_words (FrameWord s.frame) (PageWord s.page) s.place (s.known.size - s.place) (freed s)
out_rest s R.Store = Inner.Store (PageWord s.page s.place) s.word (copy_words (FrameWord s.frame) (PageWord s.page) (s.place + 1) (s.known.size - (s.place + 1)) (freed s))
out_rest s R.Free = freed s
out_rest s R.SetHome = set_out s
out_rest s (R.Shown refusal) = Inner.Shows (came_to refusal)

-- the whole body
abbrev pub out_whole : OutBody → Outer Outcome
out_whole s = swap_out_body s.pool s.known

-- what is left of it
abbrev pub out_left : OutBody → Outer Outcome
out_left s = Outer.Enter s.known.seg (out_rest s s.rest)
