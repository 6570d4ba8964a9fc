-- The first step of an instruction that passed its private tests.
use Rattle.std.proofs.Common.{ℕ, ◌≡◌, refl, ap, ◌∙◌, Bool, List, Option, Some, None}
use Rattle.std.specs.Prelude.{if◌then◌else◌}
use Rattle.policy.specs.Known.{Known, usable}
use Rattle.policy.specs.Outcome.{Outcome}
use Rattle.policy.specs.Verdict.{first_broken}
use Rattle.policy.specs.declared.rule.Rule.{Rule}
use Rattle.policy.specs.declared.answers.Reply.{Reply}
use Rattle.turns.specs.Bodies.{Outer}
use Rattle.turns.specs.Doing.{Doing, Fresh, Told, Act, ClassTurn, act_told}
use Rattle.turns.specs.Stands.{step_told}
use Rattle.gate_parts.specs.Replies.{begins, unless_broken, reply_kept}
use Rattle.class_model.specs.Next.{IsUsable}
use Rattle.process.specs.Shows.{OuterShows, IsReply}
use Rattle.process.specs.Standing.{IsNesting}

-- an act whose private tests pass is told what its act is told
pub begins_told : (k : Known) (tests : Known → List (Bool × Rule)) (does : Known → Act Outcome) (act : Act Outcome) (x : Doing Outcome) (answer : ℕ) →
    act ≡ begins (usable (Some k)) tests does → IsUsable k → first_broken (tests k) ≡ None → x ≡ Fresh → step_told act x answer ≡ act_told (does k) answer
begins_told k tests does act x answer begun may passed fresh =
    let started : begins (usable (Some k)) tests does ≡ does k =
    ap (λ (b : Bool). begins (if b then None else Some k) tests does) may ∙ ap (λ (o : Option Rule). unless_broken o (does k)) passed in
    let act_is : act ≡ does k = begun ∙ started in
    rw (act_is, fresh) refl

-- a gate that was begun again is told what its act is told
pub restarts_told : (act does : Act Outcome) (x : Doing Outcome) (answer : ℕ) → act ≡ does → x ≡ Fresh → step_told act x answer ≡ act_told does answer
restarts_told act does x answer same fresh = rw (same, fresh) refl

-- the first step of a class's turn in which one nests
pub nesting_begun : (body : Outer Outcome) (answer : ℕ) (told : Told Outcome) (next : Doing Outcome) (kept now : Option Reply) →
    told ≡ act_told (ClassTurn body) answer → next ≡ told.doing → kept ≡ None → now ≡ reply_kept told kept → OuterShows IsReply (Unit {0}) body → IsNesting next now
nesting_begun body answer told next kept now same goes none keeps h = rw (goes, keeps, same, none) (h, refl)
