-- A line behind the header is judged by its kind.
use Rattle.std.proofs.Common.{◌≡◌, List, [], ◌∷◌, Result, Ok, Err, refl, sym, ap, subst, ◌∙◌}
use Rattle.text_lines.specs.Faults.{judged}
use Rattle.config_text.specs.declared.fault.Code.{Code}
use Rattle.config_text.specs.declared.fault.Refusal.{Refusal}
use Rattle.config_text.specs.declared.fault.Refusal.TheVariants as refusal
use Rattle.config_text.specs.declared.draft.Taken.{Taken}
use Rattle.config_text.specs.declared.draft.Taken.TheVariants as taken
use Rattle.config_text.specs.declared.stage.Stage.{Stage}
use Rattle.config_text.specs.declared.stage.Stage.TheVariants as stage
use Rattle.config_text.specs.Place.{Place}
use Rattle.config_text.specs.Rules.{Text, Line, stage_tests, stage_next, body_tests, body_next, word_tests, word_next}
use Rattle.config_text.specs.Reading.{Takes, TakesBody}

-- a stage behind the header
abbrev pub IsBody : Stage → Type 0
IsBody stage.Scripts = Unit {0}
IsBody stage.Gates = Unit {0}
IsBody stage.Processes = Unit {0}
IsBody stage.Items = Unit {0}
IsBody _ = ⊥

pub body_stage_tests : (s : Stage) (p : Place) (ws : List Text) → IsBody s → stage_tests s p ws ≡ body_tests p ws
body_stage_tests stage.Header p ws is = absurd is
body_stage_tests stage.Count p ws is = absurd is
body_stage_tests stage.Classes p ws is = absurd is
body_stage_tests stage.Processors p ws is = absurd is
body_stage_tests stage.Cycle p ws is = absurd is
body_stage_tests stage.Rounds p ws is = absurd is
body_stage_tests stage.Quantum p ws is = absurd is
body_stage_tests stage.Console p ws is = absurd is
body_stage_tests stage.Scripts p ws is = refl
body_stage_tests stage.Gates p ws is = refl
body_stage_tests stage.Processes p ws is = refl
body_stage_tests stage.Items p ws is = refl
body_stage_tests stage.Ended p ws is = absurd is

pub body_stage_next : (s : Stage) (p : Place) (ws : List Text) (more : List Line) → IsBody s → stage_next s p ws more ≡ body_next p ws more
body_stage_next stage.Header p ws more is = absurd is
body_stage_next stage.Count p ws more is = absurd is
body_stage_next stage.Classes p ws more is = absurd is
body_stage_next stage.Processors p ws more is = absurd is
body_stage_next stage.Cycle p ws more is = absurd is
body_stage_next stage.Rounds p ws more is = absurd is
body_stage_next stage.Quantum p ws more is = absurd is
body_stage_next stage.Console p ws more is = absurd is
body_stage_next stage.Scripts p ws more is = refl
body_stage_next stage.Gates p ws more is = refl
body_stage_next stage.Processes p ws more is = refl
body_stage_next stage.Items p ws more is = refl
body_stage_next stage.Ended p ws more is = absurd is

pub body_judged : (p : Place) (ws : List Text) (more : List Line) → IsBody p.stage → judged (word_tests p ws) (word_next p ws more) ≡ judged (body_tests p ws) (body_next p ws more)
body_judged p [] more is = refl
body_judged p (w ∷ ws) more is = rw (body_stage_tests p.stage p (w ∷ ws) is, body_stage_next p.stage p (w ∷ ws) more is) refl

-- likewise of its answer
pub takes_body : (s : Stage) (old new : Place) (ws : List Text) (r : Result Taken Refusal) → old.stage ≡ s → IsBody s → TakesBody old new ws r → Takes old new ws r
takes_body s old new ws (Ok taken.Line) e is h = λ more. body_judged old ws more (subst IsBody (sym e) is) ∙ h more
takes_body s old new ws (Ok (taken.Script class)) e is h = (h.0, λ more. body_judged old ws more (subst IsBody (sym e) is) ∙ h.1 more)
takes_body s old new ws (Err (refusal.Code c)) e is h = λ more. body_judged old ws more (subst IsBody (sym e) is) ∙ h more
takes_body s old new ws (Err refusal.Memory) e is h = tt
