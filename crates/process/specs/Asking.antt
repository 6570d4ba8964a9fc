-- Requests as the code holds them.
use Rattle.std.specs.Prelude.{ℕ, ◌≡◌, Bool, true, false, ◌==◌, if◌then◌else◌, is_some}
use Rattle.policy.specs.Outcome.{Outcome}
use Rattle.policy.specs.declared.answers.Outcome.{Outcome as Answer}
use Rattle.policy.specs.declared.answers.Outcome.TheVariants as R
use Rattle.turns.specs.Doing.{Fresh, Told}
use Rattle.class_model.specs.Config.{Shared}
use Rattle.class_model.specs.Process.{Process, reply}
use Rattle.class_model.specs.declared.request.Request.{Request as Asked}
use Rattle.class_model.specs.declared.request.Request.TheVariants as A
use Rattle.process.specs.Running.{taken, made_of}
use Rattle.process.specs.Fits.{KnownFits}
use Rattle.process.specs.Standing.{ending_of, made_by}
use Rattle.process.specs.declared.doing.Absorbed.{Absorbed as Answered}
use Rattle.process.specs.declared.doing.Made.{Made as Given}
use Rattle.process.specs.declared.doing.Made.TheVariants as G

-- it is done by one operation
abbrev pub is_once : Asked → Bool
is_once (A.Read k wanted tally) = true
is_once (A.Advance k) = true
is_once (A.Ticket k) = true
is_once (A.Out value) = true
is_once _ = false

-- the known segment of which it asks fits
abbrev pub AskedFits : Shared → ℕ → Asked → Type 0
AskedFits s d (A.MakeKnown k entry mode) = KnownFits s d k
AskedFits s d (A.Create k entry class brackets size) = KnownFits s d k
AskedFits s d (A.Delete k entry) = KnownFits s d k
AskedFits s d (A.SwapIn k) = KnownFits s d k
AskedFits s d (A.SwapOut k) = KnownFits s d k
AskedFits s d (A.Fetch k offset count pad) = KnownFits s d k
AskedFits s d (A.Update k offset count pad) = KnownFits s d k
AskedFits s d (A.Read k wanted tally) = KnownFits s d k
AskedFits s d (A.Advance k) = KnownFits s d k
AskedFits s d (A.Ticket k) = KnownFits s d k
AskedFits s d (A.Out value) = Unit {0}

-- the process after the reply to such a request
abbrev pub once_by : Process → Answer → Process
once_by p (R.Done r) = reply p r.code r.value
once_by p _ = p

-- the console line of an out that was answered so
abbrev pub line_by : Answer → (value : ℕ) → Given
line_by (R.Done r) value = if r.code == 0 then G.Line r.value value else G.Nothing
line_by _ value = G.Nothing

-- a request that is done by one operation does what it was told: what takes effect by it changes the process
pub record AskedOnce (told : Told Outcome) (before after : Process) (given : Answered) : Type 0 where
  pub fresh : told.doing ≡ Fresh
  pub ending : ending_of given.outcome ≡ told.ending
  pub effect : given.effect ≡ is_some told.takes
  pub settled : after ≡ taken before told.takes
  pub made : (d : ℕ) → made_by d given.made ≡ made_of told.takes
