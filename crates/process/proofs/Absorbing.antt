-- What a process makes of an answer.
use Rattle.std.proofs.Common.{ℕ, ◌<◌, ◌≡◌, refl, sym, ap, ◌∙◌, subst, Bool, true, false}
use Rattle.policy.specs.Outcome.{Outcome}
use Rattle.policy.specs.declared.answers.Reply.{Reply}
use Rattle.words_layout.specs.Words.{WordOp, class_of}
use Rattle.words_layout.specs.Named.{op_at}
use Rattle.words_layout.specs.Ops.{IsWithin}
use Rattle.words_layout.specs.Limits.{word_in_limits}
use Rattle.words_layout.proofs.Addresses.{class_of-address}
use Rattle.words_layout.proofs.ByName.{named_operations_are_within}
use Rattle.turns.specs.Doing.{Doing, Fresh, Ending, Goes, Polls, Ends, Told, going}
use Rattle.gate_parts.specs.Replies.{answer_by}
use Rattle.class_model.specs.Config.{Shared, classes, flows}
use Rattle.class_model.specs.Process.{Process}
use Rattle.process.specs.Running.{Running, taken, after_told, next_op}
use Rattle.process.specs.Fits.{IsSound, Fits, OpFits}
use Rattle.process.specs.Standing.{Standing, Stepped, Absorbs, OpIsLawful, doing_in, ended_if, ending_of, reply_held}
use Rattle.process.specs.Asking.{AskedOnce}
use Rattle.process.specs.declared.doing.Doing.{Doing as Held}
use Rattle.process.specs.declared.doing.Doing.TheVariants as H
use Rattle.process.specs.declared.doing.Step.{Step}
use Rattle.process.specs.declared.doing.Absorbed.{Absorbed as Answered}
use Rattle.process.specs.declared.doing.Made.TheVariants as G
use Rattle.process.proofs.Loaded.{op_fits, op_within}

ending_answer : (e : Ending) (r : Reply) → ending_of (answer_by e r) ≡ e
ending_answer Goes r = refl
ending_answer Polls r = refl
ending_answer Ends r = refl

ended_doing : (s : Shared) (x : Held) (over : Bool) (y : Doing Outcome) → (over ≡ true → y ≡ Fresh) → doing_in s.table x ≡ y → doing_in s.table (ended_if over x) ≡ y
ended_doing s x true y ends e = sym (ends refl)
ended_doing s x false y ends e = e

-- a step that isn't the first of its instruction
pub next_absorbs : (s : Shared) (before after : Standing) (x : Held) (p : Process) (step : Step) (told : Told Outcome) (given : Answered) →
    Stepped told before.process p step → doing_in s.table x ≡ told.doing →
    after ≡ record { class = before.class; process = p; doing = ended_if step.over x } →
    given ≡ record { outcome = answer_by (ending_of step.outcome) (reply_held p); made = G.Nothing; effect = step.effect } →
    Absorbs s before after (after_told before.process told) given
next_absorbs s before after x p step told given h goes is says = rw (is, says) (record {
  running = ap (λ (q : Process). let r : Running = record { process = q; doing = doing_in s.table (ended_if step.over x) } in r) h.settled
      ∙ ap (λ (y : Doing Outcome). let r : Running = record { process = taken before.process told.takes; doing = y } in r) (ended_doing s x step.over told.doing h.over goes);
  class = refl;
  ending = ending_answer (ending_of step.outcome) (reply_held p) ∙ h.ending;
  reply = ap (λ (e : Ending). answer_by e (reply_held p)) h.ending;
  effect = h.effect;
  made = sym h.silent;
})

-- a request that is done by one operation
pub once_absorbs : (s : Shared) (before after : Standing) (p : Process) (told : Told Outcome) (once given : Answered) →
    AskedOnce told before.process p once → after ≡ record { class = before.class; process = p; doing = H.Fresh } →
    given ≡ record { outcome = answer_by (ending_of once.outcome) (reply_held p); made = once.made; effect = once.effect } →
    Absorbs s before after (after_told before.process told) given
once_absorbs s before after p told once given h is says = rw (is, says) (record {
  running = ap (λ (q : Process). let r : Running = record { process = q; doing = Fresh } in r) h.settled
      ∙ ap (λ (y : Doing Outcome). let r : Running = record { process = taken before.process told.takes; doing = y } in r) (sym h.fresh);
  class = refl;
  ending = ending_answer (ending_of once.outcome) (reply_held p) ∙ h.ending;
  reply = ap (λ (e : Ending). answer_by e (reply_held p)) h.ending;
  effect = h.effect;
  made = h.made before.class;
})

-- one that looks or takes turns
pub begin_absorbs : (s : Shared) (before after : Standing) (x : Held) (told : Told Outcome) (given : Answered) →
    told ≡ going (doing_in s.table x) → after ≡ record { class = before.class; process = before.process; doing = x } →
    given ≡ record { outcome = Rattle.policy.specs.declared.answers.Outcome.TheVariants.Going; made = G.Nothing; effect = false } →
    Absorbs s before after (after_told before.process told) given
begin_absorbs s before after x told given goes is says = rw (is, says, goes) (record { running = refl; class = refl; ending = refl; reply = refl; effect = refl; made = refl })

-- ---- the operation of a step

class_there : (d : ℕ) (word : Rattle.words_layout.specs.Words.Word) → word_in_limits word ≡ true → class_of (Rattle.words_layout.specs.Words.address d word) ≡ d
class_there d word h = class_of-address d word h

lawful_by : (s : Shared) (d : ℕ) (op : WordOp) → OpFits s d op → OpIsLawful s d (op_at d op)
lawful_by s d WordOp.Nothing h = tt
lawful_by s d (WordOp.Load class word) h =
    (subst (λ (c : ℕ). c < classes s) (sym (class_there class word h.2)) h.0, subst (λ (c : ℕ). flows s c d ≡ true) (sym (class_there class word h.2)) h.1)
lawful_by s d (WordOp.Store word v) h = class_there d word h
lawful_by s d (WordOp.Add word v) h = class_there d word h

pub op_lawful : (s : Shared) (good : IsSound s) (d : ℕ) (r : Running) → Fits s d r → OpIsLawful s d (op_at d (next_op s d r))
op_lawful s good d r f = lawful_by s d (next_op s d r) (op_fits s good d r f)

pub op_within_layout : (s : Shared) (good : IsSound s) (d : ℕ) (r : Running) → Fits s d r → IsWithin (classes s) (op_at d (next_op s d r))
op_within_layout s good d r f = named_operations_are_within (classes s) d (next_op s d r) f.class (op_within s good d r f)
