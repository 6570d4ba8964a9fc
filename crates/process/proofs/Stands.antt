-- What a process in memory that fits may ask, and what the step machine says of it.
use Rattle.std.proofs.Common.{ℕ, ◌<◌, ◌≡◌, refl, sym, ap, ◌∙◌, subst, Bool, true, false, List, Option, arith}
use Rattle.labels.specs.Label.{ClassEntry}
use Rattle.labels.specs.Table.{IsTable}
use Rattle.policy.specs.Outcome.{Outcome}
use Rattle.turns.specs.Doing.{Doing, Fresh, LookSecond, LookBody, doing_op, doing_told}
use Rattle.words_layout.specs.Ops.{IsWithin}
use Rattle.words_layout.specs.Named.{op_at}
use Rattle.words_layout.specs.declared.op.Op.{Op}
use Rattle.tree_gates.specs.MakingKnown as MakingKnown
use Rattle.tree_gates.specs.Creating as Creating
use Rattle.tree_gates.specs.Deleting as Deleting
use Rattle.swap_gates.specs.SwappingIn as SwappingIn
use Rattle.swap_gates.specs.SwappingOut as SwappingOut
use Rattle.data_gates.specs.Fetching as Fetching
use Rattle.data_gates.specs.Updating as Updating
use Rattle.class_model.specs.Config.{Shared, classes}
use Rattle.class_model.specs.Shared.{IsShared}
use Rattle.class_model.specs.Process.{Process, new_process}
use Rattle.class_model.specs.Plan.{Plan, Begin, Ask, plan}
use Rattle.class_model.specs.Next.{CanStep, request_of}
use Rattle.class_model.specs.declared.request.Request.{Request as Asked}
use Rattle.class_model.proofs.Programs.{program_length}
use Rattle.process.specs.Running.{next_op, running_op, absorb, after_told, begin_in, plan_absorbed, doing_absorbed}
use Rattle.process.specs.Fits.{IsSound, Fits, MadeFits, OpFits}
use Rattle.process.specs.Shows.{IsLooking, IsTurning, IsReply, IsLearning, IsFetch}
use Rattle.process.specs.Asking.{AskedFits}
use Rattle.process.specs.Standing.{Standing, StandingFits, GivenFits, Absorbs, OpIsLawful, IsHeld, StandingSteps, doing_in, ended_if, running_of, made_by}
use Rattle.process.specs.declared.doing.Doing.{Doing as Held}
use Rattle.process.specs.declared.doing.Doing.TheVariants as H
use Rattle.process.specs.declared.doing.Made.{Made as Given}
use Rattle.process.specs.declared.doing.Made.TheVariants as G
use Rattle.process.specs.declared.doing.Absorbed.{Absorbed as Answered}
use Rattle.process.proofs.Keeping.{fits_after, made_fits}
use Rattle.process.proofs.Loaded.{op_fits}
use Rattle.process.proofs.Absorbing.{op_lawful, op_within_layout}
use Rattle.process.proofs.Asked.{asked_fits}

-- what no step changes is sound
pub sound_by : (s : Shared) (table : List ClassEntry) → table ≡ s.table → IsTable table → IsShared s → IsSound s
sound_by s table e h good = record { table = subst IsTable e h; shared = good }

-- ---- begun

-- an instruction that was begun asks and is told as the step machine says, whatever its process is about to do
pub record IsBegun (x : Doing Outcome) : Type 0 where
  pub asks : (s : Shared) (d : ℕ) (p : Process) → running_op s d p x ≡ doing_op d x
  pub absorbs : (s : Shared) (d : ℕ) (p : Process) (free : Option ℕ) (answer : ℕ) → doing_absorbed s d p free answer x ≡ after_told p (doing_told x answer)

begun_look : (P : Outcome → Type 0) (x : Doing Outcome) → IsLooking P x → IsBegun x
begun_look P (LookSecond class g k body) h = record { asks = λ s d p. refl; absorbs = λ s d p free answer. refl }
begun_look P (LookBody class g k rest) h = record { asks = λ s d p. refl; absorbs = λ s d p free answer. refl }
begun_look P _ h = absurd h

begun_turn : (Nests : Type 0) (x : Doing Outcome) → IsTurning IsReply Nests x → IsBegun x
begun_turn Nests Fresh h = absurd h
begun_turn Nests (LookSecond class g k body) h = absurd h
begun_turn Nests (LookBody class g k rest) h = absurd h
begun_turn Nests _ h = record { asks = λ s d p. refl; absorbs = λ s d p free answer. refl }

pub begun_held : (d : ℕ) (table : List ClassEntry) (x : Held) → IsHeld d x → (x ≡ H.Fresh → ⊥) → IsBegun (doing_in table x)
begun_held d table H.Fresh h other = absurd (other refl)
begun_held d table (H.MakeKnown gate) h other = begun_look IsLearning (MakingKnown.doing_of table gate) (h.2 table)
begun_held d table (H.Create gate) h other = begun_turn ⊥ (Creating.doing_of gate) h.1
begun_held d table (H.Delete gate) h other = begun_turn (Unit {0}) (Deleting.doing_of gate) h.1.0
begun_held d table (H.SwapIn gate) h other = begun_turn (Unit {0}) (SwappingIn.doing_of gate) h.1.0
begun_held d table (H.SwapOut gate) h other = begun_turn (Unit {0}) (SwappingOut.doing_of gate) h.1.0
begun_held d table (H.Fetch gate pad) h other = begun_look (IsFetch pad) (Fetching.doing_of gate) h
begun_held d table (H.Update gate) h other = begun_turn ⊥ (Updating.doing_of gate) h.1

-- where an instruction was begun, what is kept is its own, and in order
pub held_on : (d : ℕ) (over : Bool) (x : Held) → IsHeld d (ended_if over x) → (ended_if over x ≡ H.Fresh → ⊥) → IsHeld d x
held_on d true x h other = absurd (other refl)
held_on d false x h other = h

kept_on : (over : Bool) (x : Held) → (ended_if over x ≡ H.Fresh → ⊥) → x ≡ ended_if over x
kept_on true x other = absurd (other refl)
kept_on false x other = refl

-- a process as its fields hold it: over says that what is kept is left of the last instruction
module _ (s : Shared) (d : ℕ) (p : Process) (over : Bool) (x : Held) (h : IsHeld d (ended_if over x)) (v : Standing)
    (is : (let w : Standing = record { class = d; process = p; doing = ended_if over x } in w) ≡ v) (begun : v.doing ≡ H.Fresh → ⊥) where
  begun_within : ended_if over x ≡ H.Fresh → ⊥
  begun_within e = begun (ap (λ (w : Standing). w.doing) (sym is) ∙ e)

  pub held_within : IsHeld d x
  held_within = held_on d over x h begun_within

  -- what is kept is what the process does
  pub kept_within : (t : List ClassEntry) → t ≡ s.table → doing_in t x ≡ doing_in s.table v.doing
  kept_within t e = ap (λ (t : List ClassEntry). doing_in t x) e ∙ ap (doing_in s.table) (kept_on over x begun_within) ∙ ap (λ (w : Standing). doing_in s.table w.doing) is

  begun_now : IsBegun (doing_in s.table v.doing)
  begun_now = begun_held v.class s.table v.doing (subst (λ (w : Standing). IsHeld w.class w.doing) is h) begun

  -- so its operation is the next one
  pub begun_asks : (t : List ClassEntry) → t ≡ s.table → (op : Op) → op ≡ op_at d (doing_op d (doing_in t x)) → op ≡ op_at v.class (next_op s v.class (running_of s v))
  begun_asks t e op asked =
      asked ∙ ap (λ (y : Doing Outcome). op_at d (doing_op d y)) (kept_within t e) ∙
      ap (λ (w : Standing). op_at w.class (doing_op w.class (doing_in s.table v.doing))) is ∙
      ap (op_at v.class) (sym (begun_now.asks s v.class v.process))

-- and it takes the answer as the step machine says
pub begun_absorbs : (s : Shared) (v : Standing) → IsHeld v.class v.doing → (v.doing ≡ H.Fresh → ⊥) → (free : Option ℕ) (answer : ℕ) →
    absorb s v.class (running_of s v) free answer ≡ after_told v.process (doing_told (doing_in s.table v.doing) answer)
begun_absorbs s v h begun free answer = (begun_held v.class s.table v.doing h begun).absorbs s v.class v.process free answer

given_by : (s : Shared) (d : ℕ) (g : Given) → MadeFits s d (made_by d g) → GivenFits s d g
given_by s d G.Nothing h = tt
given_by s d (G.Line place value) h = h
given_by s d (G.Child slot script ring start) h = record { fits = h }

module _ (s : Shared) (v : Standing) (f : StandingFits s v) where
  pub stands_can : CanStep s v.class v.process
  stands_can = record { class = f.fits.class; known = λ i k e. (f.fits.known i k e).class }

  pub stands_asked : (request : Asked) → plan s v.class v.process ≡ Ask (request_of v.process request) → AskedFits s v.class request
  stands_asked request e = asked_fits s v.class (running_of s v) request f.fits e

  -- at the first step of its next instruction
  module _ (fresh : v.doing ≡ H.Fresh) (free : Option ℕ) (answer : ℕ) where
    pub fresh_absorb : absorb s v.class (running_of s v) free answer ≡ plan_absorbed s v.class v.process free answer (plan s v.class v.process)
    fresh_absorb = ap (λ (x : Held). doing_absorbed s v.class v.process free answer (doing_in s.table x)) fresh

    pub begin_absorb : (script start : ℕ) → plan s v.class v.process ≡ Begin (new_process v.class script v.process.ring start) →
        absorb s v.class (running_of s v) free answer ≡ begin_in v.process (new_process v.class script v.process.ring start) free
    begin_absorb script start e = fresh_absorb ∙ ap (λ (x : Plan). plan_absorbed s v.class v.process free answer x) e

  module _ (good : IsSound s) where
    pub stands_low : v.process.place < 256
    stands_low =
        let few = program_length f.fits.place.script.program (good.shared.script v.process.script f.fits.place.script f.fits.place.there).program in
        omega (arith, f.fits.place.inside, few)

    -- what a step made of it fits, and what the step gave beside
    module _ (free : Option ℕ) (answer : ℕ) (after : Standing) (given : Answered) (a : Absorbs s v after (absorb s v.class (running_of s v) free answer) given) where
      pub stands_after : StandingFits s after
      stands_after = record {
        fits = subst (λ (c : ℕ). Fits s c (running_of s after)) (sym a.class)
            (subst (Fits s v.class) (sym a.running) (fits_after s good v.class (running_of s v) free answer f.fits));
      }

      pub stands_given : GivenFits s v.class given.made
      stands_given = given_by s v.class given.made (subst (MadeFits s v.class) (sym a.made) (made_fits s good v.class (running_of s v) free answer f.fits))

    -- the operation of its next step
    pub stands_op : OpFits s v.class (next_op s v.class (running_of s v))
    stands_op = op_fits s good v.class (running_of s v) f.fits

    module _ (op : Op) (e : op ≡ op_at v.class (next_op s v.class (running_of s v))) where
      pub stands_lawful : OpIsLawful s v.class op
      stands_lawful = subst (OpIsLawful s v.class) (sym e) (op_lawful s good v.class (running_of s v) f.fits)

      pub stands_within : IsWithin (classes s) op
      stands_within = subst (IsWithin (classes s)) (sym e) (op_within_layout s good v.class (running_of s v) f.fits)

    -- so it steps, by the answer to that operation
    pub stands_step : {W : Type 0} (related : W → Op → ℕ → W → Type 0) (free : Option ℕ) (words words' : W) (op : Op) (answer : ℕ) (after : Standing) (given : Answered) →
        op ≡ op_at v.class (next_op s v.class (running_of s v)) → related words op answer words' →
        Absorbs s v after (absorb s v.class (running_of s v) free answer) given → StandingSteps related s v free words after words' given
    stands_step related free words words' op answer after given asks performed a = record {
      answer = answer;
      fits = stands_op;
      lawful = subst (OpIsLawful s v.class) asks (stands_lawful op asks);
      performed = subst (λ (o : Op). related words o answer words') asks performed;
      absorbed = a;
      given_fits = stands_given free answer after given a;
    }
