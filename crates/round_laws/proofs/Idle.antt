-- Steps that log nothing are events that leave the words.
use Rattle.std.proofs.Common.{◌≡◌, ℕ, zero, suc, ◌<◌, List, [], ◌∷◌, ◌++◌, length, get_or, set, refl, sym, ap, ◌∙◌, subst, Option, Some, None, MatchOption, length-append, append-nil, append_assoc, arith}
use Rattle.std.proofs.Math.ListN.{length-set}
use Rattle.words_layout.specs.declared.op.Op.{Op}
use Rattle.words_layout.specs.declared.op.Op.TheVariants.{Nothing, Load, Store, Add}
use Rattle.words_layout.specs.declared.op.Event.{Event}
use Rattle.words_layout.specs.Words.{WordOp}
use Rattle.words_layout.specs.Named.{op_at}
use Rattle.words_layout.specs.Ops.{Performed, answer_on, list_after}
use Rattle.class_model.specs.Config.{Shared}
use Rattle.class_model.specs.Process.{ProcName}
use Rattle.machine.specs.Machine.{vp_op}
use Rattle.machine.specs.Processing.{Processing, vp_of}
use Rattle.machine.specs.Banks.{State, bank_at, vp_in}
use Rattle.machine.specs.Steps.{Rests, Performs, StepsBy, EventBy, RunsBy, named}
use Rattle.machine.specs.Plain.{OnWords}
use Rattle.shared_words.specs.declared.view.Entry.{Entry}
use Rattle.round_laws.specs.Turns.{TurnsBy}
use Rattle.round_laws.specs.Logs.{Logs}

-- the events of a processor with these classes
abbrev pub events_at : ℕ → List ℕ → List Event
events_at p [] = []
events_at p (c ∷ cs) = record { processor = p; class = c } ∷ events_at p cs

-- a list of events on words in memory, whatever takes effect
pub record Leads (events : List Event) (m n : State (List ℕ)) : Type 0 where
  pub names : List ProcName
  pub runs : RunsBy OnWords events m n names

-- one step, by the operation that it performs, if any
abbrev pub StepsAt : {W : Type 0} → (W → Op → ℕ → W → Type 0) → Shared → Processing → Option WordOp → W → Processing → W → Option ℕ → Type 0
StepsAt related s v o w v' w' effect = MatchOption o (Rests v w v' w' effect) (λ op. Performs related s v w v' w' effect op)

-- a step either logs nothing and leaves the words, or logs one entry
pub data Kind (round : ℕ) (s : Shared) (v : Processing) (o : Option WordOp) (es : List Entry) (v' : Processing) (es' : List Entry) (effect : Option ℕ) : Type 0 where
  idle : es' ≡ es → ((ws : List ℕ) → StepsAt OnWords s v o ws v' ws effect) → Kind round s v o es v' es' effect
  busy : (e : Entry) → es' ≡ es ++ e ∷ [] → e.round ≡ round → ((ws : List ℕ) → e.answer ≡ answer_on ws e.op → StepsAt OnWords s v o ws v' (list_after ws e.op) effect) → Kind round s v o es v' es' effect

-- the same step on other words, where the operation gives the same answer
on_words : (round : ℕ) (s : Shared) (v v' : Processing) (es es' : List Entry) (effect : Option ℕ) (name : WordOp) (h : Performs (Logs round) s v es v' es' effect name) (op : Op) → op_at v.class name ≡ op
    → (ws : List ℕ) → h.answer ≡ answer_on ws op → Performs OnWords s v ws v' (list_after ws op) effect name
on_words round s v v' es es' effect name h op is ws answers = record {
  answer = h.answer;
  in_limits = h.in_limits;
  performed = subst (λ (x : Op). Performed ws x h.answer (list_after ws op)) (sym is) record { answered = answers; done = refl };
  lawful = h.lawful;
  absorbed = h.absorbed;
}

kind_op : (round : ℕ) (s : Shared) (v v' : Processing) (es es' : List Entry) (effect : Option ℕ) (name : WordOp) (h : Performs (Logs round) s v es v' es' effect name) (op : Op) → op_at v.class name ≡ op
    → Logs round es op h.answer es' → Kind round s v (Some name) es v' es' effect
kind_op round s v v' es es' effect name h Nothing is l = idle l.0 (λ ws. on_words round s v v' es es' effect name h Nothing is ws l.1)
kind_op round s v v' es es' effect name h (Load x) is l = busy record { round = round; op = Load x; answer = h.answer } l.0 refl (λ ws a. on_words round s v v' es es' effect name h (Load x) is ws a)
kind_op round s v v' es es' effect name h (Store x y) is l = busy record { round = round; op = Store x y; answer = h.answer } l.0 refl (λ ws a. on_words round s v v' es es' effect name h (Store x y) is ws a)
kind_op round s v v' es es' effect name h (Add x y) is l = busy record { round = round; op = Add x y; answer = h.answer } l.0 refl (λ ws a. on_words round s v v' es es' effect name h (Add x y) is ws a)

kind_at : (round : ℕ) (s : Shared) (v v' : Processing) (o : Option WordOp) (es es' : List Entry) (effect : Option ℕ) → StepsAt (Logs round) s v o es v' es' effect → Kind round s v o es v' es' effect
kind_at round s v v' None es es' effect h = idle h.words_are (λ ws. record { processing = h.processing; words_are = refl; no_effect = h.no_effect })
kind_at round s v v' (Some name) es es' effect h = kind_op round s v v' es es' effect name h (op_at v.class name) refl h.performed

-- the operation of the step of a virtual processor in memory
abbrev pub op_of : Shared → Processing → Option WordOp
op_of s v = vp_op s v.class (vp_of s v)

pub kind : (round : ℕ) (s : Shared) (v v' : Processing) (es es' : List Entry) (effect : Option ℕ) → StepsBy (Logs round) s v es v' es' effect → Kind round s v (op_of s v) es v' es' effect
kind round s v v' es es' effect h = kind_at round s v v' (op_of s v) es es' effect h

-- a turn of processor p is an event of the machine
pub turn_event : (s : Shared) (banks : List (List Processing)) (p c : ℕ) (b b' : List Processing) (v' : Processing) (effect : Option ℕ) (ws ws' : List ℕ) → bank_at banks p ≡ b → b' ≡ set b c v' → StepsBy OnWords s (vp_in b c) ws v' ws' effect
    → EventBy OnWords record { processor = p; class = c } record { words = ws; banks = banks; shared = s } record { words = ws'; banks = set banks p b'; shared = s } effect
turn_event s banks p c b b' v' effect ws ws' at is step = record {
  after = v';
  step = subst (λ (x : List Processing). StepsBy OnWords s (vp_in x c) ws v' ws' effect) (sym at) step;
  banks = ap (λ (x : List Processing). set banks p x) (is ∙ ap (λ (x : List Processing). set x c v') (sym at));
  shared = refl;
}

-- runs after one another
pub leads_none : (m : State (List ℕ)) → Leads [] m m
leads_none m = record { names = []; runs = (refl, refl) }

pub leads_on : (e : Event) (events : List Event) (m b n : State (List ℕ)) (effect : Option ℕ) → EventBy OnWords e m b effect → Leads events b n → Leads (e ∷ events) m n
leads_on e events m b n effect h l = record { names = named e effect ++ l.names; runs = (b, effect, l.names, h, l.runs, refl) }

pub leads_then : (es fs : List Event) (m b n : State (List ℕ)) → Leads es m b → Leads fs b n → Leads (es ++ fs) m n
leads_then [] fs m b n l k = subst (λ (x : State (List ℕ)). Leads fs x n) l.runs.0 k
leads_then (e ∷ es) fs m b n l k =
    let rest : Leads es l.runs.0 b = record { names = l.runs.2; runs = l.runs.4 } in
    leads_on e (es ++ fs) m l.runs.0 n l.runs.1 l.runs.3 (leads_then es fs l.runs.0 b n rest k)

-- what is left of the steps of a processor after its next entry, and the events up to it
pub record Advanced (round : ℕ) (s : Shared) (p : ℕ) (cs : List ℕ) (b : List Processing) (pre : List Entry) (e : Entry) (b' : List Processing) (post : List Entry) : Type 0 where
  pub done : List ℕ
  pub left : List ℕ
  pub classes : cs ≡ done ++ left
  pub bank : List Processing
  pub rest : TurnsBy (Logs round) s left bank (pre ++ e ∷ []) b' post
  pub run : (banks : List (List Processing)) (ws : List ℕ) → bank_at banks p ≡ b → p < length banks → e.answer ≡ answer_on ws e.op
      → Leads (events_at p done) record { words = ws; banks = banks; shared = s } record { words = list_after ws e.op; banks = set banks p bank; shared = s }

cancel : (pre xs ys : List Entry) → pre ++ xs ≡ pre ++ ys → xs ≡ ys
cancel [] xs ys e = e
cancel (x ∷ pre) xs ys e = let t : pre ++ xs ≡ pre ++ ys = cc in cancel pre xs ys t

pub set_set : {A : Type 0} (l : List A) (i : ℕ) (x y : A) → set (set l i x) i y ≡ set l i y
set_set [] i x y = refl
set_set (z ∷ l) zero x y = refl
set_set (z ∷ l) (suc i) x y = ap (λ zs. z ∷ zs) (set_set l i x y)

pub get_set : (l : List (List Processing)) (i : ℕ) (x : List Processing) → i < length l → get_or (set l i x) i [] ≡ x
get_set [] i x h = absurd (omega arith)
get_set (y ∷ l) zero x h = refl
get_set (y ∷ l) (suc i) x h = get_set l i x (omega arith)

-- the log goes on from what it was
pub grows : (round : ℕ) (s : Shared) (cs : List ℕ) (b b' : List Processing) (pre post : List Entry) → TurnsBy (Logs round) s cs b pre b' post → (more : List Entry) × (post ≡ pre ++ more)
grows round s [] b b' pre post t = ([], t.1 ∙ sym (append-nil pre))
grows round s (c ∷ cs) b b' pre post t =
    let k : Kind round s (vp_in b c) (op_of s (vp_in b c)) pre t.2.after t.1 t.2.effect = kind round s (vp_in b c) t.2.after pre t.1 t.2.effect t.2.step in
    let r = grows round s cs t.0 b' t.1 post t.3 in
    elim k [
      | idle e run ↦ (r.0, r.1 ∙ ap (λ (es : List Entry). es ++ r.0) e)
      | busy f e at run ↦ (f ∷ r.0, r.1 ∙ (ap (λ (es : List Entry). es ++ r.0) e ∙ append_assoc pre (f ∷ []) r.0))
    ]

head_same : (e f : Entry) (xs ys : List Entry) → f ∷ xs ≡ e ∷ ys → f ≡ e
head_same e f xs ys h = cc

next_is : (pre more es post : List Entry) (e f : Entry) → post ≡ (pre ++ f ∷ []) ++ more → post ≡ pre ++ e ∷ es → f ≡ e
next_is pre more es post e f a b = head_same e f more es (cancel pre (f ∷ more) (e ∷ es) (sym (append_assoc pre (f ∷ []) more) ∙ (sym a ∙ b)))

not_longer : (pre es : List Entry) (e : Entry) → pre ≡ pre ++ e ∷ es → ⊥
not_longer pre es e h = let l = ap length h in omega (arith, length-append pre (e ∷ es))

-- an event that leaves the words, and then others
idle_then : (round : ℕ) (s : Shared) (p c : ℕ) (cs : List ℕ) (b m b' : List Processing) (v' : Processing) (effect : Option ℕ) (pre : List Entry) (e : Entry) (post : List Entry) → m ≡ set b c v'
    → ((ws : List ℕ) → StepsBy OnWords s (vp_in b c) ws v' ws effect) → Advanced round s p cs m pre e b' post → Advanced round s p (c ∷ cs) b pre e b' post
idle_then round s p c cs b m b' v' effect pre e post is step a = record {
  done = c ∷ a.done;
  left = a.left;
  classes = ap (λ (xs : List ℕ). c ∷ xs) a.classes;
  bank = a.bank;
  rest = a.rest;
  run = λ banks ws at inside answer. leads_on record { processor = p; class = c } (events_at p a.done) record { words = ws; banks = banks; shared = s } record { words = ws; banks = set banks p m; shared = s }
      record { words = list_after ws e.op; banks = set banks p a.bank; shared = s } effect (turn_event s banks p c b m v' effect ws ws at is (step ws))
      (subst (λ (x : List (List Processing)). Leads (events_at p a.done) record { words = ws; banks = set banks p m; shared = s } record { words = list_after ws e.op; banks = x; shared = s }) (set_set banks p m a.bank)
      (a.run (set banks p m) ws (get_set banks p m inside) (subst (λ (n : ℕ). p < n) (sym (length-set banks p m)) inside) answer));
}

-- the event that performs the entry
busy_here : (round : ℕ) (s : Shared) (p c : ℕ) (cs : List ℕ) (b m b' : List Processing) (v' : Processing) (effect : Option ℕ) (pre : List Entry) (e : Entry) (post : List Entry) → m ≡ set b c v'
    → ((ws : List ℕ) → e.answer ≡ answer_on ws e.op → StepsBy OnWords s (vp_in b c) ws v' (list_after ws e.op) effect) → TurnsBy (Logs round) s cs m (pre ++ e ∷ []) b' post → Advanced round s p (c ∷ cs) b pre e b' post
busy_here round s p c cs b m b' v' effect pre e post is step rest = record {
  done = c ∷ [];
  left = cs;
  classes = refl;
  bank = m;
  rest = rest;
  run = λ banks ws at inside answer.
      let n : State (List ℕ) = record { words = list_after ws e.op; banks = set banks p m; shared = s } in
      leads_on record { processor = p; class = c } [] record { words = ws; banks = banks; shared = s } n n effect (turn_event s banks p c b m v' effect ws (list_after ws e.op) at is (step ws answer)) (leads_none n);
}

-- the next entry of a processor is performed by one of its steps, and those before it leave the words
pub advance : (round : ℕ) (s : Shared) (p : ℕ) (cs : List ℕ) (b b' : List Processing) (pre es post : List Entry) (e : Entry) → TurnsBy (Logs round) s cs b pre b' post → post ≡ pre ++ e ∷ es → Advanced round s p cs b pre e b' post
advance round s p [] b b' pre es post e t is = absurd (not_longer pre es e (sym t.1 ∙ is))
advance round s p (c ∷ cs) b b' pre es post e t is =
    let k : Kind round s (vp_in b c) (op_of s (vp_in b c)) pre t.2.after t.1 t.2.effect = kind round s (vp_in b c) t.2.after pre t.1 t.2.effect t.2.step in
    let again : TurnsBy (Logs round) s cs t.0 pre b' post → Advanced round s p cs t.0 pre e b' post = λ r. advance round s p cs t.0 b' pre es post e r is in
    elim k [
      | idle same step ↦ idle_then round s p c cs b t.0 b' t.2.after t.2.effect pre e post t.2.bank_is step (again (subst (λ (x : List Entry). TurnsBy (Logs round) s cs t.0 x b' post) same t.3))
      | busy f more at step ↦
          let r : TurnsBy (Logs round) s cs t.0 (pre ++ f ∷ []) b' post = subst (λ (x : List Entry). TurnsBy (Logs round) s cs t.0 x b' post) more t.3 in
          let g = grows round s cs t.0 b' (pre ++ f ∷ []) post r in
          let same : f ≡ e = next_is pre g.0 es post e f g.1 is in
          busy_here round s p c cs b t.0 b' t.2.after t.2.effect pre e post t.2.bank_is
          (subst (λ (x : Entry). (ws : List ℕ) → x.answer ≡ answer_on ws x.op → StepsBy OnWords s (vp_in b c) ws t.2.after (list_after ws x.op) t.2.effect) same step)
          (subst (λ (x : Entry). TurnsBy (Logs round) s cs t.0 (pre ++ x ∷ []) b' post) same r)
    ]
