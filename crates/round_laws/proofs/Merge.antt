-- The steps of all processors in one round are one list of events.
use Rattle.std.proofs.Common.{◌≡◌, ◌≢◌, ℕ, zero, suc, ◌<◌, ◌≤◌, ◌==◌, Bool, List, [], ◌∷◌, ◌++◌, length, get_or, set, refl, sym, ap, ◌∙◌, subst, length-append, append-nil, append_assoc, if◌then◌else◌, eq-eqb, ne_eqb, arith}
use Rattle.std.proofs.Math.ListN.{length-set}
use Rattle.std.proofs.lemmas.List.{get_or-set_other}
use native.Mathlib.Decide.{ℕ_discrete}
use Rattle.words_layout.specs.declared.op.Event.{Event}
use Rattle.words_layout.specs.Ops.{list_after}
use Rattle.class_model.specs.Config.{Shared}
use Rattle.machine.specs.Processing.{Processing}
use Rattle.machine.specs.Banks.{bank_at, vp_in}
use Rattle.shared_words.specs.declared.view.Entry.{Entry}
use Rattle.shared_words.specs.Order.{Line, entry, mark, IsSound, after, entries_of}
use Rattle.round_laws.specs.Turns.{TurnsBy}
use Rattle.round_laws.specs.Logs.{Logs, classes_of}
use Rattle.round_laws.proofs.Idle.{events_at, Leads, Kind, idle, busy, kind, op_of, turn_event, leads_none, leads_on, leads_then, Advanced, advance, grows, set_set, get_set}

classes_same : (p : ℕ) (cs : List ℕ) (es : List Event) → classes_of p (events_at p cs ++ es) ≡ cs ++ classes_of p es
classes_same p [] es = refl
classes_same p (c ∷ cs) es =
    let P : Bool → Type 0 = λ x. (if x then c ∷ classes_of p (events_at p cs ++ es) else classes_of p (events_at p cs ++ es)) ≡ (c ∷ cs) ++ classes_of p es in
    subst P (sym (eq-eqb p p refl)) (ap (λ (xs : List ℕ). c ∷ xs) (classes_same p cs es))

classes_else : (p q : ℕ) (cs : List ℕ) (es : List Event) → q ≢ p → classes_of p (events_at q cs ++ es) ≡ classes_of p es
classes_else p q [] es n = refl
classes_else p q (c ∷ cs) es n =
    let P : Bool → Type 0 = λ x. (if x then c ∷ classes_of p (events_at q cs ++ es) else classes_of p (events_at q cs ++ es)) ≡ classes_of p es in
    subst P (sym (ne_eqb q p n)) (classes_else p q cs es n)

no_more : (pre more : List Entry) → pre ++ more ≡ pre → more ≡ []
no_more pre [] h = refl
no_more pre (e ∷ more) h = let l = ap length h in absurd (omega (arith, length-append pre (e ∷ more)))

-- steps that log nothing
idle_run : (round : ℕ) (s : Shared) (p : ℕ) (cs : List ℕ) (b b' : List Processing) (pre post : List Entry) → TurnsBy (Logs round) s cs b pre b' post → post ≡ pre → (banks : List (List Processing)) (ws : List ℕ) → bank_at banks p ≡ b → p < length banks
    → Leads (events_at p cs) record { words = ws; banks = banks; shared = s } record { words = ws; banks = set banks p b'; shared = s }
idle_run round s p [] b b' pre post t same banks ws at inside =
    let e : set banks p b' ≡ banks = ap (λ (x : List Processing). set banks p x) (t.0 ∙ sym at) ∙ set_own banks p in
    subst (λ (x : List (List Processing)). Leads [] record { words = ws; banks = banks; shared = s } record { words = ws; banks = x; shared = s }) (sym e) (leads_none record { words = ws; banks = banks; shared = s })
  where
    set_own : (l : List (List Processing)) (i : ℕ) → set l i (get_or l i []) ≡ l
    set_own [] i = refl
    set_own (y ∷ ys) zero = refl
    set_own (y ∷ ys) (suc i) = ap (λ zs. y ∷ zs) (set_own ys i)
idle_run round s p (c ∷ cs) b b' pre post t same banks ws at inside =
    let k : Kind round s (vp_in b c) (op_of s (vp_in b c)) pre t.2.after t.1 t.2.effect = kind round s (vp_in b c) t.2.after pre t.1 t.2.effect t.2.step in
    let again : TurnsBy (Logs round) s cs t.0 pre b' post → Leads (events_at p cs) record { words = ws; banks = set banks p t.0; shared = s } record { words = ws; banks = set banks p b'; shared = s } =
    λ r. subst (λ (x : List (List Processing)). Leads (events_at p cs) record { words = ws; banks = set banks p t.0; shared = s } record { words = ws; banks = x; shared = s }) (set_set banks p t.0 b')
    (idle_run round s p cs t.0 b' pre post r same (set banks p t.0) ws (get_set banks p t.0 inside) (subst (λ (n : ℕ). p < n) (sym (length-set banks p t.0)) inside)) in
    let g = grows round s cs t.0 b' t.1 post t.3 in
    elim k [
      | idle e step ↦ leads_on record { processor = p; class = c } (events_at p cs) record { words = ws; banks = banks; shared = s } record { words = ws; banks = set banks p t.0; shared = s } record { words = ws; banks = set banks p b'; shared = s } t.2.effect
          (turn_event s banks p c b t.0 t.2.after t.2.effect ws ws at t.2.bank_is (step ws)) (again (subst (λ (x : List Entry). TurnsBy (Logs round) s cs t.0 x b' post) e t.3))
      | busy f e at' step ↦ absurd (longer f e)
    ]
  where
    longer : (f : Entry) → t.1 ≡ pre ++ f ∷ [] → ⊥
    longer f e =
        let g = grows round s cs t.0 b' t.1 post t.3 in
        let l = ap length (sym same ∙ (g.1 ∙ ap (λ (xs : List Entry). xs ++ g.0) e)) in
        omega (arith, length-append (pre ++ f ∷ []) g.0, length-append pre (f ∷ []))

-- what a processor has yet to do in this round: its steps, whose log is its entries among these lines
pub record Chain (round : ℕ) (s : Shared) (p : ℕ) (lines : List Line) (b : List Processing) (cs : List ℕ) (b' : List Processing) : Type 0 where
  pub pre : List Entry
  pub post : List Entry
  pub turns : TurnsBy (Logs round) s cs b pre b' post
  pub log : post ≡ pre ++ entries_of p lines

-- events that run the machine to the ends of all chains, with the steps of each
pub record Merged (s : Shared) (banks : List (List Processing)) (ws ws' : List ℕ) (n : ℕ) (css : ℕ → List ℕ) (ends : ℕ → List Processing) : Type 0 where
  pub events : List Event
  pub left : List (List Processing)
  pub run : Leads events record { words = ws; banks = banks; shared = s } record { words = ws'; banks = left; shared = s }
  pub width : length left ≡ length banks
  pub ends_are : (p : ℕ) → p < n → bank_at left p ≡ ends p
  pub classes : (p : ℕ) → p < n → classes_of p events ≡ css p
  pub others : (p : ℕ) → n ≤ p → (bank_at left p ≡ bank_at banks p) × (classes_of p events ≡ [])

at_other : (banks : List (List Processing)) (q p : ℕ) (x : List Processing) → p ≢ q → bank_at (set banks q x) p ≡ bank_at banks p
at_other banks q p x n = get_or-set_other banks q p x [] n

chain_at : (round : ℕ) (s : Shared) (p : ℕ) (lines : List Line) (b c : List Processing) (cs : List ℕ) (b' : List Processing) → b ≡ c → Chain round s p lines b cs b' → Chain round s p lines c cs b'
chain_at round s p lines b c cs b' e k = subst (λ (x : List Processing). Chain round s p lines x cs b') e k

-- no line is left: what the first n processors have yet to do is nothing
idles : (round : ℕ) (s : Shared) (n : ℕ) (banks : List (List Processing)) (ws : List ℕ) (css : ℕ → List ℕ) (ends : ℕ → List Processing) → n ≤ length banks
    → ((p : ℕ) → p < n → Chain round s p [] (bank_at banks p) (css p) (ends p)) → Merged s banks ws ws n css ends
idles round s zero banks ws css ends room chains = record {
  events = [];
  left = banks;
  run = leads_none record { words = ws; banks = banks; shared = s };
  width = refl;
  ends_are = λ p low. absurd (omega arith);
  classes = λ p low. absurd (omega arith);
  others = λ p high. (refl, refl);
}
idles round s (suc n) banks ws css ends room chains =
    let mine = chains n (omega arith) in
    let inside : n < length banks = omega arith in
    let banks1 : List (List Processing) = set banks n (ends n) in
    let m = idles round s n banks1 ws css ends (subst (λ (k : ℕ). n ≤ k) (sym (length-set banks n (ends n))) (omega arith))
    (λ p low. chain_at round s p [] (bank_at banks p) (bank_at banks1 p) (css p) (ends p) (sym (at_other banks n p (ends n) (λ e. omega arith))) (chains p (omega arith))) in
    let here = m.others n (omega arith) in
    record {
      events = events_at n (css n) ++ m.events;
      left = m.left;
      run = leads_then (events_at n (css n)) m.events record { words = ws; banks = banks; shared = s } record { words = ws; banks = banks1; shared = s } record { words = ws; banks = m.left; shared = s }
          (idle_run round s n (css n) (bank_at banks n) (ends n) mine.pre mine.post mine.turns (mine.log ∙ append-nil mine.pre) banks ws refl inside) m.run;
      width = m.width ∙ length-set banks n (ends n);
      ends_are = λ p low. ends_at m here inside p low (ℕ_discrete p n);
      classes = λ p low. classes_at m here p low (ℕ_discrete p n);
      others = λ p high. let o = m.others p (omega arith) in (o.0 ∙ at_other banks n p (ends n) (λ e. omega arith), classes_else p n (css n) m.events (λ e. omega arith) ∙ o.1);
    }
  where
    ends_at : (m : Merged s (set banks n (ends n)) ws ws n css ends) → (bank_at m.left n ≡ bank_at (set banks n (ends n)) n) × (classes_of n m.events ≡ []) → n < length banks → (p : ℕ) → p < suc n → Dec (p ≡ n) → bank_at m.left p ≡ ends p
    ends_at m here inside p low (yes e) = subst (λ (x : ℕ). bank_at m.left x ≡ ends x) (sym e) (here.0 ∙ get_set banks n (ends n) inside)
    ends_at m here inside p low (no d) = m.ends_are p (omega arith)

    classes_at : (m : Merged s (set banks n (ends n)) ws ws n css ends) → (bank_at m.left n ≡ bank_at (set banks n (ends n)) n) × (classes_of n m.events ≡ []) → (p : ℕ) → p < suc n → Dec (p ≡ n) → classes_of p (events_at n (css n) ++ m.events) ≡ css p
    classes_at m here p low (yes e) = subst (λ (x : ℕ). classes_of x (events_at n (css n) ++ m.events) ≡ css x) (sym e) (classes_same n (css n) m.events ∙ (ap (λ (xs : List ℕ). css n ++ xs) here.1 ∙ append-nil (css n)))
    classes_at m here p low (no d) = classes_else p n (css n) m.events (λ e. d (sym e)) ∙ m.classes p (omega arith)

-- the lines of one round: entries alone, of numbers below n
abbrev pub OneRound : ℕ → List Line → Type 0
OneRound n [] = Unit {0}
OneRound n (entry q e ∷ lines) = (q < n) × OneRound n lines
OneRound n (mark ∷ lines) = ⊥

-- the classes with those of one processor replaced
abbrev replaced : ℕ → List ℕ → (ℕ → List ℕ) → ℕ → List ℕ
replaced q left css p = if p == q then left else css p

replaced_here : (q : ℕ) (left : List ℕ) (css : ℕ → List ℕ) (p : ℕ) → p ≡ q → replaced q left css p ≡ left
replaced_here q left css p e = rw (eq-eqb p q e)

replaced_else : (q : ℕ) (left : List ℕ) (css : ℕ → List ℕ) (p : ℕ) → p ≢ q → replaced q left css p ≡ css p
replaced_else q left css p n = rw (ne_eqb p q n)

entries_here : (q : ℕ) (e : Entry) (lines : List Line) → entries_of q (entry q e ∷ lines) ≡ e ∷ entries_of q lines
entries_here q e lines = rw (eq-eqb q q refl)

entries_there : (p q : ℕ) (e : Entry) (lines : List Line) → q ≢ p → entries_of p (entry q e ∷ lines) ≡ entries_of p lines
entries_there p q e lines n = rw (ne_eqb q p n)

-- what is left of the chain of the processor that advanced
chain_on : (round : ℕ) (s : Shared) (q : ℕ) (e : Entry) (lines : List Line) (b : List Processing) (cs : List ℕ) (b' : List Processing) (k : Chain round s q (entry q e ∷ lines) b cs b') (a : Advanced round s q cs b k.pre e b' k.post)
    → Chain round s q lines a.bank a.left b'
chain_on round s q e lines b cs b' k a = record {
  pre = k.pre ++ e ∷ [];
  post = k.post;
  turns = a.rest;
  log = k.log ∙ (ap (λ (xs : List Entry). k.pre ++ xs) (entries_here q e lines) ∙ sym (append_assoc k.pre (e ∷ []) (entries_of q lines)));
}

-- the chain of another processor
chain_stays : (round : ℕ) (s : Shared) (p q : ℕ) (e : Entry) (lines : List Line) (b : List Processing) (cs : List ℕ) (b' : List Processing) → q ≢ p → Chain round s p (entry q e ∷ lines) b cs b' → Chain round s p lines b cs b'
chain_stays round s p q e lines b cs b' n k = record { pre = k.pre; post = k.post; turns = k.turns; log = k.log ∙ ap (λ (xs : List Entry). k.pre ++ xs) (entries_there p q e lines n) }

module _ (round : ℕ) (s : Shared) (n q : ℕ) (e : Entry) (lines : List Line) (banks : List (List Processing)) (css : ℕ → List ℕ) (ends : ℕ → List Processing)
    (chains : (p : ℕ) → p < n → Chain round s p (entry q e ∷ lines) (bank_at banks p) (css p) (ends p)) (low : q < n) (inside : q < length banks)
    (a : Advanced round s q (css q) (bank_at banks q) (chains q low).pre e (ends q) (chains q low).post) where
  chains_on : (p : ℕ) → p < n → Dec (p ≡ q) → Chain round s p lines (bank_at (set banks q a.bank) p) (replaced q a.left css p) (ends p)
  chains_on p below (yes same) =
      let P : ℕ → Type 0 = λ x. Chain round s x lines (bank_at (set banks q a.bank) x) (replaced q a.left css x) (ends x) in
      let k : Chain round s q lines a.bank a.left (ends q) = chain_on round s q e lines (bank_at banks q) (css q) (ends q) (chains q low) a in
      let k1 : Chain round s q lines (bank_at (set banks q a.bank) q) a.left (ends q) = chain_at round s q lines a.bank (bank_at (set banks q a.bank) q) a.left (ends q) (sym (get_set banks q a.bank inside)) k in
      let k2 : P q = subst (λ (cs : List ℕ). Chain round s q lines (bank_at (set banks q a.bank) q) cs (ends q)) (sym (replaced_here q a.left css q refl)) k1 in
      subst P (sym same) k2
  chains_on p below (no other) =
      let k : Chain round s p lines (bank_at banks p) (css p) (ends p) = chain_stays round s p q e lines (bank_at banks p) (css p) (ends p) (λ s. other (sym s)) (chains p below) in
      let k1 : Chain round s p lines (bank_at (set banks q a.bank) p) (css p) (ends p) = chain_at round s p lines (bank_at banks p) (bank_at (set banks q a.bank) p) (css p) (ends p) (sym (at_other banks q p a.bank other)) k in
      subst (λ (cs : List ℕ). Chain round s p lines (bank_at (set banks q a.bank) p) cs (ends p)) (sym (replaced_else q a.left css p other)) k1

  classes_on : (ws ws' : List ℕ) (m : Merged s (set banks q a.bank) ws ws' n (replaced q a.left css) ends) (p : ℕ) → p < n → Dec (p ≡ q) → classes_of p (events_at q a.done ++ m.events) ≡ css p
  classes_on ws ws' m p below (yes same) =
      let P : ℕ → Type 0 = λ x. classes_of x (events_at q a.done ++ m.events) ≡ css x in
      let here : P q = classes_same q a.done m.events ∙ (ap (λ (xs : List ℕ). a.done ++ xs) (m.classes q low ∙ replaced_here q a.left css q refl) ∙ sym a.classes) in
      subst P (sym same) here
  classes_on ws ws' m p below (no other) = classes_else p q a.done m.events (λ s. other (sym s)) ∙ (m.classes p below ∙ replaced_else q a.left css p other)

-- the steps of all processors in one round are one list of events, in the order of the lines
pub merge : (round : ℕ) (s : Shared) (n : ℕ) (lines : List Line) (banks : List (List Processing)) (ws : List ℕ) (css : ℕ → List ℕ) (ends : ℕ → List Processing) → n ≤ length banks → OneRound n lines → IsSound ws round lines
    → ((p : ℕ) → p < n → Chain round s p lines (bank_at banks p) (css p) (ends p)) → Merged s banks ws (after ws lines) n css ends
merge round s n [] banks ws css ends room one sound chains = idles round s n banks ws css ends room chains
merge round s n (mark ∷ lines) banks ws css ends room one sound chains = absurd one
merge round s n (entry q e ∷ lines) banks ws css ends room one sound chains =
    let low : q < n = one.0 in
    let inside : q < length banks = omega arith in
    let mine = chains q low in
    let a = advance round s q (css q) (bank_at banks q) (ends q) mine.pre (entries_of q lines) mine.post e mine.turns (mine.log ∙ ap (λ (xs : List Entry). mine.pre ++ xs) (entries_here q e lines)) in
    let banks1 : List (List Processing) = set banks q a.bank in
    let ws1 : List ℕ = list_after ws e.op in
    let m = merge round s n lines banks1 ws1 (replaced q a.left css) ends (subst (λ (k : ℕ). n ≤ k) (sym (length-set banks q a.bank)) room) one.1 sound.2
    (λ p below. chains_on round s n q e lines banks css ends chains low inside a p below (ℕ_discrete p q)) in
    record {
      events = events_at q a.done ++ m.events;
      left = m.left;
      run = leads_then (events_at q a.done) m.events record { words = ws; banks = banks; shared = s } record { words = ws1; banks = banks1; shared = s } record { words = after ws1 lines; banks = m.left; shared = s }
          (a.run banks ws refl inside sound.1) m.run;
      width = m.width ∙ length-set banks q a.bank;
      ends_are = m.ends_are;
      classes = λ p below. classes_on round s n q e lines banks css ends chains low inside a ws1 (after ws1 lines) m p below (ℕ_discrete p q);
      others = λ p high. let o = m.others p high in (o.0 ∙ at_other banks q p a.bank (λ s. omega arith), classes_else p q a.done m.events (λ s. omega arith) ∙ o.1);
    }
