-- A round of a team, by the list of each number.
use Rattle.std.proofs.lemmas.List.Elements.{All-nil, All-cons, All-append, All-get_or, All-map}
use Rattle.std.proofs.Common.{All, ◌≡◌, ℕ, zero, suc, ◌+◌, ◌*◌, ◌<◌, ◌≤◌, true, false, List, [], ◌∷◌, ◌++◌, map, length, set, refl, sym, ap, ◌∙◌, subst, length-append, add-one, arith}
use Rattle.std.proofs.Math.ListN.{length-set}
use Rattle.std.specs.Prelude.{Option, Some, None}
use Rattle.words_layout.specs.declared.op.Op.{Op}
use Rattle.words_layout.specs.declared.op.Op.TheVariants.{Nothing, Load, Store, Add}
use Rattle.class_model.specs.Config.{Shared, classes}
use Rattle.machine.specs.Processing.{Processing}
use Rattle.words_layout.specs.Words.{WordOp}
use Rattle.words_layout.specs.Named.{op_at}
use Rattle.machine.specs.Banks.{bank_at, vp_in}
use Rattle.round_laws.proofs.Idle.{StepsAt, op_of}
use Rattle.round_laws.specs.Turns.{classes_from, TurnsBy}
use Rattle.round_laws.specs.Live.{any_live}
use Rattle.shared_words.specs.declared.view.Entry.{Entry}
use Rattle.shared_words.specs.declared.view.View.{View}
use Rattle.shared_words.specs.declared.seats.Seats.{Seats}
use Rattle.shared_words.specs.Views.{held_at, own, listed, own_entries, with_held, made, entered, gains, later, HasOwn}
use Rattle.shared_words.specs.Ports.{Opened, Port, PortGains, Whole, first_view, seat_view, port_at, with_port, whole_of, Ordered}
use Rattle.atomic_table.specs.Seated.{TableId}
use Rattle.machine.specs.Steps.{IsBank, IsMachine}
use Rattle.machine.specs.Plain.{IsLaid}
use Rattle.std.proofs.lemmas.List.{length-map}
use Rattle.shared_words.proofs.Orders.{get_set, set_own}
use Rattle.shared_words.proofs.Owns.{first_put}
use Rattle.round_laws.specs.Logs.{Logs}
use Rattle.round_laws.specs.Rounds.{Plan, classes_in, list_at, Turned, Past, Ran, HasCycle, RoundsAreRuns}
use Rattle.round_laws.proofs.Ports.{port_logs}
use Rattle.round_laws.proofs.Idle.{set_set}
use Rattle.processors.specs.Turns.{ProcessorState}
use Rattle.processors.specs.declared.team.Team.{Team}
use Rattle.processors.specs.Teams.{IfThere, Follows, Quantum, QuantumAt, QuantaTaken, count_with, team_count, dealt, gathered}
use Rattle.processors.specs.Rounds.{HasTaken, TeamHasTaken}
use Rattle.processors.specs.Lists.{there, team_list, bank_of, number_of, plan_of, banks_of, numbers_of, machine_with, CycleFits}
use Rattle.processors.proofs.Gathering.{lists_of_four}

-- a port whose own list alone has changed
abbrev pub own_now : Port → List Entry → Port
own_now w es = record { words = w.words; view = with_held w.view (own w.view) (Some es) }

-- what stands at the view's own number is its own list
abbrev pub Filled : View → Type 0
Filled v = held_at v (own v) ≡ Some (own_entries v)

-- how a port goes on: it is the port with another list of its own
pub record Goes (w w' : Port) : Type 0 where
  pub is : w' ≡ own_now w (own_entries w'.view)
  pub filled : Filled w'.view
  pub has : HasOwn w'.view
  pub own_is : own w'.view ≡ own w.view

goes_here : (w : Port) → HasOwn w.view → Filled w.view → Goes w w
goes_here w h f = record {
  is = ap (λ (row : List (Option (List Entry))). record { words = w.words; view = record { round = w.view.round; held = row } })
      (sym (set_own w.view.held (own w.view) None) ∙ ap (λ (x : Option (List Entry)). set w.view.held (own w.view) x) f);
  filled = f;
  has = h;
  own_is = refl;
}

goes_entered : (w : Port) (op : Op) (n : ℕ) → HasOwn w.view → Goes w record { words = w.words; view = entered w.view op n }
goes_entered w op n h =
    let es : List Entry = own_entries w.view ++ made w.view op n ∷ [] in
    let v : View = entered w.view op n in
    let same : own v ≡ own w.view = first_put w.view.held es in
    let at : held_at v (own w.view) ≡ Some es = get_set w.view.held (own w.view) (Some es) None (subst (λ (k : ℕ). own w.view < k) (sym h.four) h.below) in
    let at' : held_at v (own v) ≡ Some es = ap (λ (q : ℕ). held_at v q) same ∙ at in
    let mine : own_entries v ≡ es = ap listed at' in
    record {
      is = ap (λ (xs : List Entry). own_now w xs) (sym mine);
      filled = at' ∙ ap (λ (xs : List Entry). Some xs) (sym mine);
      has = record { four = length-set w.view.held (own w.view) (Some es) ∙ h.four; below = subst (λ (k : ℕ). k < 4) (sym same) h.below };
      own_is = same;
    }

goes_gain : (w : Port) (op : Op) (n : ℕ) → HasOwn w.view → Filled w.view → Goes w record { words = w.words; view = gains w.view op n }
goes_gain w Nothing n h f = goes_here w h f
goes_gain w (Load a) n h f = goes_entered w (Load a) n h
goes_gain w (Store a x) n h f = goes_entered w (Store a x) n h
goes_gain w (Add a x) n h f = goes_entered w (Add a x) n h

goes_on : (w u w' : Port) → Goes w u → Goes u w' → Goes w w'
goes_on w u w' s t =
    let es : List Entry = own_entries w'.view in
    let fs : List Entry = own_entries u.view in
    let at : own_now u es ≡ record { words = u.words; view = with_held u.view (own w.view) (Some es) } = ap (λ (q : ℕ). record { words = u.words; view = with_held u.view q (Some es) }) s.own_is in
    let put : record { words = u.words; view = with_held u.view (own w.view) (Some es) } ≡ record { words = w.words; view = with_held (own_now w fs).view (own w.view) (Some es) } =
    ap (λ (x : Port). record { words = x.words; view = with_held x.view (own w.view) (Some es) }) s.is in
    let twice : record { words = w.words; view = with_held (own_now w fs).view (own w.view) (Some es) } ≡ own_now w es =
    ap (λ (row : List (Option (List Entry))). record { words = w.words; view = record { round = w.view.round; held = row } }) (set_set w.view.held (own w.view) (Some fs) (Some es)) in
    record {
      is = t.is ∙ (at ∙ (put ∙ twice));
      filled = t.filled;
      has = t.has;
      own_is = t.own_is ∙ s.own_is;
    }

turn_goes : (sh : Shared) (v v' : Processing) (w w' : Port) (o : Option WordOp) (effect : Option ℕ) → StepsAt PortGains sh v o w v' w' effect → HasOwn w.view → Filled w.view → Goes w w'
turn_goes sh v v' w w' None effect t h f = subst (Goes w) (sym t.words_are) (goes_here w h f)
turn_goes sh v v' w w' (Some name) effect t h f = subst (Goes w) (sym t.performed.0) (goes_gain w (op_at v.class name) t.answer h f)

turns_go : (sh : Shared) (cs : List ℕ) (b b' : List Processing) (w w' : Port) → TurnsBy PortGains sh cs b w b' w' → HasOwn w.view → Filled w.view → Goes w w'
turns_go sh [] b b' w w' t h f = subst (Goes w) (sym t.1) (goes_here w h f)
turns_go sh (c ∷ cs) b b' w w' t h f =
    let step = t.2.step in
    let g = turn_goes sh (vp_in b c) t.2.after w t.1 (op_of sh (vp_in b c)) t.2.effect step h f in
    goes_on w t.1 w' g (turns_go sh cs t.0 b' t.1 w' t.3 g.has g.filled)

-- one processor in one round: its turns by its list, and its number stays
pub record One (sh : Shared) (plan : Plan) (r : ℕ) (p : ProcessorState) (es : List Entry) (p' : ProcessorState) (es' : List Entry) : Type 0 where
  pub turns : TurnsBy (Logs r) sh (classes_in plan r) p.bank es p'.bank es'
  pub number : p'.number ≡ p.number

-- the processors that are there, and the lists of the others
abbrev pub StepsAll : Shared → Plan → ℕ → List ProcessorState → List (List Entry) → List ProcessorState → List (List Entry) → Type 0
StepsAll sh plan r [] ls [] ls' = ls' ≡ ls
StepsAll sh plan r [] ls (p' ∷ ps') ls' = ⊥
StepsAll sh plan r (p ∷ ps) [] ps' ls' = ⊥
StepsAll sh plan r (p ∷ ps) (l ∷ ls) [] ls' = ⊥
StepsAll sh plan r (p ∷ ps) (l ∷ ls) (p' ∷ ps') [] = ⊥
StepsAll sh plan r (p ∷ ps) (l ∷ ls) (p' ∷ ps') (l' ∷ ls') = One sh plan r p l p' l' × StepsAll sh plan r ps ls ps' ls'

-- a processor after its quantum through a port
pub record Ends (sh : Shared) (plan : Plan) (r : ℕ) (w : Port) (p p' : ProcessorState) (w' : Port) : Type 0 where
  pub one : One sh plan r p (own_entries w.view) p' (own_entries w'.view)
  pub is : w' ≡ own_now w (own_entries w'.view)

-- a processor that follows the plan, and has taken its quantum in each of so many rounds
pub record OnTime (plan : Plan) (r : ℕ) (p : ProcessorState) : Type 0 where
  pub plan_is : plan_of p ≡ plan
  pub steps : p.taken ≡ r * p.quantum

ends_of : (sh : Shared) (plan : Plan) (r : ℕ) (w : Port) (p p' : ProcessorState) (w' : Port) → w.view.round ≡ r → OnTime plan r p → HasOwn w.view → Filled w.view → Quantum sh p w p' w' → Ends sh plan r w p p' w'
ends_of sh plan r w p p' w' round time h f q =
    let t = port_logs sh (classes_from p.cycle p.taken p.quantum) p.bank p'.bank w w' q.takes.turns h in
    let u = subst (λ (k : ℕ). TurnsBy (Logs k) sh (classes_from p.cycle p.taken p.quantum) p.bank (own_entries w.view) p'.bank (own_entries w'.view)) round t in
    let v : TurnsBy (Logs r) sh (classes_in (plan_of p) r) p.bank (own_entries w.view) p'.bank (own_entries w'.view) =
    subst (λ (k : ℕ). TurnsBy (Logs r) sh (classes_from p.cycle k p.quantum) p.bank (own_entries w.view) p'.bank (own_entries w'.view)) time.steps u in
    record {
      one = record {
        turns = subst (λ (x : Plan). TurnsBy (Logs r) sh (classes_in x r) p.bank (own_entries w.view) p'.bank (own_entries w'.view)) time.plan_is v;
        number = q.takes.number;
      };
      is = (turns_go sh (classes_from p.cycle p.taken p.quantum) p.bank p'.bank w w' q.takes.turns h f).is;
    }

-- the lists that the ports hold together
abbrev pub lists_held : Port → Option Port → Option Port → Option Port → List (List Entry)
lists_held f t u x = map listed (with_port (with_port (with_port f.view t) u) x).held

module _ (sh : Shared) (plan : Plan) (words : Opened) (table : TableId) (round : ℕ) (a b c d : List Entry) where
  abbrev w : Whole
  w = record { table = table; round = round; lists = a ∷ b ∷ c ∷ d ∷ [] }

  abbrev first_port : ℕ → Port
  first_port n = record { words = words; view = first_view n w }

  abbrev seat_port : ℕ → Port
  seat_port n = record { words = words; view = seat_view n w }

  one_step : (p p' : ProcessorState) (f : Port) → Ends sh plan round (first_port 1) p p' f → StepsAll sh plan round (p ∷ []) (a ∷ b ∷ c ∷ d ∷ []) (p' ∷ []) (lists_held f None None None)
  one_step p p' f e = subst (λ (y : Port). StepsAll sh plan round (p ∷ []) (a ∷ b ∷ c ∷ d ∷ []) (p' ∷ []) (lists_held y None None None)) (sym e.is) (e.one, refl)

  two_steps : (p p' q q' : ProcessorState) (f t : Port) → Ends sh plan round (first_port 2) p p' f → Ends sh plan round (seat_port 1) q q' t
      → StepsAll sh plan round (p ∷ q ∷ []) (a ∷ b ∷ c ∷ d ∷ []) (p' ∷ q' ∷ []) (lists_held f (Some t) None None)
  two_steps p p' q q' f t e g =
      subst (λ (y : Port). StepsAll sh plan round (p ∷ q ∷ []) (a ∷ b ∷ c ∷ d ∷ []) (p' ∷ q' ∷ []) (lists_held y (Some t) None None)) (sym e.is)
      (subst (λ (y : Port). StepsAll sh plan round (p ∷ q ∷ []) (a ∷ b ∷ c ∷ d ∷ []) (p' ∷ q' ∷ []) (lists_held (own_now (first_port 2) (own_entries f.view)) (Some y) None None)) (sym g.is) (e.one, (g.one, refl)))

  three_steps : (p p' q q' s s' : ProcessorState) (f t u : Port) → Ends sh plan round (first_port 3) p p' f → Ends sh plan round (seat_port 1) q q' t → Ends sh plan round (seat_port 2) s s' u
      → StepsAll sh plan round (p ∷ q ∷ s ∷ []) (a ∷ b ∷ c ∷ d ∷ []) (p' ∷ q' ∷ s' ∷ []) (lists_held f (Some t) (Some u) None)
  three_steps p p' q q' s s' f t u e g h =
      let P : Port → Port → Port → Type 0 = λ x y z. StepsAll sh plan round (p ∷ q ∷ s ∷ []) (a ∷ b ∷ c ∷ d ∷ []) (p' ∷ q' ∷ s' ∷ []) (lists_held x (Some y) (Some z) None) in
      let f' : Port = own_now (first_port 3) (own_entries f.view) in
      let t' : Port = own_now (seat_port 1) (own_entries t.view) in
      subst (λ (x : Port). P x t u) (sym e.is) (subst (λ (x : Port). P f' x u) (sym g.is) (subst (λ (x : Port). P f' t' x) (sym h.is) (e.one, (g.one, (h.one, refl)))))

  four_steps : (p p' q q' s s' k k' : ProcessorState) (f t u x : Port) → Ends sh plan round (first_port 4) p p' f → Ends sh plan round (seat_port 1) q q' t → Ends sh plan round (seat_port 2) s s' u → Ends sh plan round (seat_port 3) k k' x
      → StepsAll sh plan round (p ∷ q ∷ s ∷ k ∷ []) (a ∷ b ∷ c ∷ d ∷ []) (p' ∷ q' ∷ s' ∷ k' ∷ []) (lists_held f (Some t) (Some u) (Some x))
  four_steps p p' q q' s s' k k' f t u x e g h j =
      let P : Port → Port → Port → Port → Type 0 = λ w x y z. StepsAll sh plan round (p ∷ q ∷ s ∷ k ∷ []) (a ∷ b ∷ c ∷ d ∷ []) (p' ∷ q' ∷ s' ∷ k' ∷ []) (lists_held w (Some x) (Some y) (Some z)) in
      let f' : Port = own_now (first_port 4) (own_entries f.view) in
      let t' : Port = own_now (seat_port 1) (own_entries t.view) in
      let u' : Port = own_now (seat_port 2) (own_entries u.view) in
      subst (λ (y : Port). P y t u x) (sym e.is) (subst (λ (y : Port). P f' y u x) (sym g.is) (subst (λ (y : Port). P f' t' y x) (sym h.is) (subst (λ (y : Port). P f' t' u' y) (sym j.is) (e.one, (g.one, (h.one, (j.one, refl)))))))

  abbrev list_of : ProcessorState → Option ProcessorState → Option ProcessorState → Option ProcessorState → List ProcessorState
  list_of p s2 s3 s4 = p ∷ there s2 ++ there s3 ++ there s4

  all_steps : (p p' : ProcessorState) (s2 s3 s4 s2' s3' s4' : Option ProcessorState) (f : Port) (t u x : Option Port) → Follows s2 s3 → Follows s3 s4
      → OnTime plan round p → IfThere s2 (OnTime plan round) → IfThere s3 (OnTime plan round) → IfThere s4 (OnTime plan round)
      → Quantum sh p (first_port (count_with s2 (count_with s3 (count_with s4 1)))) p' f
      → QuantumAt sh s2 (port_at words 1 (count_with s2 (count_with s3 (count_with s4 1))) w) s2' t
      → QuantumAt sh s3 (port_at words 2 (count_with s2 (count_with s3 (count_with s4 1))) w) s3' u
      → QuantumAt sh s4 (port_at words 3 (count_with s2 (count_with s3 (count_with s4 1))) w) s4' x
      → StepsAll sh plan round (list_of p s2 s3 s4) (a ∷ b ∷ c ∷ d ∷ []) (list_of p' s2' s3' s4') (lists_held f t u x)
  all_steps p p' None None None s2' s3' s4' f t u x n m time time2 time3 time4 h h2 h3 h4 =
      let e = ends_of sh plan round (first_port 1) p p' f refl time record { four = refl; below = omega arith } refl h in
      rw (h2.0, h2.1, h3.0, h3.1, h4.0, h4.1) (one_step p p' f e)
  all_steps p p' None None (Some r) s2' s3' s4' f t u x n m time time2 time3 time4 h h2 h3 h4 = absurd m
  all_steps p p' None (Some q) s4 s2' s3' s4' f t u x n m time time2 time3 time4 h h2 h3 h4 = absurd n
  all_steps p p' (Some q) None None s2' s3' s4' f t u x n m time time2 time3 time4 h h2 h3 h4 =
      let e = ends_of sh plan round (first_port 2) p p' f refl time record { four = refl; below = omega arith } refl h in
      let e2 = ends_of sh plan round (seat_port 1) q h2.0 h2.1 refl time2 record { four = refl; below = omega arith } refl h2.4 in
      rw (h2.2, h2.3, h3.0, h3.1, h4.0, h4.1) (two_steps p p' q h2.0 f h2.1 e e2)
  all_steps p p' (Some q) None (Some r) s2' s3' s4' f t u x n m time time2 time3 time4 h h2 h3 h4 = absurd m
  all_steps p p' (Some q) (Some s) None s2' s3' s4' f t u x n m time time2 time3 time4 h h2 h3 h4 =
      let e = ends_of sh plan round (first_port 3) p p' f refl time record { four = refl; below = omega arith } refl h in
      let e2 = ends_of sh plan round (seat_port 1) q h2.0 h2.1 refl time2 record { four = refl; below = omega arith } refl h2.4 in
      let e3 = ends_of sh plan round (seat_port 2) s h3.0 h3.1 refl time3 record { four = refl; below = omega arith } refl h3.4 in
      rw (h2.2, h2.3, h3.2, h3.3, h4.0, h4.1) (three_steps p p' q h2.0 s h3.0 f h2.1 h3.1 e e2 e3)
  all_steps p p' (Some q) (Some s) (Some k) s2' s3' s4' f t u x n m time time2 time3 time4 h h2 h3 h4 =
      let e = ends_of sh plan round (first_port 4) p p' f refl time record { four = refl; below = omega arith } refl h in
      let e2 = ends_of sh plan round (seat_port 1) q h2.0 h2.1 refl time2 record { four = refl; below = omega arith } refl h2.4 in
      let e3 = ends_of sh plan round (seat_port 2) s h3.0 h3.1 refl time3 record { four = refl; below = omega arith } refl h3.4 in
      let e4 = ends_of sh plan round (seat_port 3) k h4.0 h4.1 refl time4 record { four = refl; below = omega arith } refl h4.4 in
      rw (h2.2, h2.3, h3.2, h3.3, h4.2, h4.3) (four_steps p p' q h2.0 s h3.0 k h4.0 f h2.1 h3.1 h4.1 e e2 e3 e4)

-- what follows for each number
steps_turn : (sh : Shared) (plan : Plan) (r : ℕ) (ps : List ProcessorState) (ls : List (List Entry)) (ps' : List ProcessorState) (ls' : List (List Entry)) → StepsAll sh plan r ps ls ps' ls' → (q : ℕ) → q < length (map bank_of ps)
    → TurnsBy (Logs r) sh (classes_in plan r) (bank_at (map bank_of ps) q) (list_at ls q) (bank_at (map bank_of ps') q) (list_at ls' q)
steps_turn sh plan r [] ls [] ls' h q low = absurd (omega arith)
steps_turn sh plan r [] ls (p' ∷ ps') ls' h q low = absurd h
steps_turn sh plan r (p ∷ ps) [] ps' ls' h q low = absurd h
steps_turn sh plan r (p ∷ ps) (l ∷ ls) [] ls' h q low = absurd h
steps_turn sh plan r (p ∷ ps) (l ∷ ls) (p' ∷ ps') [] h q low = absurd h
steps_turn sh plan r (p ∷ ps) (l ∷ ls) (p' ∷ ps') (l' ∷ ls') h zero low = h.0.turns
steps_turn sh plan r (p ∷ ps) (l ∷ ls) (p' ∷ ps') (l' ∷ ls') h (suc q) low = steps_turn sh plan r ps ls ps' ls' h.1 q (omega arith)

steps_other : (sh : Shared) (plan : Plan) (r : ℕ) (ps : List ProcessorState) (ls : List (List Entry)) (ps' : List ProcessorState) (ls' : List (List Entry)) → StepsAll sh plan r ps ls ps' ls' → (q : ℕ) → length (map bank_of ps) ≤ q → list_at ls' q ≡ list_at ls q
steps_other sh plan r [] ls [] ls' h q high = ap (λ (x : List (List Entry)). list_at x q) h
steps_other sh plan r [] ls (p' ∷ ps') ls' h q high = absurd h
steps_other sh plan r (p ∷ ps) [] ps' ls' h q high = absurd h
steps_other sh plan r (p ∷ ps) (l ∷ ls) [] ls' h q high = absurd h
steps_other sh plan r (p ∷ ps) (l ∷ ls) (p' ∷ ps') [] h q high = absurd h
steps_other sh plan r (p ∷ ps) (l ∷ ls) (p' ∷ ps') (l' ∷ ls') h zero high = absurd (omega arith)
steps_other sh plan r (p ∷ ps) (l ∷ ls) (p' ∷ ps') (l' ∷ ls') h (suc q) high = steps_other sh plan r ps ls ps' ls' h.1 q (omega arith)

steps_numbers : (sh : Shared) (plan : Plan) (r : ℕ) (ps : List ProcessorState) (ls : List (List Entry)) (ps' : List ProcessorState) (ls' : List (List Entry)) → StepsAll sh plan r ps ls ps' ls' → map number_of ps' ≡ map number_of ps
steps_numbers sh plan r [] ls [] ls' h = refl
steps_numbers sh plan r [] ls (p' ∷ ps') ls' h = absurd h
steps_numbers sh plan r (p ∷ ps) [] ps' ls' h = absurd h
steps_numbers sh plan r (p ∷ ps) (l ∷ ls) [] ls' h = absurd h
steps_numbers sh plan r (p ∷ ps) (l ∷ ls) (p' ∷ ps') [] h = absurd h
steps_numbers sh plan r (p ∷ ps) (l ∷ ls) (p' ∷ ps') (l' ∷ ls') h = let rest = steps_numbers sh plan r ps ls ps' ls' h.1 in λ i. h.0.number i ∷ rest i

steps_width : (sh : Shared) (plan : Plan) (r : ℕ) (ps : List ProcessorState) (ls : List (List Entry)) (ps' : List ProcessorState) (ls' : List (List Entry)) → StepsAll sh plan r ps ls ps' ls' → length (map bank_of ps') ≡ length (map bank_of ps)
steps_width sh plan r [] ls [] ls' h = refl
steps_width sh plan r [] ls (p' ∷ ps') ls' h = absurd h
steps_width sh plan r (p ∷ ps) [] ps' ls' h = absurd h
steps_width sh plan r (p ∷ ps) (l ∷ ls) [] ls' h = absurd h
steps_width sh plan r (p ∷ ps) (l ∷ ls) (p' ∷ ps') [] h = absurd h
steps_width sh plan r (p ∷ ps) (l ∷ ls) (p' ∷ ps') (l' ∷ ls') h = ap suc (steps_width sh plan r ps ls ps' ls' h.1)

steps_lists : (sh : Shared) (plan : Plan) (r : ℕ) (ps : List ProcessorState) (ls : List (List Entry)) (ps' : List ProcessorState) (ls' : List (List Entry)) → StepsAll sh plan r ps ls ps' ls' → length ls' ≡ length ls
steps_lists sh plan r [] ls [] ls' h = ap length h
steps_lists sh plan r [] ls (p' ∷ ps') ls' h = absurd h
steps_lists sh plan r (p ∷ ps) [] ps' ls' h = absurd h
steps_lists sh plan r (p ∷ ps) (l ∷ ls) [] ls' h = absurd h
steps_lists sh plan r (p ∷ ps) (l ∷ ls) (p' ∷ ps') [] h = absurd h
steps_lists sh plan r (p ∷ ps) (l ∷ ls) (p' ∷ ps') (l' ∷ ls') h = ap suc (steps_lists sh plan r ps ls ps' ls' h.1)

-- each processor of a team, if it is there, is on time
pub record TeamOnTime (plan : Plan) (r : ℕ) (team : Team) : Type 0 where
  pub first : OnTime plan r team.first
  pub second : IfThere team.second (OnTime plan r)
  pub third : IfThere team.third (OnTime plan r)
  pub fourth : IfThere team.fourth (OnTime plan r)

-- the lists after a round
abbrev pub lists_after : Seats → List (List Entry)
lists_after seats = map listed (gathered seats).held

pub team_steps : (sh : Shared) (plan : Plan) (words : Opened) (w : Whole) (team team' : Team) (seats' : Seats) → length w.lists ≡ 4 → Follows team.second team.third → Follows team.third team.fourth → TeamOnTime plan w.round team
    → QuantaTaken sh team (dealt words (team_count team) w) team' seats' → StepsAll sh plan w.round (team_list team) w.lists (team_list team') (lists_after seats')
team_steps sh plan words w team team' seats' four n m time taken =
    lists_of_four (λ lists. QuantaTaken sh team (dealt words (team_count team) record { table = w.table; round = w.round; lists = lists }) team' seats' → StepsAll sh plan w.round (team_list team) lists (team_list team') (lists_after seats'))
    (λ a b c d t. all_steps sh plan words w.table w.round a b c d team.first team'.first team.second team.third team.fourth team'.second team'.third team'.fourth seats'.first seats'.second seats'.third seats'.fourth n m
    time.first time.second time.third time.fourth t.first t.second t.third t.fourth)
    w.lists four taken

-- a round more
pub past_more : (sh : Shared) (plan : Plan) (k r n : ℕ) (b b1 b2 : List (List Processing)) (l l1 l2 : List (List Entry)) → Past sh plan k r n b l b1 l1 → Turned sh plan k (r + n) b1 l1 b2 l2 → Past sh plan k r (suc n) b l b2 l2
past_more sh plan k r zero b b1 b2 l l1 l2 p t =
    let e : r + 0 ≡ r = omega arith in
    let t0 : Turned sh plan k r b1 l1 b2 l2 = subst (λ (i : ℕ). Turned sh plan k i b1 l1 b2 l2) e t in
    (b2, l2, subst (λ (x : List (List Processing)). Turned sh plan k r x l b2 l2) p.0 (subst (λ (x : List (List Entry)). Turned sh plan k r b1 x b2 l2) p.1 t0), (refl, refl))
past_more sh plan k r (suc n) b b1 b2 l l1 l2 p t =
    let e : r + suc n ≡ (r + 1) + n = omega arith in
    (p.0, p.1, p.2, past_more sh plan k (r + 1) n p.0 b1 b2 p.1 l1 l2 p.3 (subst (λ (i : ℕ). Turned sh plan k i b1 l1 b2 l2) e t))

on_time_if : (sh : Shared) (words : Opened) (plan : Plan) (n : ℕ) (p : Option ProcessorState) → IfThere p (HasTaken sh words plan n) → IfThere p (OnTime plan n)
on_time_if sh words plan n None h = tt
on_time_if sh words plan n (Some p) h = record { plan_is = h.plan_is; steps = h.steps }

on_time : (sh : Shared) (words : Opened) (plan : Plan) (n : ℕ) (team : Team) → TeamHasTaken sh words plan n team → TeamOnTime plan n team
on_time sh words plan n team t = record {
  first = record { plan_is = t.first.plan_is; steps = t.first.steps };
  second = on_time_if sh words plan n team.second t.second;
  third = on_time_if sh words plan n team.third t.third;
  fourth = on_time_if sh words plan n team.fourth t.fourth;
}

-- what a run keeps from one round to the next
pub record Kept (sh : Shared) (plan : Plan) (banks : List (List Processing)) (numbers : List ℕ) (lists : List (List Entry)) (n : ℕ) (team : Team) (ls : List (List Entry)) : Type 0 where
  pub four : length ls ≡ 4
  pub numbers_are : numbers_of team ≡ numbers
  pub width : length (banks_of team) ≡ length banks
  pub past : Past sh plan (length banks) 0 n banks lists (banks_of team) ls

pub keeps : (sh : Shared) (words : Opened) (plan : Plan) (banks : List (List Processing)) (numbers : List ℕ) (lists : List (List Entry)) (n : ℕ) (w w' : Whole) (team team' : Team) (seats' : Seats)
    → TeamHasTaken sh words plan n team → w.round ≡ n → any_live (banks_of team) ≡ true → QuantaTaken sh team (dealt words (team_count team) w) team' seats' → w' ≡ whole_of words.table (later (gathered seats'))
    → Kept sh plan banks numbers lists n team w.lists → Kept sh plan banks numbers lists (n + 1) team' w'.lists
keeps sh words plan banks numbers lists n w w' team team' seats' t round live taken is k =
    let time : TeamOnTime plan w.round team = subst (λ (r : ℕ). TeamOnTime plan r team) (sym round) (on_time sh words plan n team t) in
    let s : StepsAll sh plan w.round (team_list team) w.lists (team_list team') (lists_after seats') = team_steps sh plan words w team team' seats' k.four t.third_follows t.fourth_follows time taken in
    let after : lists_after seats' ≡ w'.lists = ap (λ (x : Whole). x.lists) (sym is) in
    let s' : StepsAll sh plan n (team_list team) w.lists (team_list team') w'.lists =
    subst (λ (r : ℕ). StepsAll sh plan r (team_list team) w.lists (team_list team') w'.lists) round (subst (λ (ls : List (List Entry)). StepsAll sh plan w.round (team_list team) w.lists (team_list team') ls) after s) in
    let width : length (banks_of team') ≡ length (banks_of team) = steps_width sh plan n (team_list team) w.lists (team_list team') w'.lists s' in
    let turned : Turned sh plan (length (banks_of team)) n (banks_of team) w.lists (banks_of team') w'.lists = record {
      live = live;
      width = width;
      turns = steps_turn sh plan n (team_list team) w.lists (team_list team') w'.lists s';
      others = steps_other sh plan n (team_list team) w.lists (team_list team') w'.lists s';
    } in
    let from : n ≡ 0 + n = omega arith in
    let turned' : Turned sh plan (length banks) (0 + n) (banks_of team) w.lists (banks_of team') w'.lists =
    subst (λ (r : ℕ). Turned sh plan (length banks) r (banks_of team) w.lists (banks_of team') w'.lists) from (subst (λ (i : ℕ). Turned sh plan i n (banks_of team) w.lists (banks_of team') w'.lists) k.width turned) in
    record {
      four = steps_lists sh plan n (team_list team) w.lists (team_list team') w'.lists s' ∙ k.four;
      numbers_are = steps_numbers sh plan n (team_list team) w.lists (team_list team') w'.lists s' ∙ k.numbers_are;
      width = width ∙ k.width;
      past = subst (λ (i : ℕ). Past sh plan (length banks) 0 i banks lists (banks_of team') w'.lists) (sym (add-one n)) (past_more sh plan (length banks) 0 n banks (banks_of team) (banks_of team') lists w.lists w'.lists k.past turned');
    }

no_lists : (q : ℕ) → list_at ([] ∷ [] ∷ [] ∷ [] ∷ []) q ≡ []
no_lists zero = refl
no_lists (suc zero) = refl
no_lists (suc (suc zero)) = refl
no_lists (suc (suc (suc zero))) = refl
no_lists (suc (suc (suc (suc q)))) = refl

pub no_lists_kept : (sh : Shared) (plan : Plan) (opened : Whole) (table : TableId) (team : Team) → opened ≡ record { table = table; round = 0; lists = [] ∷ [] ∷ [] ∷ [] ∷ [] } → Kept sh plan (banks_of team) (numbers_of team) opened.lists 0 team opened.lists
no_lists_kept sh plan opened table team fresh = record { four = ap (λ (x : Whole). length x.lists) fresh; numbers_are = refl; width = refl; past = (refl, refl) }

-- ---- the banks of a team are those of a machine

bank_if : (sh : Shared) (words : Opened) (plan : Plan) (n : ℕ) (p : Option ProcessorState) → IfThere p (HasTaken sh words plan n) → All (λ r. IsBank sh r.bank) (there p)
bank_if sh words plan n None t = All-nil (λ (r : ProcessorState). IsBank sh r.bank)
bank_if sh words plan n (Some p) t = All-cons (λ (r : ProcessorState). IsBank sh r.bank) p [] t.bank (All-nil (λ (r : ProcessorState). IsBank sh r.bank))

team_banks : (sh : Shared) (words : Opened) (plan : Plan) (n : ℕ) (team : Team) → TeamHasTaken sh words plan n team → All (λ r. IsBank sh r.bank) (team_list team)
team_banks sh words plan n team t =
    let P : ProcessorState → Type 0 = λ r. IsBank sh r.bank in
    All-cons P team.first ((there team.second ++ there team.third) ++ there team.fourth) t.first.bank
    (All-append P (there team.second ++ there team.third) (there team.fourth) (All-append P (there team.second) (there team.third) (bank_if sh words plan n team.second t.second) (bank_if sh words plan n team.third t.third))
    (bank_if sh words plan n team.fourth t.fourth))

pub each_bank : (sh : Shared) (words : Opened) (plan : Plan) (n : ℕ) (team : Team) → TeamHasTaken sh words plan n team → (q : ℕ) → q < length (banks_of team) → IsBank sh (bank_at (banks_of team) q)
each_bank sh words plan n team t q low = All-get_or (IsBank sh) (banks_of team) q [] low (All-map (IsBank sh) bank_of (team_list team) (team_banks sh words plan n team t))

most_if : (p : Option ProcessorState) → length (there p) ≤ 1
most_if None = omega arith
most_if (Some p) = omega arith

pub banks_count : (team : Team) → (1 ≤ length (banks_of team)) × (length (banks_of team) ≤ 4)
banks_count team =
    let l = length-map (team_list team) bank_of in
    let a = length-append (there team.second ++ there team.third) (there team.fourth) in
    let b = length-append (there team.second) (there team.third) in
    let x = most_if team.second in
    let y = most_if team.third in
    let z = most_if team.fourth in
    (omega arith, omega arith)

pub team_machine : (sh : Shared) (words : Opened) (plan : Plan) (n layout : ℕ) (team : Team) → TeamHasTaken sh words plan n team → layout ≡ classes sh → IsMachine layout (banks_of team) sh
team_machine sh words plan n layout team t is = record { some = (banks_count team).0; most = (banks_count team).1; layout_is = is; each = each_bank sh words plan n team t }

pub team_laid : (sh : Shared) (words : Opened) (plan : Plan) (n : ℕ) (team : Team) → TeamHasTaken sh words plan n team → length words.words ≡ 34869 * classes sh → IsLaid (machine_with words.words team sh)
team_laid sh words plan n team t long = record {
  long = long;
  width = λ q low. (each_bank sh words plan n team t q low).width;
  order = λ q c low below. (each_bank sh words plan n team t q low).order c below;
}

-- the end of a run
pub team_ran : (laws : RoundsAreRuns) (sh : Shared) (words : Opened) (opened : Whole) (plan : Plan) (n bound : ℕ) (team team' : Team) (w : Whole) (ws' : List ℕ) → opened ≡ record { table = words.table; round = 0; lists = [] ∷ [] ∷ [] ∷ [] ∷ [] }
    → TeamHasTaken sh words plan 0 team → CycleFits team.first → length words.words ≡ 34869 * classes sh → Kept sh plan (banks_of team) (numbers_of team) opened.lists n team' w.lists → Ordered words.words ws' w → w.round ≡ n → n ≤ bound
    → (n < bound → any_live (banks_of team') ≡ false) → Ran plan (machine_with words.words team sh) (machine_with ws' team' sh) bound n
team_ran laws sh words opened plan n bound team team' w ws' fresh t cycle long k o round most ends =
    let fits : HasCycle (classes sh) plan.cycle = subst (λ (x : Plan). HasCycle (classes sh) x.cycle) t.first.plan_is (subst (λ (i : ℕ). HasCycle i team.first.cycle) t.first.bank.width cycle) in
    laws plan (machine_with words.words team sh) (machine_with ws' team' sh) bound n (team_laid sh words plan 0 team t long) fits record {
      shared = refl;
      lists = opened.lists;
      fresh = λ q. ap (λ (x : Whole). list_at x.lists q) fresh ∙ no_lists q;
      whole = w;
      past = k.past;
      order = o;
      round = round;
      most = most;
      ends = ends;
    }
