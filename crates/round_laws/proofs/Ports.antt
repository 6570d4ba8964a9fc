-- The steps through a port, by the log of the port's own number.
use Rattle.std.proofs.Common.{◌≡◌, ℕ, ◌<◌, List, [], ◌∷◌, ◌++◌, Option, Some, None, refl, sym, ap, ◌∙◌, subst}
use Rattle.words_layout.specs.declared.op.Op.{Op}
use Rattle.words_layout.specs.declared.op.Op.TheVariants.{Nothing, Load, Store, Add}
use Rattle.words_layout.specs.Words.{WordOp}
use Rattle.words_layout.specs.Named.{op_at}
use Rattle.class_model.specs.Config.{Shared}
use Rattle.machine.specs.Processing.{Processing}
use Rattle.machine.specs.Banks.{vp_in}
use Rattle.shared_words.specs.declared.view.Entry.{Entry}
use Rattle.shared_words.specs.declared.view.View.{View}
use Rattle.shared_words.specs.Views.{held_at, own, listed, own_entries, made, entered, gains, HasOwn}
use Rattle.shared_words.specs.Ports.{Port, PortGains}
use Rattle.shared_words.proofs.Orders.{get_set}
use Rattle.shared_words.proofs.Owns.{first_put, gains_own}
use Rattle.round_laws.specs.Turns.{TurnsBy}
use Rattle.round_laws.specs.Logs.{logged, Logs}
use Rattle.round_laws.proofs.Idle.{StepsAt, op_of}

entered_log : (v : View) (op : Op) (n : ℕ) → HasOwn v → own_entries (entered v op n) ≡ own_entries v ++ made v op n ∷ []
entered_log v op n h =
    let es : List Entry = own_entries v ++ made v op n ∷ [] in
    let same : own (entered v op n) ≡ own v = first_put v.held es in
    ap (λ (q : ℕ). listed (held_at (entered v op n) q)) same ∙ ap listed (get_set v.held (own v) (Some es) None (subst (λ (k : ℕ). own v < k) (sym h.four) h.below))

gains_log : (v : View) (op : Op) (n : ℕ) → HasOwn v → own_entries (gains v op n) ≡ logged v.round (own_entries v) op n
gains_log v Nothing n h = refl
gains_log v (Load a) n h = entered_log v (Load a) n h
gains_log v (Store a x) n h = entered_log v (Store a x) n h
gains_log v (Add a x) n h = entered_log v (Add a x) n h

gains_round : (v : View) (op : Op) (n : ℕ) → (gains v op n).round ≡ v.round
gains_round v Nothing n = refl
gains_round v (Load a) n = refl
gains_round v (Store a x) n = refl
gains_round v (Add a x) n = refl

-- one step through a port
pub record Logged (s : Shared) (v v' : Processing) (o : Option WordOp) (w w' : Port) (effect : Option ℕ) : Type 0 where
  pub step : StepsAt (Logs w.view.round) s v o (own_entries w.view) v' (own_entries w'.view) effect
  pub own : HasOwn w'.view
  pub round : w'.view.round ≡ w.view.round

step_logs : (s : Shared) (v v' : Processing) (o : Option WordOp) (w w' : Port) (effect : Option ℕ) → StepsAt PortGains s v o w v' w' effect → HasOwn w.view → Logged s v v' o w w' effect
step_logs s v v' None w w' effect h own = record {
  step = record { processing = h.processing; words_are = ap (λ (p : Port). own_entries p.view) h.words_are; no_effect = h.no_effect };
  own = subst (λ (p : Port). HasOwn p.view) (sym h.words_are) own;
  round = ap (λ (p : Port). p.view.round) h.words_are;
}
step_logs s v v' (Some name) w w' effect h has = record {
  step = record {
    answer = h.answer;
    in_limits = h.in_limits;
    performed = (ap (λ (p : Port). own_entries p.view) h.performed.0 ∙ gains_log w.view (op_at v.class name) h.answer has, h.performed.1);
    lawful = h.lawful;
    absorbed = h.absorbed;
  };
  own = subst (λ (p : Port). HasOwn p.view) (sym h.performed.0) (gains_own w.view (op_at v.class name) h.answer has);
  round = ap (λ (p : Port). p.view.round) h.performed.0 ∙ gains_round w.view (op_at v.class name) h.answer;
}

-- all steps through a port
pub port_logs : (s : Shared) (cs : List ℕ) (b b' : List Processing) (w w' : Port) → TurnsBy PortGains s cs b w b' w' → HasOwn w.view → TurnsBy (Logs w.view.round) s cs b (own_entries w.view) b' (own_entries w'.view)
port_logs s [] b b' w w' t own = (t.0, ap (λ (p : Port). own_entries p.view) t.1)
port_logs s (c ∷ cs) b b' w w' t own =
    let l : Logged s (vp_in b c) t.2.after (op_of s (vp_in b c)) w t.1 t.2.effect = step_logs s (vp_in b c) t.2.after (op_of s (vp_in b c)) w t.1 t.2.effect t.2.step own in
    let rest = port_logs s cs t.0 b' t.1 w' t.3 l.own in (
      t.0,
      own_entries t.1.view,
      record { after = t.2.after; effect = t.2.effect; step = l.step; bank_is = t.2.bank_is },
      subst (λ (r : ℕ). TurnsBy (Logs r) s cs t.0 (own_entries t.1.view) b' (own_entries w'.view)) l.round rest,
    )
