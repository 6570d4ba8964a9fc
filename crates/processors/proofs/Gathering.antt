-- After their quanta the seats hold all numbers again.
use Rattle.std.proofs.Common.{◌≡◌, ℕ, zero, suc, ◌<◌, true, List, [], ◌∷◌, ◌++◌, length, refl, sym, ◌∙◌, subst, nat_lt, arith}
use Rattle.std.specs.Prelude.{Option, Some, None}
use native.Mathlib.Decide.{ℕ_discrete}
use Rattle.words_layout.specs.declared.op.Op.{Op}
use Rattle.words_layout.specs.declared.op.Op.TheVariants.{Nothing, Load, Store, Add}
use Rattle.class_model.specs.Config.{Shared}
use Rattle.machine.specs.Processing.{Processing}
use Rattle.words_layout.specs.Words.{WordOp}
use Rattle.words_layout.specs.Named.{op_at}
use Rattle.machine.specs.Banks.{vp_in}
use Rattle.round_laws.proofs.Idle.{StepsAt, op_of}
use Rattle.shared_words.specs.declared.view.Entry.{Entry}
use Rattle.shared_words.specs.declared.view.View.{View}
use Rattle.shared_words.specs.Views.{held_at, own, own_entries, made, entered, gains, either_held, both, HasOwn, IsWhole}
use Rattle.shared_words.specs.Ports.{Opened, Port, PortGains, Whole, AreOf, first_view, seat_view, port_at, with_port}
use Rattle.atomic_table.specs.Seated.{TableId}
use Rattle.shared_words.proofs.Orders.{get_set, get_set_else}
use Rattle.shared_words.proofs.Owns.{gains_own, both_own}
use Rattle.round_laws.specs.Turns.{classes_from, TurnsBy}
use Rattle.processors.specs.Turns.{ProcessorState, IsReady, Takes}
use Rattle.processors.specs.declared.team.Team.{Team}
use Rattle.processors.specs.Teams.{IfThere, Quantum, QuantumAt, ReadyAt, Follows, AreReady, QuantaTaken, TeamReady, count_with, team_count, dealt, gathered}
use Rattle.shared_words.specs.declared.seats.Seats.{Seats}
use Rattle.shared_words.proofs.Moving.{get_united, either_when_some}

-- the view holds this number
pub record Covers (v : View) (q : ℕ) : Type 0 where
  pub entries : List Entry
  pub at : held_at v q ≡ Some entries

entered_covers_at : (v : View) (op : Op) (n q : ℕ) → HasOwn v → Covers v q → Dec (q ≡ own v) → Covers (entered v op n) q
entered_covers_at v op n q h c (yes e) = record {
  entries = own_entries v ++ made v op n ∷ [];
  at = subst (λ (i : ℕ). held_at (entered v op n) i ≡ Some (own_entries v ++ made v op n ∷ [])) (sym e) (get_set v.held (own v) (Some (own_entries v ++ made v op n ∷ [])) None (subst (λ (k : ℕ). own v < k) (sym h.four) h.below));
}
entered_covers_at v op n q h c (no d) = record { entries = c.entries; at = get_set_else v.held (own v) q (Some (own_entries v ++ made v op n ∷ [])) None d ∙ c.at }

entered_covers : (v : View) (op : Op) (n q : ℕ) → HasOwn v → Covers v q → Covers (entered v op n) q
entered_covers v op n q h c = entered_covers_at v op n q h c (ℕ_discrete q (own v))

gains_covers : (v : View) (op : Op) (n q : ℕ) → HasOwn v → Covers v q → Covers (gains v op n) q
gains_covers v Nothing n q h c = c
gains_covers v (Load a) n q h c = entered_covers v (Load a) n q h c
gains_covers v (Store a x) n q h c = entered_covers v (Store a x) n q h c
gains_covers v (Add a x) n q h c = entered_covers v (Add a x) n q h c

gains_round : (v : View) (op : Op) (n : ℕ) → (gains v op n).round ≡ v.round
gains_round v Nothing n = refl
gains_round v (Load a) n = refl
gains_round v (Store a x) n = refl
gains_round v (Add a x) n = refl

-- what a port keeps while its processor takes steps
pub record Stays (w w' : Port) : Type 0 where
  pub words : w'.words ≡ w.words
  pub round : w'.view.round ≡ w.view.round
  pub own : HasOwn w.view → HasOwn w'.view
  pub covers : HasOwn w.view → (q : ℕ) → Covers w.view q → Covers w'.view q

stays_here : (w : Port) → Stays w w
stays_here w = record { words = refl; round = refl; own = λ h. h; covers = λ h q c. c }

stays_on : (w u w' : Port) → Stays w u → Stays u w' → Stays w w'
stays_on w u w' s t = record { words = t.words ∙ s.words; round = t.round ∙ s.round; own = λ h. t.own (s.own h); covers = λ h q c. t.covers (s.own h) q (s.covers h q c) }

stays_gain : (w : Port) (op : Op) (n : ℕ) → Stays w record { words = w.words; view = gains w.view op n }
stays_gain w op n = record { words = refl; round = gains_round w.view op n; own = gains_own w.view op n; covers = λ h q c. gains_covers w.view op n q h c }

turn_stays : (sh : Shared) (v v' : Processing) (w w' : Port) (o : Option WordOp) (effect : Option ℕ) → StepsAt PortGains sh v o w v' w' effect → Stays w w'
turn_stays sh v v' w w' None effect h = subst (Stays w) (sym h.words_are) (stays_here w)
turn_stays sh v v' w w' (Some name) effect h = subst (Stays w) (sym h.performed.0) (stays_gain w (op_at v.class name) h.answer)

turns_stay : (sh : Shared) (cs : List ℕ) (b b' : List Processing) (w w' : Port) → TurnsBy PortGains sh cs b w b' w' → Stays w w'
turns_stay sh [] b b' w w' t = subst (Stays w) (sym t.1) (stays_here w)
turns_stay sh (c ∷ cs) b b' w w' t =
    let step = t.2.step in
    stays_on w t.1 w' (turn_stays sh (vp_in b c) t.2.after w t.1 (op_of sh (vp_in b c)) t.2.effect step) (turns_stay sh cs t.0 b' t.1 w' t.3)

pub takes_stay : (sh : Shared) (n : ℕ) (p p' : ProcessorState) (w w' : Port) → Takes PortGains sh n p w p' w' → Stays w w'
takes_stay sh n p p' w w' t = turns_stay sh (classes_from p.cycle p.taken n) p.bank p'.bank w w' t.turns

both_left : (v w : View) (q : ℕ) → Covers v q → Covers (both v w) q
both_left v w q c = record { entries = c.entries; at = get_united v.held w.held q ∙ either_when_some (held_at v q) (held_at w q) c.entries c.at }

some_of_two : (x y : Option (List Entry)) (es : List Entry) → y ≡ Some es → (fs : List Entry) × (either_held x y ≡ Some fs)
some_of_two None y es e = (es, e)
some_of_two (Some fs) y es e = (fs, refl)

both_right : (v w : View) (q : ℕ) → Covers w q → Covers (both v w) q
both_right v w q c = let t = some_of_two (held_at v q) (held_at w q) c.entries c.at in record { entries = t.0; at = get_united v.held w.held q ∙ t.1 }

whole_by : (v : View) → HasOwn v → Covers v 0 → Covers v 1 → Covers v 2 → Covers v 3 → IsWhole v
whole_by v h a b c d = record { four = h.four; each = each }
  where
    each : (q : ℕ) → q < 4 → (es : List Entry) × (held_at v q ≡ Some es)
    each zero low = (a.entries, a.at)
    each (suc zero) low = (b.entries, b.at)
    each (suc (suc zero)) low = (c.entries, c.at)
    each (suc (suc (suc zero))) low = (d.entries, d.at)
    each (suc (suc (suc (suc q)))) low = absurd (omega arith)

-- what `gather` asks for
pub record Gatherable (words : Opened) (seats : Seats) : Type 0 where
  pub first : seats.first.words ≡ words
  pub second : AreOf words seats.second
  pub third : AreOf words seats.third
  pub fourth : AreOf words seats.fourth
  pub all : IsWhole (gathered seats)

-- the port of a processor after its quantum
pub record Slot (words : Opened) (v : View) (port' : Option Port) : Type 0 where
  pub port : Port
  pub is : port' ≡ Some port
  pub words_are : port.words ≡ words
  pub own : HasOwn v → HasOwn port.view
  pub covers : HasOwn v → (q : ℕ) → Covers v q → Covers port.view q

slot_after : (sh : Shared) (words : Opened) (p : ProcessorState) (v : View) (p' : Option ProcessorState) (port' : Option Port) → QuantumAt sh (Some p) (Some record { words = words; view = v }) p' port' → Slot words v port'
slot_after sh words p v p' port' h =
    let s = takes_stay sh p.quantum p h.0 record { words = words; view = v } h.1 h.4.takes in
    record { port = h.1; is = h.3; words_are = s.words; own = s.own; covers = s.covers }

first_slot : (sh : Shared) (words : Opened) (p p' : ProcessorState) (v : View) (f : Port) → Quantum sh p record { words = words; view = v } p' f → Slot words v (Some f)
first_slot sh words p p' v f h =
    let s = takes_stay sh p.quantum p p' record { words = words; view = v } f h.takes in
    record { port = f; is = refl; words_are = s.words; own = s.own; covers = s.covers }

-- the seats of one, two, three and four processors
module _ (sh : Shared) (words : Opened) (table : TableId) (round : ℕ) (a b c d : List Entry) where
  abbrev w : Whole
  w = record { table = table; round = round; lists = a ∷ b ∷ c ∷ d ∷ [] }

  one_seat : (f : Port) → Slot words (first_view 1 w) (Some f) → Gatherable words record { first = f; second = None; third = None; fourth = None }
  one_seat f s =
      let h : HasOwn (first_view 1 w) = record { four = refl; below = omega arith } in
      let e : s.port ≡ f = cc in
      subst (λ (x : Port). Gatherable words record { first = x; second = None; third = None; fourth = None }) e record {
        first = s.words_are;
        second = tt;
        third = tt;
        fourth = tt;
        all = whole_by s.port.view (s.own h) (s.covers h 0 record { entries = a; at = refl }) (s.covers h 1 record { entries = b; at = refl }) (s.covers h 2 record { entries = c; at = refl }) (s.covers h 3 record { entries = d; at = refl });
      }

  two_seats : (f t : Port) → Slot words (first_view 2 w) (Some f) → Slot words (seat_view 1 w) (Some t) → Gatherable words record { first = f; second = Some t; third = None; fourth = None }
  two_seats f t s1 s2 =
      let h1 : HasOwn (first_view 2 w) = record { four = refl; below = omega arith } in
      let h2 : HasOwn (seat_view 1 w) = record { four = refl; below = omega arith } in
      let e1 : s1.port ≡ f = cc in
      let e2 : s2.port ≡ t = cc in
      subst (λ (x : Port). Gatherable words record { first = x; second = Some t; third = None; fourth = None }) e1
      (subst (λ (y : Port). Gatherable words record { first = s1.port; second = Some y; third = None; fourth = None }) e2 record {
        first = s1.words_are;
        second = s2.words_are;
        third = tt;
        fourth = tt;
        all = whole_by (both s1.port.view s2.port.view) (both_own s1.port.view s2.port.view (s1.own h1) (s2.own h2))
            (both_left s1.port.view s2.port.view 0 (s1.covers h1 0 record { entries = a; at = refl }))
            (both_right s1.port.view s2.port.view 1 (s2.covers h2 1 record { entries = b; at = refl }))
            (both_left s1.port.view s2.port.view 2 (s1.covers h1 2 record { entries = c; at = refl }))
            (both_left s1.port.view s2.port.view 3 (s1.covers h1 3 record { entries = d; at = refl }));
      })

  three_seats : (f t u : Port) → Slot words (first_view 3 w) (Some f) → Slot words (seat_view 1 w) (Some t) → Slot words (seat_view 2 w) (Some u) → Gatherable words record { first = f; second = Some t; third = Some u; fourth = None }
  three_seats f t u s1 s2 s3 =
      let h1 : HasOwn (first_view 3 w) = record { four = refl; below = omega arith } in
      let h2 : HasOwn (seat_view 1 w) = record { four = refl; below = omega arith } in
      let h3 : HasOwn (seat_view 2 w) = record { four = refl; below = omega arith } in
      let v1 : View = s1.port.view in
      let v2 : View = s2.port.view in
      let v3 : View = s3.port.view in
      let e1 : s1.port ≡ f = cc in
      let e2 : s2.port ≡ t = cc in
      let e3 : s3.port ≡ u = cc in
      subst (λ (x : Port). Gatherable words record { first = x; second = Some t; third = Some u; fourth = None }) e1
      (subst (λ (y : Port). Gatherable words record { first = s1.port; second = Some y; third = Some u; fourth = None }) e2
      (subst (λ (z : Port). Gatherable words record { first = s1.port; second = Some s2.port; third = Some z; fourth = None }) e3 record {
        first = s1.words_are;
        second = s2.words_are;
        third = s3.words_are;
        fourth = tt;
        all = whole_by (both (both v1 v2) v3) (both_own (both v1 v2) v3 (both_own v1 v2 (s1.own h1) (s2.own h2)) (s3.own h3))
            (both_left (both v1 v2) v3 0 (both_left v1 v2 0 (s1.covers h1 0 record { entries = a; at = refl })))
            (both_left (both v1 v2) v3 1 (both_right v1 v2 1 (s2.covers h2 1 record { entries = b; at = refl })))
            (both_right (both v1 v2) v3 2 (s3.covers h3 2 record { entries = c; at = refl }))
            (both_left (both v1 v2) v3 3 (both_left v1 v2 3 (s1.covers h1 3 record { entries = d; at = refl })));
      }))

  four_seats : (f t u x : Port) → Slot words (first_view 4 w) (Some f) → Slot words (seat_view 1 w) (Some t) → Slot words (seat_view 2 w) (Some u) → Slot words (seat_view 3 w) (Some x)
      → Gatherable words record { first = f; second = Some t; third = Some u; fourth = Some x }
  four_seats f t u x s1 s2 s3 s4 =
      let h1 : HasOwn (first_view 4 w) = record { four = refl; below = omega arith } in
      let h2 : HasOwn (seat_view 1 w) = record { four = refl; below = omega arith } in
      let h3 : HasOwn (seat_view 2 w) = record { four = refl; below = omega arith } in
      let h4 : HasOwn (seat_view 3 w) = record { four = refl; below = omega arith } in
      let v1 : View = s1.port.view in
      let v2 : View = s2.port.view in
      let v3 : View = s3.port.view in
      let v4 : View = s4.port.view in
      let e1 : s1.port ≡ f = cc in
      let e2 : s2.port ≡ t = cc in
      let e3 : s3.port ≡ u = cc in
      let e4 : s4.port ≡ x = cc in
      subst (λ (k : Port). Gatherable words record { first = k; second = Some t; third = Some u; fourth = Some x }) e1
      (subst (λ (k : Port). Gatherable words record { first = s1.port; second = Some k; third = Some u; fourth = Some x }) e2
      (subst (λ (k : Port). Gatherable words record { first = s1.port; second = Some s2.port; third = Some k; fourth = Some x }) e3
      (subst (λ (k : Port). Gatherable words record { first = s1.port; second = Some s2.port; third = Some s3.port; fourth = Some k }) e4 record {
        first = s1.words_are;
        second = s2.words_are;
        third = s3.words_are;
        fourth = s4.words_are;
        all = whole_by (both (both (both v1 v2) v3) v4) (both_own (both (both v1 v2) v3) v4 (both_own (both v1 v2) v3 (both_own v1 v2 (s1.own h1) (s2.own h2)) (s3.own h3)) (s4.own h4))
            (both_left (both (both v1 v2) v3) v4 0 (both_left (both v1 v2) v3 0 (both_left v1 v2 0 (s1.covers h1 0 record { entries = a; at = refl }))))
            (both_left (both (both v1 v2) v3) v4 1 (both_left (both v1 v2) v3 1 (both_right v1 v2 1 (s2.covers h2 1 record { entries = b; at = refl }))))
            (both_left (both (both v1 v2) v3) v4 2 (both_right (both v1 v2) v3 2 (s3.covers h3 2 record { entries = c; at = refl })))
            (both_right (both (both v1 v2) v3) v4 3 (s4.covers h4 3 record { entries = d; at = refl }));
      })))

  -- an absent processor leaves its place empty
  absent : (p' : Option ProcessorState) (t : Option Port) → QuantumAt sh None None p' t → t ≡ None
  absent p' t h = h.1

  seats_gather : (s2 s3 s4 s2' s3' s4' : Option ProcessorState) (f : Port) (t u x : Option Port) → Follows s2 s3 → Follows s3 s4
      → Slot words (first_view (count_with s2 (count_with s3 (count_with s4 1))) w) (Some f)
      → QuantumAt sh s2 (port_at words 1 (count_with s2 (count_with s3 (count_with s4 1))) w) s2' t
      → QuantumAt sh s3 (port_at words 2 (count_with s2 (count_with s3 (count_with s4 1))) w) s3' u
      → QuantumAt sh s4 (port_at words 3 (count_with s2 (count_with s3 (count_with s4 1))) w) s4' x
      → Gatherable words record { first = f; second = t; third = u; fourth = x }
  seats_gather None None None s2' s3' s4' f t u x n m s h2 h3 h4 =
      rw (h2.1, h3.1, h4.1) (one_seat f s)
  seats_gather None None (Some r) s2' s3' s4' f t u x n m s h2 h3 h4 = absurd m
  seats_gather None (Some q) s4 s2' s3' s4' f t u x n m s h2 h3 h4 = absurd n
  seats_gather (Some p) None None s2' s3' s4' f t u x n m s h2 h3 h4 =
      let k2 = slot_after sh words p (seat_view 1 w) s2' t h2 in
      rw (k2.is, h3.1, h4.1) (two_seats f k2.port s record { port = k2.port; is = refl; words_are = k2.words_are; own = k2.own; covers = k2.covers })
  seats_gather (Some p) None (Some r) s2' s3' s4' f t u x n m s h2 h3 h4 = absurd m
  seats_gather (Some p) (Some q) None s2' s3' s4' f t u x n m s h2 h3 h4 =
      let k2 = slot_after sh words p (seat_view 1 w) s2' t h2 in
      let k3 = slot_after sh words q (seat_view 2 w) s3' u h3 in
      rw (k2.is, k3.is, h4.1) (three_seats f k2.port k3.port s record { port = k2.port; is = refl; words_are = k2.words_are; own = k2.own; covers = k2.covers }
      record { port = k3.port; is = refl; words_are = k3.words_are; own = k3.own; covers = k3.covers })
  seats_gather (Some p) (Some q) (Some r) s2' s3' s4' f t u x n m s h2 h3 h4 =
      let k2 = slot_after sh words p (seat_view 1 w) s2' t h2 in
      let k3 = slot_after sh words q (seat_view 2 w) s3' u h3 in
      let k4 = slot_after sh words r (seat_view 3 w) s4' x h4 in
      rw (k2.is, k3.is, k4.is) (four_seats f k2.port k3.port k4.port s record { port = k2.port; is = refl; words_are = k2.words_are; own = k2.own; covers = k2.covers }
      record { port = k3.port; is = refl; words_are = k3.words_are; own = k3.own; covers = k3.covers } record { port = k4.port; is = refl; words_are = k4.words_are; own = k4.own; covers = k4.covers })

-- four lists, one for each number
pub lists_of_four : (P : List (List Entry) → Type 0) → ((a b c d : List Entry) → P (a ∷ b ∷ c ∷ d ∷ [])) → (lists : List (List Entry)) → length lists ≡ 4 → P lists
lists_of_four P h [] e = absurd (omega arith)
lists_of_four P h (a ∷ []) e = absurd (omega arith)
lists_of_four P h (a ∷ b ∷ []) e = absurd (omega arith)
lists_of_four P h (a ∷ b ∷ c ∷ []) e = absurd (omega arith)
lists_of_four P h (a ∷ b ∷ c ∷ d ∷ []) e = h a b c d
lists_of_four P h (a ∷ b ∷ c ∷ d ∷ (x ∷ rest)) e = absurd (omega arith)

pub quanta_gather : (sh : Shared) (words : Opened) (w : Whole) (team team' : Team) (seats' : Seats) → length w.lists ≡ 4 → Follows team.second team.third → Follows team.third team.fourth
    → QuantaTaken sh team (dealt words (team_count team) w) team' seats' → Gatherable words seats'
quanta_gather sh words w team team' seats' four n m taken =
    lists_of_four (λ lists. QuantaTaken sh team (dealt words (team_count team) record { table = w.table; round = w.round; lists = lists }) team' seats' → Gatherable words seats')
    (λ a b c d t. seats_gather sh words w.table w.round a b c d team.second team.third team.fourth team'.second team'.third team'.fourth seats'.first seats'.second seats'.third seats'.fourth n m
    (first_slot sh words team.first team'.first _ seats'.first t.first) t.second t.third t.fourth)
    w.lists four taken

-- a dealt port has the words
ready_slot : (sh : Shared) (words : Opened) (p : Option ProcessorState) (number count : ℕ) (w : Whole) → IfThere p (λ r. IsReady sh r words) → (IfThere p (λ r. nat_lt number count ≡ true)) → ReadyAt sh p (port_at words number count w)
ready_slot sh words None number count w h lt = tt
ready_slot sh words (Some r) number count w h lt = rw lt h

counts : (s2 s3 s4 : Option ProcessorState) → Follows s2 s3 → Follows s3 s4
    → IfThere s2 (λ r. nat_lt 1 (count_with s2 (count_with s3 (count_with s4 1))) ≡ true) × IfThere s3 (λ r. nat_lt 2 (count_with s2 (count_with s3 (count_with s4 1))) ≡ true)
    × IfThere s4 (λ r. nat_lt 3 (count_with s2 (count_with s3 (count_with s4 1))) ≡ true)
counts None None None n m = (tt, tt, tt)
counts None None (Some r) n m = absurd m
counts None (Some q) s4 n m = absurd n
counts (Some p) None None n m = (refl, tt, tt)
counts (Some p) None (Some r) n m = absurd m
counts (Some p) (Some q) None n m = (refl, refl, tt)
counts (Some p) (Some q) (Some r) n m = (refl, refl, refl)

pub dealt_ready : (sh : Shared) (words : Opened) (w : Whole) (team : Team) → TeamReady sh team words → AreReady sh team (dealt words (team_count team) w)
dealt_ready sh words w team h =
    let c = counts team.second team.third team.fourth h.third_follows h.fourth_follows in
    record {
      first = h.first;
      second = ready_slot sh words team.second 1 (team_count team) w h.second c.0;
      third = ready_slot sh words team.third 2 (team_count team) w h.third c.1;
      fourth = ready_slot sh words team.fourth 3 (team_count team) w h.fourth c.2;
      third_follows = h.third_follows;
      fourth_follows = h.fourth_follows;
    }

with_port_round : (v : View) (s : Option Port) → (with_port v s).round ≡ v.round
with_port_round v None = refl
with_port_round v (Some p) = refl

pub quanta_round : (sh : Shared) (words : Opened) (count : ℕ) (w : Whole) (team team' : Team) (seats' : Seats) → QuantaTaken sh team (dealt words count w) team' seats' → (gathered seats').round ≡ w.round
quanta_round sh words count w team team' seats' t =
    let s = takes_stay sh team.first.quantum team.first team'.first record { words = words; view = first_view count w } seats'.first t.first.takes in
    with_port_round (with_port (with_port seats'.first.view seats'.second) seats'.third) seats'.fourth ∙ (with_port_round (with_port seats'.first.view seats'.second) seats'.third ∙ (with_port_round seats'.first.view seats'.second ∙ s.round))
