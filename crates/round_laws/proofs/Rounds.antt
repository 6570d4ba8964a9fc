-- All rounds of all processors are one list of events.
use Rattle.std.proofs.Common.{All, ◌≡◌, ℕ, zero, suc, ◌+◌, ◌*◌, ◌<◌, ◌≤◌, ◌==◌, Bool, true, false, List, [], ◌∷◌, ◌++◌, length, get_or, take, refl, sym, ap, ◌∙◌, subst, if◌then◌else◌, eq-eqb, ne_eqb, ◌≢◌, ◌%◌, append-nil, append_assoc, length-append, lt_of_not-le, arith}
use Rattle.std.proofs.lemmas.List.{append_cancel_left}
use Rattle.std.proofs.lemmas.List.Elements.{All-nil, All-cons, All-head, All-tail, All-append, All-get_or}
use native.Mathlib.Decide.{dec_le, ℕ_discrete}
use Rattle.words_layout.specs.declared.op.Event.{Event}
use Rattle.class_model.specs.Config.{Shared, classes}
use Rattle.machine.specs.Machine.{run}
use Rattle.machine.specs.Processing.{Processing}
use Rattle.machine.specs.Banks.{State, bank_at, machine_of}
use Rattle.machine.specs.Steps.{InRange}
use Rattle.machine.specs.Plain.{IsLaid, RunsAreRuns}
use Rattle.shared_words.specs.declared.view.Entry.{Entry}
use Rattle.shared_words.specs.Order.{Line, IsSound, after, entries_of, marks}
use Rattle.round_laws.specs.Turns.{class_at, classes_from}
use Rattle.round_laws.specs.Logs.{classes_of}
use Rattle.round_laws.specs.Live.{SomeLive, any_live}
use Rattle.round_laws.specs.Rounds.{Plan, HasCycle, joined, IsRoundList, Ran, list_at, classes_in, Turned, Past, Leaves}
use Rattle.round_laws.proofs.Idle.{Leads, leads_none, leads_then}
use Rattle.round_laws.proofs.Merge.{OneRound, Merged, merge}
use Rattle.round_laws.proofs.Cut.{Cut, cut, one_round, no_lines, AllIn, AllFrom, sound_in, sound_from, in_from, same_cut, log_grows, same_lists}
use Rattle.round_laws.proofs.Live.{some_live, none_live}

-- one round of events: each of k processors has the classes of round r, and nobody else has any
pub record IsRound (plan : Plan) (k r : ℕ) (es : List Event) : Type 0 where
  pub classes : (q : ℕ) → q < k → classes_of q es ≡ classes_in plan r
  pub others : (q : ℕ) → k ≤ q → classes_of q es ≡ []

-- rounds of events, each of which begins while a process is live
abbrev pub RunsRounds : Plan → ℕ → ℕ → List (List Event) → State (List ℕ) → State (List ℕ) → Type 0
RunsRounds plan k r [] m n = n ≡ m
RunsRounds plan k r (es ∷ parts) m n = IsRound plan k r es × (any_live m.banks ≡ true) × (b : State (List ℕ)) × Leads es m b × RunsRounds plan k (r + 1) parts b n

pub record Merges (s : Shared) (plan : Plan) (k r n : ℕ) (banks : List (List Processing)) (ws ws' : List ℕ) (banks' : List (List Processing)) : Type 0 where
  pub parts : List (List Event)
  pub count : length parts ≡ n
  pub runs : RunsRounds plan k r parts record { words = ws; banks = banks; shared = s } record { words = ws'; banks = banks'; shared = s }

-- how the list of a number grows
turned_grows : (s : Shared) (plan : Plan) (k r : ℕ) (banks banks' : List (List Processing)) (lists lists' : List (List Entry)) → Turned s plan k r banks lists banks' lists' → (q : ℕ) → Dec (k ≤ q)
    → (more : List Entry) × (list_at lists' q ≡ list_at lists q ++ more) × AllIn r more
turned_grows s plan k r banks banks' lists lists' t q (yes high) = ([], t.others q high ∙ sym (append-nil (list_at lists q)), tt)
turned_grows s plan k r banks banks' lists lists' t q (no low) = log_grows r s (classes_in plan r) (bank_at banks q) (bank_at banks' q) (list_at lists q) (list_at lists' q) (t.turns q (lt_of_not-le low))

past_grows : (s : Shared) (plan : Plan) (k r n : ℕ) (banks banks' : List (List Processing)) (lists lists' : List (List Entry)) → Past s plan k r n banks lists banks' lists' → (q : ℕ)
    → (more : List Entry) × (list_at lists' q ≡ list_at lists q ++ more) × AllFrom r more
past_grows s plan k r zero banks banks' lists lists' p q = ([], ap (λ (ls : List (List Entry)). list_at ls q) p.1 ∙ sym (append-nil (list_at lists q)), tt)
past_grows s plan k r (suc n) banks banks' lists lists' p q =
    let here = turned_grows s plan k r banks p.0 lists p.1 p.2 q (dec_le k q) in
    let rest = past_grows s plan k (r + 1) n p.0 banks' p.1 lists' p.3 q in
    (here.0 ++ rest.0, rest.1 ∙ (ap (λ (es : List Entry). es ++ rest.0) here.1 ∙ append_assoc (list_at lists q) here.0 rest.0), in_from r here.0 rest.0 here.2 rest.2)

length_classes : (cycle : List ℕ) (k n : ℕ) → length (classes_from cycle k n) ≡ n
length_classes cycle k zero = refl
length_classes cycle k (suc n) = ap suc (length_classes cycle (k + 1) n)

-- one round more
module _ (s : Shared) (plan : Plan) (k n r : ℕ) (lines : List Line) (banks b banks' : List (List Processing)) (lists l lists' : List (List Entry)) (ws : List ℕ)
    (t : Turned s plan k r banks lists b l) (p : Past s plan k (r + 1) n b l banks' lists') (c : Cut ws r lines n)
    (logs : (q : ℕ) → list_at lists' q ≡ list_at lists q ++ entries_of q lines) where
  logs_cut : (q : ℕ) → (list_at l q ≡ list_at lists q ++ entries_of q c.piece) × (list_at lists' q ≡ list_at l q ++ entries_of q c.rest)
  logs_cut q =
      let here = turned_grows s plan k r banks b lists l t q (dec_le k q) in
      let rest = past_grows s plan k (r + 1) n b banks' l lists' p q in
      let all : list_at lists q ++ (entries_of q c.piece ++ entries_of q c.rest) ≡ list_at lists q ++ (here.0 ++ rest.0) =
      ap (λ (es : List Entry). list_at lists q ++ es) (sym (c.entries q)) ∙ (sym (logs q) ∙ (rest.1 ∙ (ap (λ (es : List Entry). es ++ rest.0) here.1 ∙ append_assoc (list_at lists q) here.0 rest.0))) in
      let e = same_cut r (entries_of q c.piece) (entries_of q c.rest) here.0 rest.0 (append_cancel_left (list_at lists q) (entries_of q c.piece ++ entries_of q c.rest) (here.0 ++ rest.0) all)
      (sound_in ws r c.piece q c.one c.left) here.2 (sound_from (after ws c.piece) (r + 1) c.rest q c.right) rest.2 in
      (here.1 ∙ ap (λ (es : List Entry). list_at lists q ++ es) (sym e.0), rest.1 ∙ ap (λ (es : List Entry). list_at l q ++ es) (sym e.1))

  piece_one : OneRound k c.piece
  piece_one = one_round k c.piece c.one
      (λ q high. append_cancel_left (list_at lists q) (entries_of q c.piece) [] (sym (logs_cut q).0 ∙ (t.others q high ∙ sym (append-nil (list_at lists q)))))

  round_merged : length banks ≡ k → Merged s banks ws (after ws c.piece) k (λ q. classes_in plan r) (λ q. bank_at b q)
  round_merged width = merge r s k c.piece banks ws (λ q. classes_in plan r) (λ q. bank_at b q) (omega arith) piece_one c.left
      (λ q low. record { pre = list_at lists q; post = list_at l q; turns = t.turns q low; log = (logs_cut q).0 })

  one_more : length banks ≡ k → Merges s plan k (r + 1) n b (after ws c.piece) (after (after ws c.piece) c.rest) banks' → Merges s plan k r (suc n) banks ws (after ws lines) banks'
  one_more width rest =
      let m = round_merged width in
      let left_is : m.left ≡ b = same_lists m.left b (m.width ∙ (width ∙ sym t.width)) (λ q low. m.ends_are q (subst (λ (i : ℕ). q < i) (m.width ∙ width) low)) in
      record {
        parts = m.events ∷ rest.parts;
        count = ap suc rest.count;
        runs = (
          record { classes = m.classes; others = λ q high. (m.others q high).1 },
          t.live,
          record { words = after ws c.piece; banks = b; shared = s },
          subst (λ (x : List (List Processing)). Leads m.events record { words = ws; banks = banks; shared = s } record { words = after ws c.piece; banks = x; shared = s }) left_is m.run,
          subst (λ (x : List ℕ). RunsRounds plan k (r + 1) rest.parts record { words = after ws c.piece; banks = b; shared = s } record { words = x; banks = banks'; shared = s }) (sym c.words) rest.runs,
        );
      }

pub merge_rounds : (s : Shared) (plan : Plan) (k n r : ℕ) (lines : List Line) (banks banks' : List (List Processing)) (lists lists' : List (List Entry)) (ws : List ℕ)
    → length banks ≡ k → Past s plan k r n banks lists banks' lists' → IsSound ws r lines → marks lines ≡ n → ((q : ℕ) → list_at lists' q ≡ list_at lists q ++ entries_of q lines)
    → Merges s plan k r n banks ws (after ws lines) banks'
merge_rounds s plan k zero r lines banks banks' lists lists' ws width p sound m logs =
    let none : (q : ℕ) → entries_of q lines ≡ [] =
    λ q. append_cancel_left (list_at lists q) (entries_of q lines) [] (sym (logs q) ∙ (ap (λ (ls : List (List Entry)). list_at ls q) p.1 ∙ sym (append-nil (list_at lists q)))) in
    let words = no_lines ws lines m none in
    record { parts = []; count = refl; runs = λ i. record { words = words i; banks = p.0 i; shared = s } }
merge_rounds s plan k (suc n) r lines banks banks' lists lists' ws width p sound m logs =
    let c = cut ws r lines n (omega arith) sound in
    one_more s plan k n r lines banks p.0 banks' lists p.1 lists' ws p.2 p.3 c logs width
    (merge_rounds s plan k n (r + 1) c.rest p.0 banks' p.1 lists' (after ws c.piece) p.2.width p.3 c.right c.marks_are (λ q. (logs_cut s plan k n r lines banks p.0 banks' lists p.1 lists' ws p.2 p.3 c logs q).1))

-- ---- the rounds in the words of the contract

joined_leads : (plan : Plan) (k r : ℕ) (parts : List (List Event)) (m n : State (List ℕ)) → RunsRounds plan k r parts m n → Leads (joined parts) m n
joined_leads plan k r [] m n h = subst (λ (x : State (List ℕ)). Leads [] m x) (sym h) (leads_none m)
joined_leads plan k r (es ∷ parts) m n h = leads_then es (joined parts) m h.2 n h.3 (joined_leads plan k (r + 1) parts h.2 n h.4)

-- the rounds before round j, after which a process is live
pub record Before (plan : Plan) (k r j : ℕ) (parts : List (List Event)) (m : State (List ℕ)) : Type 0 where
  pub state : State (List ℕ)
  pub runs : RunsRounds plan k r (take j parts) m state
  pub live : any_live state.banks ≡ true

before : (plan : Plan) (k r j : ℕ) (parts : List (List Event)) (m n : State (List ℕ)) → RunsRounds plan k r parts m n → j < length parts → Before plan k r j parts m
before plan k r j [] m n h low = absurd (omega arith)
before plan k r zero (es ∷ parts) m n h low = record { state = m; runs = refl; live = h.1 }
before plan k r (suc j) (es ∷ parts) m n h low =
    let rest = before plan k (r + 1) j parts h.2 n h.4 (omega arith) in
    record { state = rest.state; runs = (h.0, h.1, h.2, h.3, rest.runs); live = rest.live }

round_at : (plan : Plan) (k r : ℕ) (parts : List (List Event)) (m n : State (List ℕ)) → RunsRounds plan k r parts m n → (j : ℕ) → j < length parts → IsRound plan k (r + j) (get_or parts j [])
round_at plan k r [] m n h j low = absurd (omega arith)
round_at plan k r (es ∷ parts) m n h zero low = subst (λ (i : ℕ). IsRound plan k i es) (omega arith) h.0
round_at plan k r (es ∷ parts) m n h (suc j) low =
    let again : (r + 1) + j ≡ r + suc j = omega arith in
    subst (λ (i : ℕ). IsRound plan k i (get_or parts j [])) again (round_at plan k (r + 1) parts h.2 n h.4 j (omega arith))

classes_append : (q : ℕ) (es fs : List Event) → classes_of q (es ++ fs) ≡ classes_of q es ++ classes_of q fs
classes_append q [] fs = refl
classes_append q (e ∷ es) fs =
    let P : Bool → Type 0 = λ x. (if x then e.class ∷ classes_of q (es ++ fs) else classes_of q (es ++ fs)) ≡ (if x then e.class ∷ classes_of q es else classes_of q es) ++ classes_of q fs in
    elim (e.processor == q) as P [ true ↦ ap (λ (cs : List ℕ). e.class ∷ cs) (classes_append q es fs) | false ↦ classes_append q es fs ]

from_append : (cycle : List ℕ) (k a b : ℕ) → classes_from cycle k a ++ classes_from cycle (k + a) b ≡ classes_from cycle k (a + b)
from_append cycle k zero b =
    let here : k + 0 ≡ k = omega arith in
    let sum : b ≡ 0 + b = omega arith in
    ap (λ (i : ℕ). classes_from cycle i b) here ∙ ap (classes_from cycle k) sum
from_append cycle k (suc a) b =
    let there : k + suc a ≡ (k + 1) + a = omega arith in
    let sum : suc (a + b) ≡ suc a + b = omega arith in
    ap (λ (cs : List ℕ). class_at cycle k ∷ cs) (ap (λ (i : ℕ). classes_from cycle (k + 1) a ++ classes_from cycle i b) there ∙ from_append cycle (k + 1) a b) ∙ ap (classes_from cycle k) sum

-- the classes of all events of a processor
all_classes : (plan : Plan) (k q r : ℕ) (parts : List (List Event)) (m n : State (List ℕ)) → q < k → RunsRounds plan k r parts m n
    → classes_of q (joined parts) ≡ classes_from plan.cycle (r * plan.quantum) (length parts * plan.quantum)
all_classes plan k q r [] m n low h =
    let z : 0 ≡ 0 * plan.quantum = omega arith in
    ap (classes_from plan.cycle (r * plan.quantum)) z
all_classes plan k q r (es ∷ parts) m n low h =
    let next : (r + 1) * plan.quantum ≡ r * plan.quantum + plan.quantum = omega arith in
    let more : plan.quantum + length parts * plan.quantum ≡ suc (length parts) * plan.quantum = omega arith in
    classes_append q es (joined parts) ∙ (ap (λ (cs : List ℕ). cs ++ classes_of q (joined parts)) (h.0.classes q low)
    ∙ (ap (λ (cs : List ℕ). classes_in plan r ++ cs) (all_classes plan k q (r + 1) parts h.2 n low h.4 ∙ ap (λ (i : ℕ). classes_from plan.cycle i (length parts * plan.quantum)) next)
    ∙ (from_append plan.cycle (r * plan.quantum) plan.quantum (length parts * plan.quantum) ∙ ap (classes_from plan.cycle (r * plan.quantum)) more)))

class_in : (cycle : List ℕ) (i n k : ℕ) → k < n → get_or (classes_from cycle i n) k 0 ≡ class_at cycle (i + k)
class_in cycle i zero k low = absurd (omega arith)
class_in cycle i (suc n) zero low = let e : i ≡ i + 0 = omega arith in ap (class_at cycle) e
class_in cycle i (suc n) (suc k) low = let e : (i + 1) + k ≡ i + suc k = omega arith in class_in cycle (i + 1) n k (omega arith) ∙ ap (class_at cycle) e

-- ---- every event names a processor and a class that are there

own_event : (e : Event) (es : List Event) → classes_of e.processor (e ∷ es) ≡ e.class ∷ classes_of e.processor es
own_event e es = rw (eq-eqb e.processor e.processor refl)

other_event : (q : ℕ) (e : Event) (es : List Event) → e.processor ≢ q → classes_of q (e ∷ es) ≡ classes_of q es
other_event q e es n = rw (ne_eqb e.processor q n)

no_class : (c : ℕ) (cs : List ℕ) → c ∷ cs ≡ [] → ⊥
no_class c cs h = cc

low_event : (n : ℕ) (e : Event) (es : List Event) → ((q : ℕ) → n ≤ q → classes_of q (e ∷ es) ≡ []) → Dec (n ≤ e.processor) → e.processor < n
low_event n e es others (yes high) = absurd (no_class e.class (classes_of e.processor es) (sym (own_event e es) ∙ others e.processor high))
low_event n e es others (no low) = lt_of_not-le low

rest_below : (q k : ℕ) (e : Event) (es : List Event) → All (λ c. c < k) (classes_of q (e ∷ es)) → All (λ c. c < k) (classes_of q es)
rest_below q k e es =
    let P : Bool → Type 0 = λ x. All (λ c. c < k) (if x then e.class ∷ classes_of q es else classes_of q es) → All (λ c. c < k) (classes_of q es) in
    elim (e.processor == q) as P [ true ↦ All-tail (λ (c : ℕ). c < k) e.class (classes_of q es) | false ↦ λ h. h ]

events_within : (n k : ℕ) (es : List Event) → ((q : ℕ) → n ≤ q → classes_of q es ≡ []) → ((q : ℕ) → q < n → All (λ c. c < k) (classes_of q es)) → All (λ e. (e.processor < n) × (e.class < k)) es
events_within n k [] others below = All-nil (λ (e : Event). (e.processor < n) × (e.class < k))
events_within n k (e ∷ es) others below =
    let low : e.processor < n = low_event n e es others (dec_le n e.processor) in
    let mine : All (λ c. c < k) (e.class ∷ classes_of e.processor es) = subst (λ (cs : List ℕ). All (λ c. c < k) cs) (own_event e es) (below e.processor low) in
    All-cons (λ (x : Event). (x.processor < n) × (x.class < k)) e es (low, All-head (λ (c : ℕ). c < k) e.class (classes_of e.processor es) mine)
    (events_within n k es (λ q high. sym (other_event q e es (λ s. omega arith)) ∙ others q high) (λ q small. rest_below q k e es (below q small)))

classes_within : (cycle : List ℕ) (k i n : ℕ) → HasCycle k cycle → All (λ c. c < k) (classes_from cycle i n)
classes_within cycle k i zero h = All-nil (λ (c : ℕ). c < k)
classes_within cycle k i (suc n) h =
    let some = h.some in
    let inside : i % length cycle < length cycle = omega arith in
    All-cons (λ (c : ℕ). c < k) (class_at cycle i) (classes_from cycle (i + 1) n) (All-get_or (λ (c : ℕ). c < k) cycle (i % length cycle) 0 inside h.below) (classes_within cycle k (i + 1) n h)

round_within : (plan : Plan) (p k r : ℕ) (es : List Event) → HasCycle k plan.cycle → IsRound plan p r es → All (λ e. (e.processor < p) × (e.class < k)) es
round_within plan p k r es cycle h =
    events_within p k es h.others (λ q low. subst (λ (cs : List ℕ). All (λ c. c < k) cs) (sym (h.classes q low)) (classes_within plan.cycle k (r * plan.quantum) plan.quantum cycle))

rounds_within : (plan : Plan) (p k r : ℕ) (parts : List (List Event)) (m n : State (List ℕ)) → HasCycle k plan.cycle → RunsRounds plan p r parts m n → All (λ e. (e.processor < p) × (e.class < k)) (joined parts)
rounds_within plan p k r [] m n cycle h = All-nil (λ (e : Event). (e.processor < p) × (e.class < k))
rounds_within plan p k r (es ∷ parts) m n cycle h =
    All-append (λ (e : Event). (e.processor < p) × (e.class < k)) es (joined parts) (round_within plan p k r es cycle h.0) (rounds_within plan p k (r + 1) parts h.2 n cycle h.4)

-- ---- how many events there are

-- the numbers of events of the first n processors, added up
total : ℕ → List Event → ℕ
total zero es = 0
total (suc n) es = total n es + length (classes_of n es)

total_none : (n : ℕ) → total n [] ≡ 0
unfolding total
total_none zero = refl
total_none (suc n) = let t = total_none n in omega arith

total_above : (n : ℕ) (e : Event) (es : List Event) → n ≤ e.processor → total n (e ∷ es) ≡ total n es
unfolding total
total_above zero e es high = refl
total_above (suc n) e es high =
    let t = total_above n e es (omega arith) in
    let o = ap length (other_event n e es (λ s. omega arith)) in
    omega arith

total_at : (n : ℕ) (e : Event) (es : List Event) → e.processor < suc n → (e.processor < n → total n (e ∷ es) ≡ total n es + 1) → Dec (e.processor ≡ n) → total n (e ∷ es) + length (classes_of n (e ∷ es)) ≡ (total n es + length (classes_of n es)) + 1
total_at n e es low rest (yes is) =
    let t = total_above n e es (omega arith) in
    let o : length (classes_of n (e ∷ es)) ≡ length (classes_of n es) + 1 = subst (λ (i : ℕ). length (classes_of i (e ∷ es)) ≡ length (classes_of i es) + 1) is (ap length (own_event e es) ∙ omega arith) in
    omega arith
total_at n e es low rest (no apart) =
    let t = rest (omega arith) in
    let o = ap length (other_event n e es apart) in
    omega arith

total_here : (n : ℕ) (e : Event) (es : List Event) → e.processor < n → total n (e ∷ es) ≡ total n es + 1
unfolding total
total_here zero e es low = absurd (omega arith)
total_here (suc n) e es low = total_at n e es low (λ h. total_here n e es h) (ℕ_discrete e.processor n)

total_is : (n : ℕ) (es : List Event) → All (λ e. e.processor < n) es → length es ≡ total n es
total_is n [] h = sym (total_none n)
total_is n (e ∷ es) h =
    let here = total_here n e es (All-head (λ (x : Event). x.processor < n) e es h) in
    let rest = total_is n es (All-tail (λ (x : Event). x.processor < n) e es h) in
    omega arith

total_even : (n w : ℕ) (es : List Event) → ((q : ℕ) → q < n → length (classes_of q es) ≡ w) → total n es ≡ n * w
unfolding total
total_even zero w es h = omega arith
total_even (suc n) w es h =
    let t = total_even n w es (λ q low. h q (omega arith)) in
    let o = h n (omega arith) in
    omega arith

processors_within : (n : ℕ) (es : List Event) → ((q : ℕ) → n ≤ q → classes_of q es ≡ []) → All (λ e. e.processor < n) es
processors_within n [] others = All-nil (λ (e : Event). e.processor < n)
processors_within n (e ∷ es) others =
    let low : e.processor < n = low_event n e es others (dec_le n e.processor) in
    All-cons (λ (x : Event). x.processor < n) e es low (processors_within n es (λ q high. sym (other_event q e es (λ s. omega arith)) ∙ others q high))

round_long : (plan : Plan) (k r : ℕ) (es : List Event) → IsRound plan k r es → length es ≡ k * plan.quantum
round_long plan k r es h =
    total_is k es (processors_within k es h.others)
    ∙ total_even k plan.quantum es (λ q low. ap length (h.classes q low) ∙ length_classes plan.cycle (r * plan.quantum) plan.quantum)

one_longer : (w : ℕ) (es fs : List Event) (n : ℕ) → length es ≡ w → length fs ≡ n * w → length (es ++ fs) ≡ suc n * w
one_longer w es fs n h k = let l = length-append es fs in omega arith

rounds_long : (plan : Plan) (k r : ℕ) (parts : List (List Event)) (m n : State (List ℕ)) → RunsRounds plan k r parts m n → length (joined parts) ≡ length parts * (k * plan.quantum)
rounds_long plan k r [] m n h = omega arith
rounds_long plan k r (es ∷ parts) m n h = one_longer (k * plan.quantum) es (joined parts) (length parts) (round_long plan k r es h.0) (rounds_long plan k (r + 1) parts h.2 n h.4)

-- ---- what the rounds of all processors and the one order leave is what the step machine leaves after a round list

round_list : (plan : Plan) (k rounds : ℕ) (parts : List (List Event)) (m n : State (List ℕ)) → length parts ≡ rounds → RunsRounds plan k 0 parts m n → IsRoundList plan k rounds parts
round_list plan k rounds parts m n count h =
    let z : 0 * plan.quantum ≡ 0 = omega arith in
    let all : (q : ℕ) → q < k → classes_of q (joined parts) ≡ classes_from plan.cycle 0 (rounds * plan.quantum) =
    λ q low. all_classes plan k q 0 parts m n low h ∙ (ap (λ (i : ℕ). classes_from plan.cycle i (length parts * plan.quantum)) z ∙ ap (λ (i : ℕ). classes_from plan.cycle 0 (i * plan.quantum)) count) in
    record {
      count = count;
      quanta = λ r q below low. ap length ((round_at plan k 0 parts m n h r (subst (λ (i : ℕ). r < i) (sym count) below)).classes q low) ∙ length_classes plan.cycle ((0 + r) * plan.quantum) plan.quantum;
      others = λ r q below high. (round_at plan k 0 parts m n h r (subst (λ (i : ℕ). r < i) (sym count) below)).others q high;
      places = λ q i low below. let e : 0 + i ≡ i = omega arith in ap (λ (cs : List ℕ). get_or cs i 0) (all q low) ∙ (class_in plan.cycle 0 (rounds * plan.quantum) i below ∙ ap (class_at plan.cycle) e);
      long = rounds_long plan k 0 parts m n h ∙ ap (λ (i : ℕ). i * (k * plan.quantum)) count;
    }

module _ (laws : RunsAreRuns) (plan : Plan) (m : State (List ℕ)) (laid : IsLaid m) (cycle : HasCycle (classes m.shared) plan.cycle) where
  in_range : (parts : List (List Event)) (n : State (List ℕ)) → RunsRounds plan (length m.banks) 0 parts m n → All (λ e. InRange m e) (joined parts)
  in_range parts n h = rounds_within plan (length m.banks) (classes m.shared) 0 parts m n cycle h

  live_before : (parts : List (List Event)) (n : State (List ℕ)) → RunsRounds plan (length m.banks) 0 parts m n → (j : ℕ) → j < length parts → SomeLive (run (machine_of m) (joined (take j parts)))
  live_before parts n h j low =
      let b = before plan (length m.banks) 0 j parts m n h low in
      let l = joined_leads plan (length m.banks) 0 (take j parts) m b.state b.runs in
      let e = laws (joined (take j parts)) m b.state l.names laid (in_range (take j parts) b.state b.runs) l.runs in
      subst SomeLive e.0 (some_live b.state b.live)

  ran_by : (n : State (List ℕ)) (bound taken : ℕ) (parts : List (List Event)) → length parts ≡ taken → RunsRounds plan (length m.banks) 0 parts m n → taken ≤ bound → (taken < bound → any_live n.banks ≡ false) → Ran plan m n bound taken
  ran_by n bound taken parts count h most ends =
      let l = joined_leads plan (length m.banks) 0 parts m n h in
      let e = laws (joined parts) m n l.names laid (in_range parts n h) l.runs in
      record {
        parts = parts;
        rounds = round_list plan (length m.banks) taken parts m n count h;
        range = in_range parts n h;
        names = l.names;
        runs = l.runs;
        machine = e.0;
        order = e.1;
        most = most;
        live = λ r low. live_before parts n h r (subst (λ (i : ℕ). r < i) (sym count) low);
        ends = λ less. none_live n (ends less);
      }

  pub ran : (n : State (List ℕ)) (bound taken : ℕ) → Leaves plan m n bound taken → Ran plan m n bound taken
  ran n bound taken h =
      let o = h.order in
      let g = merge_rounds m.shared plan (length m.banks) taken 0 o.order m.banks n.banks h.lists h.whole.lists m.words refl h.past o.sound (o.rounds ∙ h.round)
      (λ q. sym (o.entries q) ∙ ap (λ (es : List Entry). es ++ entries_of q o.order) (sym (h.fresh q))) in
      let is : record { words = after m.words o.order; banks = n.banks; shared = m.shared } ≡ n = λ i. record { words = sym o.leaves i; banks = n.banks; shared = sym h.shared i } in
      ran_by n bound taken g.parts g.count (subst (λ (x : State (List ℕ)). RunsRounds plan (length m.banks) 0 g.parts m x) is g.runs) h.most h.ends
