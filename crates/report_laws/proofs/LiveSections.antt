-- A section says of a class that it is open exactly where a process of it is live.
use Rattle.std.proofs.Common.{ℕ, zero, suc, ◌+◌, ◌<◌, Bool, true, false, ◌||◌, List, [], ◌∷◌, ◌++◌, ◌≡◌, refl, sym, ap, ◌∙◌, Option, Some, None, arith, map}
use Rattle.std.specs.Prelude.{slice_index_or}
use Rattle.std.specs.List.{list_any, enumerate_from, filter_map, flat_map}
use Rattle.std.specs.Option.{option_map}
use Rattle.lists.specs.Lists.{below}
use Rattle.class_model.specs.Process.{Process}
use Rattle.class_model.specs.Report.{SeenProcess, some_live}
use Rattle.class_model.specs.Section.{seen_slots}
use Rattle.process.specs.Running.{Running}
use Rattle.machine.specs.Machine.{Machine, is_live, slot_at}
use Rattle.machine.specs.Reading.{processes_of}
use Rattle.report.specs.Reported.{seen}

or_assoc : (a b c : Bool) → (a || (b || c)) ≡ ((a || b) || c)
or_assoc true b c = refl
or_assoc false b c = refl

any_append : {X : Type 0} (test : X → Bool) (xs ys : List X) → list_any test (xs ++ ys) ≡ (list_any test xs || list_any test ys)
any_append test [] ys = refl
any_append test (x ∷ xs) ys = ap (λ b. test x || b) (any_append test xs ys) ∙ or_assoc (test x) (list_any test xs) (list_any test ys)

any_flat : {X A : Type 0} (test : A → Bool) (give : X → List A) (xs : List X) → list_any test (flat_map give xs) ≡ list_any (λ x. list_any test (give x)) xs
any_flat test give [] = refl
any_flat test give (x ∷ xs) = any_append test (give x) (flat_map give xs) ∙ ap (λ b. list_any test (give x) || b) (any_flat test give xs)

-- what is seen of a processor's slots, numbered from a slot on
abbrev seen_from : ℕ → ℕ → List (Option Process) → List SeenProcess
seen_from processor n slots =
    filter_map (λ (item : ℕ × Option Process). option_map (λ (p : Process). record { processor = processor; slot = item.0; process = p }) item.1) (enumerate_from n slots)

slots_live : (processor n : ℕ) (slots : List (Option Running)) → list_any is_live slots ≡ some_live (seen_from processor n (map (option_map (λ (r : Running). r.process)) slots))
slots_live processor n [] = refl
slots_live processor n (None ∷ slots) = slots_live processor (n + 1) slots
slots_live processor n (Some r ∷ slots) = ap (λ b. r.process.live || b) (slots_live processor (n + 1) slots)

-- whether a process of class c is live, on any of four processors
abbrev pub class_live : Machine → ℕ → Bool
class_live m c = list_any (λ p. list_any is_live ((m.part c).vp p).slots) (below 4)

pub live_is_seen : (m : Machine) (c : ℕ) → class_live m c ≡ some_live (seen c m).processes
live_is_seen m c =
    ap (λ (f : ℕ → Bool). list_any f (below 4)) (λ i p. slots_live p 0 ((m.part c).vp p).slots i)
    ∙ sym (any_flat (λ (s : SeenProcess). s.process.live) (λ p. seen_slots p (processes_of ((m.part c).vp p))) (below 4))

-- where none is live, each process that there is has ended
or_false : (a b : Bool) → (a || b) ≡ false → (a ≡ false) × (b ≡ false)
or_false true b e = cc
or_false false b e = (refl, e)

slot_ended : (slots : List (Option Running)) (i : ℕ) (r : Running) → list_any is_live slots ≡ false → slice_index_or slots i None ≡ Some r → r.process.live ≡ false
slot_ended [] i r h e = cc
slot_ended (o ∷ slots) zero r h e = (let a = or_false (is_live o) (list_any is_live slots) h in by_slot o a.0 e)
  where
    by_slot : (o : Option Running) → is_live o ≡ false → o ≡ Some r → r.process.live ≡ false
    by_slot None f g = cc
    by_slot (Some x) f g = let same : x ≡ r = cc in ap (λ (z : Running). z.process.live) (sym same) ∙ f
slot_ended (o ∷ slots) (suc i) r h e = (let a = or_false (is_live o) (list_any is_live slots) h in slot_ended slots i r a.1 e)

pub all_ended : (m : Machine) (c : ℕ) → class_live m c ≡ false → (p : ℕ) → p < 4 → (i : ℕ) (r : Running) → slot_at ((m.part c).vp p) i ≡ Some r → r.process.live ≡ false
all_ended m c h p small i r e = slot_ended ((m.part c).vp p).slots i r (on_processor p small) e
  where
    a0 : (list_any is_live ((m.part c).vp 0).slots ≡ false) × (list_any (λ p. list_any is_live ((m.part c).vp p).slots) (1 ∷ 2 ∷ 3 ∷ []) ≡ false)
    a0 = or_false _ _ h

    a1 : (list_any is_live ((m.part c).vp 1).slots ≡ false) × (list_any (λ p. list_any is_live ((m.part c).vp p).slots) (2 ∷ 3 ∷ []) ≡ false)
    a1 = or_false _ _ a0.1

    a2 : (list_any is_live ((m.part c).vp 2).slots ≡ false) × (list_any (λ p. list_any is_live ((m.part c).vp p).slots) (3 ∷ []) ≡ false)
    a2 = or_false _ _ a1.1

    a3 : (list_any is_live ((m.part c).vp 3).slots ≡ false) × (false ≡ false)
    a3 = or_false _ _ a2.1

    on_processor : (p : ℕ) → p < 4 → list_any is_live ((m.part c).vp p).slots ≡ false
    on_processor zero s = a0.0
    on_processor (suc zero) s = a1.0
    on_processor (suc (suc zero)) s = a2.0
    on_processor (suc (suc (suc zero))) s = a3.0
    on_processor (suc (suc (suc (suc p)))) s = absurd (omega arith)
