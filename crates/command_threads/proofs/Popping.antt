-- Banks that are popped, one after another.
use Rattle.std.proofs.Common.{◌≡◌, ℕ, zero, suc, ◌<◌, List, [], ◌∷◌, ◌++◌, length, sym, subst, arith}
use Rattle.std.specs.List.{All}
use Rattle.std.specs.Option.{option_to_list}
use Rattle.std.specs.Prelude.{Option, None, slice_index_or}
use Rattle.config_text.specs.declared.config.Config.{Config}
use Rattle.machine.specs.Processing.{Processing}
use Rattle.command_threads.specs.Teams.{HasClassesOf}

left_at : (P : List Processing → Type 0) (xs ys : List (List Processing)) → All P (xs ++ ys) → (i : ℕ) (d : List Processing) → i < length xs → P (slice_index_or xs i d)
left_at P [] ys h i d inside = absurd (omega (arith, inside))
left_at P (x ∷ xs) ys h zero d inside = h zero d (omega arith)
left_at P (x ∷ xs) ys h (suc i) d inside = left_at P xs ys (λ j e within. h (suc j) e (omega (arith, within))) i d (omega (arith, inside))

all_left : (P : List Processing → Type 0) (xs ys : List (List Processing)) → All P (xs ++ ys) → All P xs
all_left P xs ys h = λ i d inside. left_at P xs ys h i d inside

all_right : (P : List Processing → Type 0) (xs ys : List (List Processing)) → All P (xs ++ ys) → All P ys
all_right P [] ys h = h
all_right P (x ∷ xs) ys h = all_right P xs ys (λ j e within. h (suc j) e (omega (arith, within)))

-- what holds of all banks holds of those that stay and of the one that is popped, if one is
pub record AreWide (k : Config) (banks : List (List Processing)) (popped : Option (List Processing)) : Type 0 where
  pub rest : All (HasClassesOf k) banks
  pub one : All (HasClassesOf k) (option_to_list popped)

pub one_popped : (k : Config) (old new : List (List Processing)) (popped : Option (List Processing)) → old ≡ new ++ option_to_list popped → All (HasClassesOf k) old → AreWide k new popped
one_popped k old new popped same h =
    let both : All (HasClassesOf k) (new ++ option_to_list popped) = subst (All (HasClassesOf k)) same h in
    record { rest = all_left (HasClassesOf k) new (option_to_list popped) both; one = all_right (HasClassesOf k) new (option_to_list popped) both }

pub none_popped : (k : Config) (old new : List (List Processing)) (popped : Option (List Processing)) → new ≡ old → popped ≡ None → All (HasClassesOf k) old → AreWide k new popped
none_popped k old new popped same none h = record {
  rest = subst (All (HasClassesOf k)) (sym same) h;
  one = subst (λ (o : Option (List Processing)). All (HasClassesOf k) (option_to_list o)) (sym none) (λ i d inside. absurd (omega (arith, inside)));
}
