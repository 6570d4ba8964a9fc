-- What is read off a machine of words that stands for a state is what is read off the state.
use Rattle.std.proofs.Common.{◌≡◌, ℕ, List, sym, ap, Option, Some, None}
use Rattle.std.specs.Option.{option_map}
use Rattle.words_layout.specs.Words.{GuardedWords, OfClass, HomeOf}
use Rattle.words_layout.specs.Coding.{home_of}
use Rattle.words_layout.specs.declared.coding.Home.{Home}
use Rattle.words_layout.specs.declared.coding.Home.TheVariants as H
use Rattle.policy.specs.Known.{in_table}
use Rattle.class_model.specs.Config.{Config, classes}
use Rattle.class_model.specs.State.{State, cell_at}
use Rattle.machine.specs.Machine.{Machine}
use Rattle.machine.specs.Stands.{StandsFor, StoredHolds, NoTurn}
use Rattle.end_volumes.specs.After.{tree_of_state, tree_of_words, page_of, page_words, records_after}

stored_is : (w : GuardedWords) (h : Home) (stored : Option (List ℕ)) → StoredHolds w h stored → option_map (page_words w) (page_of h) ≡ stored
stored_is w H.Never stored is = sym is
stored_is w (H.Stored g size) stored is = sym is
stored_is w (H.Resident f None size) stored is = sym is
stored_is w (H.Resident f (Some g) size) stored is = sym is
stored_is w H.Deleted stored is = sym is

module _ (m : Machine) (a : State) (stands : StandsFor m a) (quiet : (d : ℕ) → NoTurn OfClass (m.part d)) where
  pub trees_stand : tree_of_words m ≡ tree_of_state a
  trees_stand = λ j. record {
    classes = classes (stands.shared j);
    entry = λ c x e. in_table (stands.shared j).table (((stands.parts c).of_class (quiet c)).entries x e j);
    stored = λ c x. stored_is (m.part c).words.guarded (home_of ((m.part c).words.guarded (HomeOf x))) (cell_at a c x).stored (((stands.parts c).of_class (quiet c)).stored x) j;
  }

pub same_records : (k : Config) (v : ℕ) (m : Machine) (a : State) → StandsFor m a → ((d : ℕ) → NoTurn OfClass (m.part d)) → records_after k v (tree_of_words m) ≡ records_after k v (tree_of_state a)
same_records k v m a stands quiet = ap (records_after k v) (trees_stand m a stands quiet)
