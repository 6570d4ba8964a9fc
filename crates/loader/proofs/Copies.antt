-- What is copied from a valid configuration is what no step changes of what is seen of it, and in order.
use Rattle.std.proofs.Common.{ℕ, List, [], map, ◌≡◌, sym, ap, subst, ◌∙◌, Option}
use Rattle.labels.specs.Label.{ClassEntry}
use Rattle.config_text.specs.declared.config.Config.{Config as ConfigText}
use Rattle.config_text.specs.Valid.{IsValid}
use Rattle.class_model.specs.Config.{Config, Shared, Pool, Script, Gate, shared_of}
use Rattle.class_model.specs.Shared.{IsShared}
use Rattle.flow_laws.proofs.Sound.{is_shared}
use Rattle.loader.specs.Configuration.{configuration, pool_of_text}
use Rattle.loader.specs.Seen.{seen, sees, script_seen, gate_seen}
use Rattle.loader.proofs.Validity.{is_config}
use Rattle.loader.proofs.Seen.{part_by, seen_is, seen_valid, scripts_are, gates_are}

module _ (k : ConfigText) (view : Option ℕ) (table : List ClassEntry) (pools : List Pool) (console : ℕ) (scripts : List (Option Script)) (gates : List (Option Gate)) where
  abbrev copied : Shared
  copied = record { table = table; pools = pools; console = console; scripts = scripts; gates = gates }

  abbrev here : Config
  here = part_by (sees k.table view) (configuration k [])

  module _ (a : table ≡ k.table) (b : pools ≡ map pool_of_text k.pools) (c : console ≡ k.console) (d : scripts ≡ map (script_seen k.table view) k.scripts) (e : gates ≡ map (gate_seen k.table view) k.gates) where
    copies : copied ≡ shared_of here
    copies = λ j. record { table = a j; pools = b j; console = c j; scripts = (d ∙ scripts_are k view []) j; gates = (e ∙ gates_are k view []) j }

    pub copies_are : copied ≡ shared_of (seen (configuration k []) view)
    copies_are = copies ∙ ap shared_of (sym (seen_is (configuration k []) view))

    pub copies_fit : IsValid k → IsShared copied
    copies_fit valid = subst IsShared (sym copies) (is_shared here (seen_valid (configuration k []) view (is_config k valid)))
