-- What a valid configuration's header and items are, as orders.
use Rattle.std.proofs.Common.{◌≡◌, ℕ, ◌≤◌, true, length, arith}
use Rattle.std.specs.Prelude.{◌&&◌, nat_le}
use Rattle.std.specs.List.{list_all}
use Rattle.std.proofs.lemmas.Bool.{and_parts, leb-true}
use Rattle.config_text.specs.declared.config.Config.{Config}
use Rattle.config_text.specs.Valid.{IsValid, within, is_class}

-- a number within bounds
within_bounds : (low high n : ℕ) → within low high n ≡ true → (low ≤ n) × (n ≤ high)
within_bounds low high n is = let parts = and_parts (nat_le low n) (nat_le n high) is in (leb-true low n parts.0, leb-true n high parts.1)

-- the header: 1 to 4 processors, a quantum from 1 to 256
pub record Header (k : Config) : Type 0 where
  pub some_processors : 1 ≤ k.processors
  pub few_processors : k.processors ≤ 4
  pub some_quantum : 1 ≤ k.quantum
  pub short_quantum : k.quantum ≤ 256

pub header : (k : Config) → IsValid k → Header k
header k valid =
    let a = and_parts (within 1 4 k.processors && within 1 4096 k.rounds && within 1 256 k.quantum) (nat_le k.console 4096) valid.header in
    let b = and_parts (within 1 4 k.processors && within 1 4096 k.rounds) (within 1 256 k.quantum) a.0 in
    let c = and_parts (within 1 4 k.processors) (within 1 4096 k.rounds) b.0 in
    let p = within_bounds 1 4 k.processors c.0 in
    let q = within_bounds 1 256 k.quantum b.1 in
    record { some_processors = p.0; few_processors = p.1; some_quantum = q.0; short_quantum = q.1 }

pub some_processors : (k : Config) → IsValid k → 1 ≤ k.processors
some_processors k valid = (header k valid).some_processors

pub few_processors : (k : Config) → IsValid k → k.processors ≤ 16
few_processors k valid = let few = (header k valid).few_processors in omega (arith, few)

pub some_classes : (k : Config) → IsValid k → 1 ≤ length k.table
some_classes k valid = let some = valid.table.some in omega (arith, some)

pub few_classes : (k : Config) → IsValid k → length k.table ≤ 16
few_classes k valid = let few = valid.table.few in omega (arith, few)

pub some_cycle : (k : Config) → IsValid k → 1 ≤ length k.cycle
some_cycle k valid = (within_bounds 1 16 (length k.cycle) (and_parts (within 1 16 (length k.cycle)) (list_all (is_class k) k.cycle) valid.cycle).0).0
