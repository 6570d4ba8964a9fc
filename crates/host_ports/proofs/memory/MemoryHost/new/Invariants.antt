use Rattle.std.proofs.Common.{◌≡◌, ◌≤◌, vec_len, length, map, All, ◌++◌}
use Rattle.host_ports.specs.Memory.{fresh_each}
use Rattle.host_ports.proofs.memory.MemoryHost.new.Given as goal

abbrev pub invariant-loop-input : goal.invariant-loop-input
invariant-loop-input l = record {
  kept : map (λ p. p.kept) l.pipes.items ≡ fresh_each l.yielded;
  reserved : All (λ p. l.room ≤ p.spare) l.pipes.items;
}
