use Rattle.std.proofs.Common.{◌≡◌, ◌<◌, length, map, set, subst, arith}
use Rattle.host_ports.specs.Memory.{Memory, Kept, Held, push_refused, with_kept}
use Rattle.host_ports.proofs.Held.{kept_set}
use Rattle.host_ports.proofs.memory.MemoryHost.refuse_push.Goals as goal

pub returns-clause-kept : goal.returns-clause-kept
returns-clause-kept c =
    let five = c.self.invariant.five in
    let len = c.self.inside.pipes.ok.0 in
    let p = c.requires in
    let inside : c.args.port < length c.self.inside.pipes.items = omega arith in
    subst
    (λ (m : Memory). map (λ (h : Held). h.kept) (set c.self.inside.pipes.items c.args.port c.refuse_push.new.self) ≡ with_kept m.kept c.args.port push_refused)
    c.self.view_is
    (kept_set c.self.inside.pipes.items c.args.port c.index_mut.result.now c.refuse_push.new.self push_refused inside c.index_mut.ensures.value c.refuse_push.ensures.kept)
