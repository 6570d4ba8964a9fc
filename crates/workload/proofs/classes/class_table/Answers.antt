use Rattle.std.proofs.Common.{[], map, ap, ◌∙◌}
use Rattle.std.proofs.lemmas.List.{map_push}
use Rattle.labels.specs.Table.{entry_of}
use Rattle.workload.specs.Large.{large_class}
use Rattle.workload.proofs.Numbers.{mapped_more}
use Rattle.workload.proofs.classes.class_table.Goals as goal

pub loop-class-preserved : goal.loop-class-preserved
loop-class-preserved c =
    mapped_more large_class c.loop-class.class [] (map entry_of c.loop-class.entries.items) (map entry_of c.push.new.self.items) (entry_of c.class_entry.result)
    c.loop-class.invariant (ap (map entry_of) c.in_ok-push.ensures.items ∙ map_push entry_of c.loop-class.entries.items c.class_entry.result) c.class_entry.ensures
