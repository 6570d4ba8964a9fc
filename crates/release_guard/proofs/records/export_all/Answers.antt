use Rattle.std.proofs.Common.{sym, ◌∙◌}
use Rattle.release_guard.proofs.Shown.{shown_more, hidden_more}
use Rattle.release_guard.proofs.records.export_all.Goals as goal

pub loop-segment-preserved-in-Continue-1 : goal.loop-segment-preserved-in-Continue-1
loop-segment-preserved-in-Continue-1 c =
    shown_more c.args.order.now c.loop-segment.yielded c.in-Some.segment c.in-Some-export_of.shown c.loop-segment.volume.items c.push.new.self.items c.loop-segment.invariant c.in_ok-push.ensures.items (sym c.export_of.ensures ∙ c.in-Some-export_of.is)

pub loop-segment-preserved : goal.loop-segment-preserved
loop-segment-preserved c = hidden_more c.args.order.now c.loop-segment.yielded c.in-Some.segment c.loop-segment.volume.items c.loop-segment.invariant (sym c.export_of.ensures ∙ c.in_default.is)
