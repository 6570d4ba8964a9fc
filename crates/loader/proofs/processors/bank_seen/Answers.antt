use Rattle.loader.specs.Loading.{loaded_vp}
use Rattle.loader.proofs.Lists.{made_more}
use Rattle.loader.proofs.processors.bank_seen.Goals as goal

pub loop-class-preserved : goal.loop-class-preserved
loop-class-preserved c = made_more (loaded_vp c.args.config.now c.args.view c.args.processor) c.loop-class.class c.loop-class.bank.items c.push.new.self.items c.in_ok-virtual_processor_seen.field-0 c.loop-class.invariant c.in_ok-push.ensures.items c.in_ok-virtual_processor_seen.ensures
