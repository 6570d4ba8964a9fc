use Rattle.loader.specs.Loading.{loaded_bank}
use Rattle.loader.proofs.Lists.{made_more}
use Rattle.loader.proofs.processors.banks_seen.Goals as goal

pub loop-processor-preserved : goal.loop-processor-preserved
loop-processor-preserved c = made_more (loaded_bank c.args.config.now c.args.view) c.loop-processor.processor c.loop-processor.banks.items c.push.new.self.items c.in_ok-bank_seen.field-0 c.loop-processor.invariant c.in_ok-push.ensures.items c.in_ok-bank_seen.ensures
