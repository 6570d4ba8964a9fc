use Rattle.std.proofs.Common.{◌∙◌, ◌++◌, List, ℕ, ap}
use Rattle.std.specs.Prelude.{string_bytes}
use Rattle.whole_machine.specs.Parts.{slots_in}
use Rattle.whole_machine.specs.Texts.{processor_text}
use Rattle.whole_machine.proofs.Pieces.{processes_pieces}
use Rattle.whole_machine.proofs.processes.push_processes.Goals as goal

pub returns : goal.returns
returns c =
    let slots = slots_in c.args.part.now.bank in
    let two = c.in_ok-push_processor-2.ensures ∙ ap (λ (t : List ℕ). t ++ processor_text 1 (slots 1)) c.in_ok-push_processor.ensures in
    let three = c.in_ok-push_processor-3.ensures ∙ ap (λ (t : List ℕ). t ++ processor_text 2 (slots 2)) two in
    c.in_ok-push_processor-4.ensures ∙ ap (λ (t : List ℕ). t ++ processor_text 3 (slots 3)) three ∙ processes_pieces (string_bytes c.args.out.now) slots
