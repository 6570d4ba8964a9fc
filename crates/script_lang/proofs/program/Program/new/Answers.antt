use Rattle.std.proofs.Common.{◌≡◌, ap, sym, ◌∙◌, Some, None, refl}
use Rattle.script_lang.specs.Fault.{first_fault}
use Rattle.script_lang.proofs.Faults.{fault_is, fault_only, is_program, has_no_fault}
use Rattle.script_lang.proofs.program.Program.new.Goals as goal

pub invariant_of-result : goal.invariant_of-result
invariant_of-result c =
    is_program c.args.list.items (ap first_fault (sym c.as_slice.ensures.value) ∙ sym c.find_fault.ensures ∙ c.in-None.is)

pub returns-in-Some-clause-fault : goal.returns-in-Some-clause-fault
returns-in-Some-clause-fault c =
    let found : first_fault c.args.list.items ≡ Some c.in-Some.at = ap first_fault (sym c.as_slice.ensures.value) ∙ sym c.find_fault.ensures ∙ c.in-Some.is in
    λ at. (
      λ e. let same : c.in-Some.at ≡ at = cc in fault_is c.args.list.items at (found ∙ ap Some same),
      λ is. let only : first_fault c.args.list.items ≡ Some at = fault_only c.args.list.items at is in let same : c.in-Some.at ≡ at = cc in rw same refl,
    )

pub returns-in-None-clause-program : goal.returns-in-None-clause-program
returns-in-None-clause-program c =
    (refl, is_program c.args.list.items (ap first_fault (sym c.as_slice.ensures.value) ∙ sym c.find_fault.ensures ∙ c.in-None.is))

pub returns-in-None-clause-fault : goal.returns-in-None-clause-fault
returns-in-None-clause-fault c =
    let found : first_fault c.args.list.items ≡ None = ap first_fault (sym c.as_slice.ensures.value) ∙ sym c.find_fault.ensures ∙ c.in-None.is in
    λ at. (λ e. absurd cc, λ is. absurd (let only : first_fault c.args.list.items ≡ Some at = fault_only c.args.list.items at is in cc))

pub returns-in-Some-clause-accepted : goal.returns-in-Some-clause-accepted
returns-in-Some-clause-accepted c =
    let found : first_fault c.args.list.items ≡ Some c.in-Some.at = ap first_fault (sym c.as_slice.ensures.value) ∙ sym c.find_fault.ensures ∙ c.in-Some.is in
    (λ ok. absurd (has_no_fault c.args.list.items c.in-Some.at ok found), λ is. absurd cc)

pub returns-in-None-clause-accepted : goal.returns-in-None-clause-accepted
returns-in-None-clause-accepted c =
    (λ ok. refl, λ is. is_program c.args.list.items (ap first_fault (sym c.as_slice.ensures.value) ∙ sym c.find_fault.ensures ∙ c.in-None.is))
