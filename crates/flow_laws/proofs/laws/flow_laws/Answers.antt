use Rattle.flow_laws.proofs.FlowLaws.{parts_are_valid, machines_go_on_alike, processes_fit, openings_agree, runs_go_on_alike, nothing_flows_down}
use Rattle.flow_laws.proofs.laws.flow_laws.Goals as goal

pub returns-clause-parts : goal.returns-clause-parts
returns-clause-parts c = parts_are_valid

pub returns-clause-machines : goal.returns-clause-machines
returns-clause-machines c = machines_go_on_alike

pub returns-clause-fitting : goal.returns-clause-fitting
returns-clause-fitting c = processes_fit

pub returns-clause-openings : goal.returns-clause-openings
returns-clause-openings c = openings_agree

pub returns-clause-runs : goal.returns-clause-runs
returns-clause-runs c = runs_go_on_alike

pub returns-clause-nothing_down : goal.returns-clause-nothing_down
returns-clause-nothing_down c = nothing_flows_down
