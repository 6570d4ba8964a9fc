-- The laws of what is shown.
use Rattle.std.proofs.Common.{◌∙◌}
use Rattle.class_model.specs.Config.{low_config}
use Rattle.class_model.specs.Run.{run}
use Rattle.machine.specs.Low.{low_events}
use Rattle.machine.specs.Opening.{machine, opening, effects}
use Rattle.flow_laws.specs.Flow.{GoAlike}
use Rattle.flow_laws.proofs.FlowLaws.{runs_go_on_alike, nothing_flows_down}
use Rattle.report_laws.specs.Shown.{ShowsWhatIsLow, ShowsByLowParts, ShowsNothingElse, ShowsWhatItStandsFor, ShowsLowSections, ShowsWhoIsLive}
use Rattle.report_laws.proofs.LiveSections.{live_is_seen}
use Rattle.report_laws.proofs.LowSections.{section_low}
use Rattle.report_laws.proofs.SameSections.{section_stands}

pub shows_what_is_low : ShowsWhatIsLow
shows_what_is_low = section_low

pub shows_by_low_parts : ShowsByLowParts
shows_by_low_parts k valid events c =
    let go : GoAlike c (opening k) (opening (low_config c k)) events = runs_go_on_alike k valid events c in
    section_low c (machine k events) (machine (low_config c k) (low_events k.table c events)) go.parts

pub shows_nothing_else : ShowsNothingElse
shows_nothing_else k j valid_k valid_j events others c low same =
    section_low c (machine k events) (machine j others) (nothing_flows_down k j valid_k valid_j events others c low same)

pub shows_what_it_stands_for : ShowsWhatItStandsFor
shows_what_it_stands_for m a c stands shown = section_stands m a c stands shown

pub shows_low_sections : ShowsLowSections
shows_low_sections k valid events c stands shown =
    shows_by_low_parts k valid events c
    ∙ section_stands (machine (low_config c k) (low_events k.table c events)) (run (low_config c k) (effects (low_config c k) (low_events k.table c events))) c stands shown

pub shows_who_is_live : ShowsWhoIsLive
shows_who_is_live = live_is_seen
