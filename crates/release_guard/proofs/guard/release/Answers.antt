use Rattle.std.proofs.Common.{◌≡◌, ◌∙◌, List, Err, sym, ap, subst}
use Rattle.release_guard.specs.declared.order.Release.{Release}
use Rattle.release_guard.specs.Guard.{Volume, exported, guard}
use Rattle.release_guard.specs.Working.{Carries}
use Rattle.volume_image.specs.Valid.{IsVolume}
use Rattle.release_guard.proofs.Causes.{can_release, error_right, error_only, error_refused, value_refused}
use Rattle.release_guard.proofs.Kept.{guard_valid, working_in_table}
use Rattle.release_guard.proofs.guard.release.Goals as goal

pub export_all-requires : goal.export_all-requires
export_all-requires c =
    let carried = rw (c.as_slice.ensures, c.list.ensures) at c.in-Ok.ensures in
    record { export = c.requires.export; classes = working_in_table c.args.order.now c.args.volume.now c.in-Ok.working.items c.requires.volume carried.1 }

pub returns : goal.returns
returns c =
    let carried = rw (c.as_slice.ensures, c.list.ensures) at c.in-Ok.ensures in
    let made : c.new.result ≡ guard c.args.order.now c.args.volume.now = c.new.ensures ∙ c.in_ok-records.ensures ∙ ap (exported c.args.order.now) carried.1 in
    record {
      right = (can_release c.args.order.now.releases c.args.volume.now carried.0, made);
      only = λ can. tt;
      refused = λ line code f. value_refused c.args.order.now c.args.volume.now carried.0 line code f;
      valid = subst (λ (v : Volume). IsVolume c.args.order.now.table v) (sym made) (guard_valid c.args.order.now c.args.volume.now c.requires.volume carried.0);
    }

pub returns-in-Err : goal.returns-in-Err
returns-in-Err c =
    let seen : Carries c.as_slice.result.now c.list.result.now (Err c.in-Err.error) = c.in-Err.ensures in
    let of_order = subst (λ (rs : List Release). Carries rs c.list.result.now (Err c.in-Err.error)) c.as_slice.ensures seen in
    let carried = subst (λ (v : Volume). Carries c.args.order.now.releases v (Err c.in-Err.error)) c.list.ensures of_order in
    record {
      right = error_right c.args.order.now c.args.volume.now c.in-Err.error carried;
      only = error_only c.args.order.now c.args.volume.now c.in-Err.error carried;
      refused = error_refused c.args.order.now c.args.volume.now c.in-Err.error carried;
      valid = tt;
    }
