use Rattle.std.proofs.Common.{◌≡◌, ◌&&◌, true, not, [], sym, subst}
use Rattle.loader.specs.Records.{AreVolumes, Volumes, names_volume}
use Rattle.worked_mail.proofs.NoVolume.{no_volume}
use Rattle.worked_mail.proofs.mail.no_volumes.Goals as goal

pub returns : goal.returns
returns c =
    let k = c.args.config.now in
    let none : (not (names_volume k 1) && not (names_volume k 2) && not (names_volume k 3) && not (names_volume k 4)) ≡ true = cc (c.has_none.ensures, c.if-not-has_none.ensures) in
    subst (AreVolumes k) (sym c.new.ensures.items) (no_volume k none)
