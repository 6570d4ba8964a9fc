use Rattle.std.proofs.Common.{◌≡◌, ◌&&◌, true, not, [], ◌∷◌, ◌++◌, sym, subst, ap, ◌∙◌}
use Rattle.loader.specs.Records.{AreVolumes, Volumes, names_volume}
use Rattle.both_machines.proofs.OneVolume.{one_volume}
use Rattle.both_machines.proofs.loaded.alone.Goals as goal

pub returns : goal.returns
returns c =
    let k = c.args.config.now in
    let one : (names_volume k 1 && not (names_volume k 2) && not (names_volume k 3) && not (names_volume k 4)) ≡ true = cc (c.has_one.ensures, c.if-not-has_one.ensures) in
    let items : c.push.new.self.items ≡ (1, c.args.volume) ∷ [] = c.in_ok-push.ensures.items ∙ ap (λ (t : Volumes). t ++ (1, c.args.volume) ∷ []) c.new-volumes.ensures.items in
    subst (AreVolumes k) (sym items) (one_volume k c.args.volume c.requires one)
