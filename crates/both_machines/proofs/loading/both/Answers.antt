use Rattle.std.proofs.Common.{◌≡◌, ◌&&◌, not, true, [], ◌∷◌, ◌++◌, sym, subst, ap, ◌∙◌}
use Rattle.loader.specs.Records.{AreVolumes, Volumes, names_volume}
use Rattle.both_machines.proofs.TwoVolumes.{two_volumes}
use Rattle.both_machines.proofs.loading.both.Goals as goal

pub returns : goal.returns
returns c =
    let k = c.args.config.now in
    let two : (names_volume k 1 && names_volume k 2 && not (names_volume k 3) && not (names_volume k 4)) ≡ true = cc (c.has_two.ensures, c.if-not-has_two.ensures) in
    let one : c.push.new.self.items ≡ (1, c.args.first) ∷ [] = c.in_ok-push.ensures.items ∙ ap (λ (t : Volumes). t ++ (1, c.args.first) ∷ []) c.new-volumes.ensures.items in
    let both : c.push-2.new.self.items ≡ (1, c.args.first) ∷ (2, c.args.second) ∷ [] = c.in_ok-push-2.ensures.items ∙ ap (λ (t : Volumes). t ++ (2, c.args.second) ∷ []) one in
    subst (AreVolumes c.args.config.now) (sym both) (two_volumes c.args.config.now c.args.first c.args.second c.requires.first c.requires.second two)
