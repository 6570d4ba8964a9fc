use Rattle.round_laws.proofs.Rounds.{ran}
use Rattle.round_laws.proofs.laws.round_laws.Goals as goal

pub returns : goal.returns
returns c = λ plan m n bound taken laid cycle h. ran c.plain_laws.ensures.run plan m laid cycle n bound taken h
