use Rattle.std.proofs.lemmas.Result.{MatchResult-weaker}
use Rattle.demand.proofs.Naming.{name_run, refused_run}
use Rattle.demand.proofs.name.Goals as goal

pub returns : goal.returns
returns c = MatchResult-weaker c.name.result c.name.ensures (λ name e. name_run _ name.now e) (λ w e. refused_run _ w e)
