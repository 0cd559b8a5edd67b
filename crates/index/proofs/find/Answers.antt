use Rattle.index.proofs.Searching.{find_none}
use Rattle.index.proofs.find.Goals as goal

pub returns-in_default : goal.returns-in_default
returns-in_default c = find_none _ _ c.in_default.ensures
