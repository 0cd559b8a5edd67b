use mathlib.Core.Path.{refl}
use Rattle.repeat.proofs.Whole.{line-headed, line_is}
use Rattle.repeat.proofs.line_of.Goals as goal

pub first-requires : goal.first-requires
first-requires c = line-headed _ c.requires _ c.in_ok-name.ensures

pub returns : goal.returns
returns c = line_is _ _ _ _ c.in_ok-name.ensures c.first.ensures refl refl
