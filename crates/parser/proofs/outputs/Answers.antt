use Rattle.parser.proofs.Wholes.{outputs-returns, outputs-none}
use Rattle.parser.proofs.outputs.Goals as goal

pub returns-in-Function : goal.returns-in-Function
returns-in-Function c = outputs-returns _ _ _ _ _ c.in-Function.is c.returns.ensures

pub returns-in-Constructor : goal.returns-in-Constructor
returns-in-Constructor c = outputs-none _ _ _ _ c.requires.inside c.in-Constructor.is
