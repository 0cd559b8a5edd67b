use Rattle.parser.proofs.Wholes.{name-ident, name-none}
use Rattle.parser.proofs.name.Goals as goal

pub returns-in-Constructor : goal.returns-in-Constructor
returns-in-Constructor c = name-none _ _ _ _ c.requires.inside c.in-Constructor.is

pub returns-in-Function : goal.returns-in-Function
returns-in-Function c = name-ident _ _ _ _ _ c.in-Function.is c.ident.ensures
