use Rattle.parser.proofs.Modifying.{stated-option}
use Rattle.parser.proofs.words.Goals as goal

pub returns-in-Constructor : goal.returns-in-Constructor
returns-in-Constructor c = stated-option _ _ _ _ c.in-Constructor.is c.option.ensures
