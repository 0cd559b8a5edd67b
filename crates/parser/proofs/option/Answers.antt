use Rattle.std.proofs.Common.{rules}
use Rattle.parser.proofs.Wording.{wording}
use Rattle.parser.proofs.option.Goals as goal

pub returns-in-Some : goal.returns-in-Some
returns-in-Some c = search (rules, wording)

pub returns-in-None : goal.returns-in-None
returns-in-None c = search (rules, wording)
