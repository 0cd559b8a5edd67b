use Rattle.std.proofs.Common.{rules}
use Rattle.parser.proofs.Wording.{wording}
use Rattle.parser.proofs.keyword.Goals as goal

pub returns-then-equal : goal.returns-then-equal
returns-then-equal c = search (rules, wording)

pub returns : goal.returns
returns c = search (rules, wording)
