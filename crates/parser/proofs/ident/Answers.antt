use Rattle.std.proofs.Common.{rules}
use Rattle.parser.proofs.Wording.{wording}
use Rattle.parser.proofs.ident.Goals as goal

pub returns-then-is_empty : goal.returns-then-is_empty
returns-then-is_empty c = search (rules, wording)

pub returns : goal.returns
returns c = search (rules, wording)
