use Rattle.std.proofs.Common.{rules}
use Rattle.parser.proofs.Listing.{listing}
use Rattle.parser.proofs.returns.Goals as goal

pub returns-then-equal : goal.returns-then-equal
returns-then-equal c = search (rules, listing)

pub returns : goal.returns
returns c = search (rules, listing)
