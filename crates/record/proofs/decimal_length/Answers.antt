use borrow.Author.Rules.{rules}
use Rattle.record.proofs.Lengths.{counted_next}
use Rattle.record.proofs.decimal_length.Goals as goal

pub loop-rest-preserved : goal.loop-rest-preserved
loop-rest-preserved c = search (rules, counted_next)
