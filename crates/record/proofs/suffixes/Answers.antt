use borrow.Author.Rules.{rules}
use Rattle.record.proofs.Walk.{suffixes-end, suffixes-none, suffixes-bad}
use Rattle.record.proofs.suffixes.Goals as goal

pub returns-in_err-piece-clause-same : goal.returns-in_err-piece-clause-same
returns-in_err-piece-clause-same c = rw c.from_residual.ensures (suffixes-none _ _ _ c.loop-left.invariant (search rules) c.in_err-piece.ensures)

pub returns-in_err-n-clause-same : goal.returns-in_err-n-clause-same
returns-in_err-n-clause-same c = rw c.from_residual-in_err-n.ensures (suffixes-bad _ _ _ c.loop-left.invariant (search rules) _ c.in_ok-piece.ensures (search rules))

pub returns-clause-same : goal.returns-clause-same
returns-clause-same c = suffixes-end _ _ _ c.loop-left.invariant (search rules)
