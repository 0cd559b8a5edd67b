use native.Mathlib.Omega.{arith}
use borrow.Author.Rules.{rules}
use Rattle.model.specs.Text.{blank}
use Rattle.text.proofs.Remaining.{left_end, remaining}
use Rattle.text.proofs.blanks_slowly.Goals as goal

pub loop-n-preserved : goal.loop-n-preserved
loop-n-preserved c = search (rules, remaining)

pub returns : goal.returns
returns c = (left_end blank _ _ _ c.loop-n.invariant (omega arith), omega arith)
