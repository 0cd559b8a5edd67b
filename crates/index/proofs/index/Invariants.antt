use lib.ListN.{length}
use Rattle.index.proofs.Walking.{Walking}
use Rattle.index.proofs.index.Given as goal

abbrev pub invariant-loop-left : goal.invariant-loop-left
invariant-loop-left l = Walking l.sheet l.left l.notes

abbrev pub decreases-loop-left : goal.decreases-loop-left
decreases-loop-left l = length l.left
