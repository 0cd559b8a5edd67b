use lib.ListN.{length}
use Rattle.calldata.proofs.Telling.{Counting}
use Rattle.calldata.proofs.heads_length.Given as goal

abbrev pub invariant-loop-left : goal.invariant-loop-left
invariant-loop-left l = Counting l.b l.left l.n

abbrev pub decreases-loop-left : goal.decreases-loop-left
decreases-loop-left l = length l.left
