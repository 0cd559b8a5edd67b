use lib.ListN.{length}
use Rattle.calldata.proofs.Telling.{Writing}
use Rattle.calldata.proofs.write_heads.Given as goal

abbrev pub invariant-loop-left : goal.invariant-loop-left
invariant-loop-left l = Writing l.b l.initial.out l.left l.n l.out

abbrev pub decreases-loop-left : goal.decreases-loop-left
decreases-loop-left l = length l.left
