use lib.ListN.{length}
use Rattle.static_kinds.proofs.Leaves.{Copying}
use Rattle.static_kinds.proofs.copies.Given as goal

abbrev pub invariant-loop-left : goal.invariant-loop-left
invariant-loop-left l = Copying l.suffixes l.left l.n

abbrev pub decreases-loop-left : goal.decreases-loop-left
decreases-loop-left l = length l.left
