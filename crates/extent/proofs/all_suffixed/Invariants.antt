use lib.ListN.{length}
use Rattle.extent.proofs.Reaches.{Wrapped}
use Rattle.extent.proofs.all_suffixed.Given as goal

abbrev pub invariant-loop-left : goal.invariant-loop-left
invariant-loop-left l = Wrapped l.suffixes l.fn.base l.left l.e

abbrev pub decreases-loop-left : goal.decreases-loop-left
decreases-loop-left l = length l.left
