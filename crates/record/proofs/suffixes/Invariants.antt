use lib.ListN.{length}
use Rattle.record.proofs.Walk.{SuffixesLeft}
use Rattle.record.proofs.suffixes.Given as goal

abbrev pub invariant-loop-left : goal.invariant-loop-left
invariant-loop-left l = SuffixesLeft l.b l.left l.n

abbrev pub decreases-loop-left : goal.decreases-loop-left
decreases-loop-left l = length l.left
