use lib.ListN.{length}
use Rattle.abi.proofs.Walks.{SuffixesOut}
use Rattle.abi.proofs.write_suffixes.Given as goal

abbrev pub invariant-loop-left : goal.invariant-loop-left
invariant-loop-left l = SuffixesOut l.b l.initial.out l.left l.n l.out

abbrev pub decreases-loop-left : goal.decreases-loop-left
decreases-loop-left l = length l.left
