use lib.ListN.{length}
use Rattle.repeat.proofs.Fields.{Walked}
use Rattle.repeat.proofs.+kinds_lists.Given as goal

abbrev pub decreases-kinds : goal.decreases-kinds
decreases-kinds l = length l.a.now

abbrev pub decreases-lists : goal.decreases-lists
decreases-lists l = length l.a.now

abbrev pub invariant-lists-loop-left : goal.invariant-lists-loop-left
invariant-lists-loop-left l = Walked l.a l.b l.left l.other

abbrev pub decreases-lists-loop-left : goal.decreases-lists-loop-left
decreases-lists-loop-left l = length l.left
