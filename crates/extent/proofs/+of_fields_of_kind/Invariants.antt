use lib.ListN.{length}
use Rattle.extent.proofs.Reaches.{Reached}
use Rattle.extent.proofs.+of_fields_of_kind.Given as goal

abbrev pub decreases-of_fields : goal.decreases-of_fields
decreases-of_fields l = length l.b.now

abbrev pub decreases-of_kind : goal.decreases-of_kind
decreases-of_kind l = length l.t.now

abbrev pub invariant-of_fields-loop-left : goal.invariant-of_fields-loop-left
invariant-of_fields-loop-left l = Reached l.b l.left l.e

abbrev pub decreases-of_fields-loop-left : goal.decreases-of_fields-loop-left
decreases-of_fields-loop-left l = length l.left
