use lib.ListN.{length}
use Rattle.full.proofs.Measuring.{Counted}
use Rattle.full.proofs.+extra_field_extra_fields_extra_kind.Given as goal

abbrev pub decreases-extra_field : goal.decreases-extra_field
decreases-extra_field l = length l.body.now

abbrev pub decreases-extra_fields : goal.decreases-extra_fields
decreases-extra_fields l = length l.b.now

abbrev pub decreases-extra_kind : goal.decreases-extra_kind
decreases-extra_kind l = length l.t.now

abbrev pub invariant-extra_fields-loop-left : goal.invariant-extra_fields-loop-left
invariant-extra_fields-loop-left l = Counted l.b l.left l.n

abbrev pub decreases-extra_fields-loop-left : goal.decreases-extra_fields-loop-left
decreases-extra_fields-loop-left l = length l.left
