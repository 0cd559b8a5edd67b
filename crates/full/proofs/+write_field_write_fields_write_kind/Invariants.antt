use lib.ListN.{length}
use Rattle.full.proofs.Writing.{FullOut}
use Rattle.full.proofs.+write_field_write_fields_write_kind.Given as goal

abbrev pub decreases-write_field : goal.decreases-write_field
decreases-write_field l = length l.body.now

abbrev pub decreases-write_fields : goal.decreases-write_fields
decreases-write_fields l = length l.b.now

abbrev pub decreases-write_kind : goal.decreases-write_kind
decreases-write_kind l = length l.t.now

abbrev pub invariant-write_fields-loop-left : goal.invariant-write_fields-loop-left
invariant-write_fields-loop-left l = FullOut l.b l.initial.out l.left l.out l.n

abbrev pub decreases-write_fields-loop-left : goal.decreases-write_fields-loop-left
decreases-write_fields-loop-left l = length l.left
