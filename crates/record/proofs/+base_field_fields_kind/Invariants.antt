use Prim.Native.Nat.{◌+◌, ◌*◌}
use lib.ListN.{length}
use Rattle.record.proofs.Walk.{FieldsLeft}
use Rattle.record.proofs.+base_field_fields_kind.Given as goal

abbrev pub decreases-base : goal.decreases-base
decreases-base l = 4 * l.d

abbrev pub decreases-kind : goal.decreases-kind
decreases-kind l = 4 * l.d + 1

abbrev pub decreases-field : goal.decreases-field
decreases-field l = 4 * l.d + 2

abbrev pub decreases-fields : goal.decreases-fields
decreases-fields l = 4 * l.d + 3

abbrev pub invariant-fields-loop-left : goal.invariant-fields-loop-left
invariant-fields-loop-left l = FieldsLeft l.sort l.d l.b l.left l.n

abbrev pub decreases-fields-loop-left : goal.decreases-fields-loop-left
decreases-fields-loop-left l = length l.left
