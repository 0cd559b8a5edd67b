use Prim.Native.Nat.{◌+◌, ◌*◌}
use lib.ListN.{length}
use Rattle.abi.proofs.Lists.{FieldsOut}
use Rattle.abi.proofs.+write_base_write_fields_write_kind.Given as goal

abbrev pub decreases-write_base : goal.decreases-write_base
decreases-write_base l = 2 * length l.body.now + 1

abbrev pub decreases-write_fields : goal.decreases-write_fields
decreases-write_fields l = 2 * length l.b.now

abbrev pub decreases-write_kind : goal.decreases-write_kind
decreases-write_kind l = 2 * length l.t.now

abbrev pub invariant-write_fields-loop-left : goal.invariant-write_fields-loop-left
invariant-write_fields-loop-left l = FieldsOut l.b l.initial.out l.left l.n l.out

abbrev pub decreases-write_fields-loop-left : goal.decreases-write_fields-loop-left
decreases-write_fields-loop-left l = length l.left
