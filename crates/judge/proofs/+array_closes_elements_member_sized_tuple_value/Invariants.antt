use Prim.Native.Nat.{◌+◌, ◌*◌}
use lib.ListN.{length}
use Rattle.judge.specs.Steps.{Heads, open_length}
use Rattle.judge.proofs.Joining.{Judging}
use Rattle.judge.proofs.Diving.{Deep}
use Rattle.judge.proofs.Choosing.{Chosen}
use Rattle.judge.proofs.+array_closes_elements_member_sized_tuple_value.Given as goal

abbrev pub decreases-array : goal.decreases-array
decreases-array l = 8 * length l.t.now + 10

abbrev pub decreases-closes : goal.decreases-closes
decreases-closes l = 8 * open_length l.o.kind + 9

abbrev pub decreases-elements : goal.decreases-elements
decreases-elements l = 8 * length l.t.now + 8

abbrev pub decreases-member : goal.decreases-member
decreases-member l = 8 * open_length l.o.kind + 10

abbrev pub decreases-sized : goal.decreases-sized
decreases-sized l = 8 * length l.t.now + 9

abbrev pub decreases-tuple : goal.decreases-tuple
decreases-tuple l = 8 * length l.b.now + 11

abbrev pub decreases-value : goal.decreases-value
decreases-value l = 8 * length l.t.now + 7

abbrev pub invariant-elements-loop-i : goal.invariant-elements-loop-i
invariant-elements-loop-i l = (w : Heads l.t l.d l.count) × Chosen w l.i l.start l.most

abbrev pub invariant-tuple-loop-left : goal.invariant-tuple-loop-left
invariant-tuple-loop-left l = Judging l.b l.d l.left l.o

abbrev pub decreases-tuple-loop-left : goal.decreases-tuple-loop-left
decreases-tuple-loop-left l = length l.left

abbrev pub invariant-value-loop-kind : goal.invariant-value-loop-kind
invariant-value-loop-kind l = Deep l.t l.d l.kind l.part

abbrev pub decreases-value-loop-kind : goal.decreases-value-loop-kind
decreases-value-loop-kind l = length l.kind
