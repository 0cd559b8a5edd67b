use Prim.Native.Nat.{◌+◌}
use lib.ListN.{length}
use Rattle.static_kinds.proofs.Running.{Going, Passing}
use Rattle.static_kinds.proofs.+base_many_row_run.Given as goal

abbrev pub decreases-base : goal.decreases-base
decreases-base l = length l.t.body.now + 1

abbrev pub decreases-many : goal.decreases-many
decreases-many l = length l.t.now

abbrev pub decreases-row : goal.decreases-row
decreases-row l = length l.b.now

abbrev pub decreases-run : goal.decreases-run
decreases-run l = length l.t.body.now + 2

abbrev pub invariant-row-loop-left : goal.invariant-row-loop-left
invariant-row-loop-left l = Passing l.b l.data l.at l.left l.p

abbrev pub decreases-row-loop-left : goal.decreases-row-loop-left
decreases-row-loop-left l = length l.left

abbrev pub invariant-run-loop : goal.invariant-run-loop
invariant-run-loop l = Going l.fn.t l.data l.at l.count l.counter l.p
