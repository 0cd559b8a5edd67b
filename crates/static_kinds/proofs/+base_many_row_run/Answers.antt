use native.Mathlib.Omega.{arith}
use Rattle.record.proofs.Standing.{kind-headed}
use Rattle.static_kinds.proofs.Running.{row-asks, leaf-asks, row-ends, leaf-ends, going_start, going_end, going_none, going_still, going_next, base-asks, copies-ask, many-end, pass_end, pass_headed, pass_named, pass_asks, pass_less, pass_none, pass_next}
use Rattle.static_kinds.proofs.+base_many_row_run.Goals as goal

pub base-row-requires : goal.base-row-requires
base-row-requires t c = (omega arith, (row-asks c.args.t c.if-t-eq-TUPLE.true c.requires.0, c.requires.1))

pub base-leaf-requires : goal.base-leaf-requires
base-leaf-requires t c = (leaf-asks c.args.t c.if-t-eq-TUPLE.false c.requires.0, c.requires.1)

pub base-returns-then-t-eq-TUPLE : goal.base-returns-then-t-eq-TUPLE
base-returns-then-t-eq-TUPLE t c = row-ends c.args.t _ _ _ c.if-t-eq-TUPLE.true c.requires.1.inside c.row.ensures

pub base-returns-else-t-eq-TUPLE : goal.base-returns-else-t-eq-TUPLE
base-returns-else-t-eq-TUPLE t c = leaf-ends c.args.t _ _ _ c.if-t-eq-TUPLE.false c.leaf.ensures

pub many-first-base-requires : goal.many-first-base-requires
many-first-base-requires t c = kind-headed _ (c.requires.0.0, c.requires.0.1.is)

pub many-copies-requires : goal.many-copies-requires
many-copies-requires t c = copies-ask c.first-base.ensures c.requires.0

pub many-run-requires : goal.many-run-requires
many-run-requires t c = (omega (arith, c.first-base.ensures.covers), (base-asks c.first-base.ensures c.requires.0, c.requires.1))

pub many-returns : goal.many-returns
many-returns t c = many-end c.first-base.ensures _ _ c.args.count _ _ _ c.requires.1.inside c.copies.ensures c.times.ensures.0 c.run.ensures

pub row-first-field-requires : goal.row-first-field-requires
row-first-field-requires t c = pass_headed c.loop-left.invariant c.loop-left-test.ensures

pub row-named-requires : goal.row-named-requires
row-named-requires t c = pass_named c.loop-left.invariant c.loop-left-test.ensures c.first-field.ensures

pub row-many-requires : goal.row-many-requires
row-many-requires t c = (
  omega (arith, pass_less c.loop-left.invariant c.loop-left-test.ensures c.first-field.ensures c.named.ensures),
  (pass_asks c.loop-left.invariant c.loop-left-test.ensures c.first-field.ensures c.named.ensures, c.loop-left.invariant.place),
)

pub row-returns-in_err-p : goal.row-returns-in_err-p
row-returns-in_err-p t c =
    pass_none c.loop-left.invariant c.loop-left-test.ensures c.first-field.ensures c.named.ensures _ c.many.ensures c.in_err-p.was _ c.from_residual.ensures

pub row-loop-left-preserved : goal.row-loop-left-preserved
row-loop-left-preserved t c =
    pass_next c.loop-left.invariant c.loop-left-test.ensures c.first-field.ensures c.named.ensures _ c.many.ensures _ c.in_ok-p.was

pub row-returns : goal.row-returns
row-returns t c = pass_end c.loop-left.invariant c.loop-left-test.ensures

pub run-loop-init : goal.run-loop-init
run-loop-init t c = going_start c.requires.1

pub run-base-requires : goal.run-base-requires
run-base-requires t c = (omega arith, (c.requires.0, c.loop.invariant.place))

pub run-returns-in_err-q : goal.run-returns-in_err-q
run-returns-in_err-q t c = going_none c.loop.invariant c.loop-test.true _ c.base.ensures c.in_err-q.was _ c.from_residual.ensures

pub run-returns-then-q-p : goal.run-returns-then-q-p
run-returns-then-q-p t c = going_still c.loop.invariant c.loop-test.true _ c.base.ensures _ c.in_ok-q.was c.if-q-p.true

pub run-loop-preserved : goal.run-loop-preserved
run-loop-preserved t c = going_next c.loop.invariant c.loop-test.true _ c.base.ensures _ c.in_ok-q.was c.requires.0 c.if-q-p.false

pub run-returns : goal.run-returns
run-returns t c = going_end c.loop.invariant (omega arith)
