use Rattle.std.proofs.Common.{arith}
use Rattle.std.proofs.lemmas.Result.{err_from_is_err_and}
use Rattle.fields.proofs.Family.{field-leaf, tuple-place, tuple_room, field-deep, field-failed, field-named, tuple-failed, tuple-got, so_start, list-deep, list-open, list-shut, list-unclosed, list-closed, list-past, list-next}
use Rattle.fields.proofs.+field_list_tuple.Goals as goal

pub field-returns-then-ne : goal.field-returns-then-ne
field-returns-then-ne t c = field-leaf _ _ _ _ _ c.look-seen.ensures _ _ c.if-ne.ensures c.leaf.ensures

pub field-returns-then-d-eq0 : goal.field-returns-then-d-eq0
field-returns-then-d-eq0 t c = field-deep _ _ _ _ _ c.look-seen.ensures c.if-ne.ensures _ c.if-d-eq0.true

pub field-slice_bounds-tuple-count : goal.field-slice_bounds-tuple-count
field-slice_bounds-tuple-count t c = omega (arith, tuple-place _ _ _ c.look-seen.ensures c.if-ne.ensures)

pub field-slice_bounds-tuple-start : goal.field-slice_bounds-tuple-start
field-slice_bounds-tuple-start t c = omega (arith, tuple-place _ _ _ c.look-seen.ensures c.if-ne.ensures)

pub field-tuple-requires : goal.field-tuple-requires
field-tuple-requires t c = (omega arith, (tuple_room _ _ _ c.look-seen.ensures c.if-ne.ensures _ _ c.if-d-eq0.false c.requires, tuple-place _ _ _ c.look-seen.ensures c.if-ne.ensures))

pub field-returns-in_err-kind : goal.field-returns-in_err-kind
field-returns-in_err-kind t c =
    let p = err_from_is_err_and c.from_residual.result c.from_residual.ensures.1 in
    rw (p.1, p.2) (field-failed _ _ _ _ _ c.look-seen.ensures c.if-ne.ensures c.if-d-eq0.false _ _ _ c.in_err-kind.ensures)

pub field-returns : goal.field-returns
field-returns t c = field-named _ _ _ _ _ c.look-seen.ensures c.if-ne.ensures c.if-d-eq0.false _ _ _ _ _ _ (omega (arith, tuple-place _ _ _ c.look-seen.ensures c.if-ne.ensures)) c.in_ok-kind.ensures c.name_tuple.ensures

pub tuple-returns-in_err-fields : goal.tuple-returns-in_err-fields
tuple-returns-in_err-fields t c =
    let p = err_from_is_err_and c.from_residual.result c.from_residual.ensures.1 in
    rw (p.1, p.2) (tuple-failed _ _ _ _ _ _ c.in_err-fields.ensures)

pub tuple-returns : goal.tuple-returns
tuple-returns t c = tuple-got _ _ _ _ _ _ _ _ _ _ _ (omega arith) c.in_ok-fields.ensures c.header.ensures c.suffixes-behind.ensures

pub list-loop-got-init : goal.list-loop-got-init
list-loop-got-init t c = so_start _ _ _ _ _ c.requires

pub list-returns-in_err-next-in-Ok : goal.list-returns-in_err-next-in-Ok
list-returns-in_err-next-in-Ok t c =
    let p = err_from_is_err_and c.from_residual.result c.from_residual.ensures.1 in
    rw (p.1, p.2) (list-unclosed _ _ _ _ _ _ _ _ c.loop-got.invariant _ 0 _ c.in-Ok.ensures _ c.look-seen.ensures c.in_default.ensures _ _ c.in_err-next-in-Ok.ensures)

pub list-returns-in_default : goal.list-returns-in_default
list-returns-in_default t c = list-closed _ _ _ _ _ _ _ _ c.loop-got.invariant _ _ _ c.in-Ok.ensures _ c.look-seen.ensures c.in_default.ensures _ c.in_ok-next-in-Ok.ensures

pub list-loop-got-smaller : goal.list-loop-got-smaller
list-loop-got-smaller t c = omega (arith, list-past _ _ _ _ _ _ _ _ c.loop-got.invariant _ 0 _ c.in-Ok.ensures _ c.look-seen.ensures _ c.in-Some.ensures)

pub list-loop-got-preserved : goal.list-loop-got-preserved
list-loop-got-preserved t c = list-next _ _ _ _ _ _ _ _ c.loop-got.invariant _ _ _ c.in-Ok.ensures _ c.look-seen.ensures _ c.in-Some.ensures c.field.auto.out

pub list-returns-in_err-next-in-Err-Bad : goal.list-returns-in_err-next-in-Err-Bad
list-returns-in_err-next-in-Err-Bad t c =
    let p = err_from_is_err_and c.from_residual-in_err-next-in-Err-Bad.result c.from_residual-in_err-next-in-Err-Bad.ensures.1 in
    rw (p.1, p.2) (list-open _ _ _ _ _ _ _ _ c.loop-got.invariant _ 0 _ (rw c.in-Err-Bad.field-0-is at c.in-Err-Bad.ensures) _ c.look.ensures _ _ c.in_err-next-in-Err-Bad.ensures)

pub list-returns-in-Err-Bad : goal.list-returns-in-Err-Bad
list-returns-in-Err-Bad t c = list-shut _ _ _ _ _ _ _ _ c.loop-got.invariant _ _ _ (rw c.in-Err-Bad.field-0-is at c.in-Err-Bad.ensures) _ c.look.ensures _ c.in_ok-next-in-Err-Bad.ensures

pub list-returns-in-Err-Deep : goal.list-returns-in-Err-Deep
list-returns-in-Err-Deep t c = rw c.in-Err-Deep.field-0-is (list-deep _ _ _ _ _ _ _ _ c.loop-got.invariant _ 0 _ c.in-Err-Deep.at (rw c.in-Err-Deep.field-0-is at c.in-Err-Deep.ensures))
