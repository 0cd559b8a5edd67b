use Rattle.std.proofs.Common.{arith}
use Rattle.fields.proofs.Ends.{bracket_none, open-inside, bracket_open, bracket_wrong, bracket_is}
use Rattle.fields.proofs.array_suffix.Goals as goal

pub returns-in_err-from : goal.returns-in_err-from
returns-in_err-from c = rw c.from_residual.ensures (bracket_none _ _ _ c.look.ensures c.in_err-from.ensures)

pub slice_bounds-digits-count : goal.slice_bounds-digits-count
slice_bounds-digits-count c = omega (arith, open-inside _ _ _ c.look.ensures _ c.in_ok-from.ensures)

pub slice_bounds-digits-start : goal.slice_bounds-digits-start
slice_bounds-digits-start c = omega (arith, open-inside _ _ _ c.look.ensures _ c.in_ok-from.ensures)

pub look-requires-2 : goal.look-requires-2
look-requires-2 c = omega (arith, open-inside _ _ _ c.look.ensures _ c.in_ok-from.ensures)

pub returns-in_err-next : goal.returns-in_err-next
returns-in_err-next c = rw c.from_residual-in_err-next.ensures (bracket_open _ _ _ c.look.ensures _ c.in_ok-from.ensures _ c.digits.ensures.0 _ c.look-2.ensures c.in_err-next.ensures)

pub returns-in_err-suffix : goal.returns-in_err-suffix
returns-in_err-suffix c = rw c.from_residual-in_err-suffix.ensures (bracket_wrong _ _ _ c.look.ensures _ c.in_ok-from.ensures _ c.digits.ensures.0 _ c.look-2.ensures _ c.in_ok-next.ensures c.in_err-suffix.ensures)

pub returns : goal.returns
returns c = bracket_is _ _ _ c.look.ensures _ c.in_ok-from.ensures _ c.digits.ensures.0 _ c.look-2.ensures _ c.in_ok-next.ensures _ c.in_ok-suffix.ensures
