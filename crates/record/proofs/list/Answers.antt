use mathlib.Core.Path.{refl}
use Rattle.std.specs.Prelude.{None}
use Rattle.record.proofs.Tops.{list-none, list-other, list-bad, list-placed}
use Rattle.record.proofs.list.Goals as goal

pub returns-in_err-list : goal.returns-in_err-list
returns-in_err-list c = rw c.from_residual.ensures (list-none _ _ None refl c.in_err-list.ensures)

pub returns-then-list-ne-LIST : goal.returns-then-list-ne-LIST
returns-then-list-ne-LIST c = list-other _ _ c.in_ok-list.list c.in_ok-list.ensures c.if-list-ne-LIST.true

pub returns-in_err-fields : goal.returns-in_err-fields
returns-in_err-fields c = rw c.from_residual-in_err-fields.ensures (list-bad _ _ c.in_ok-list.list c.in_ok-list.ensures c.if-list-ne-LIST.false None refl c.in_err-fields.ensures.same)

pub returns : goal.returns
returns c = list-placed _ _ c.in_ok-list.list c.in_ok-list.ensures c.if-list-ne-LIST.false _ refl refl c.in_ok-fields.ensures.same c.in_ok-fields.ensures.small
