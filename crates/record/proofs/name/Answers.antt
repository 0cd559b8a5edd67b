use mathlib.Core.Path.{refl}
use Rattle.std.specs.Prelude.{None}
use Rattle.record.proofs.Fronts.{name-none, name-other, name-bad, name-placed}
use Rattle.record.proofs.name.Goals.{else-name-eq-NAME-via-then-name-eq-NAME+else-is_word, else-name-eq-NAME-via-else-name-eq-NAME}
use Rattle.record.proofs.name.Goals as goal

pub returns-in_err-name : goal.returns-in_err-name
returns-in_err-name c = rw c.from_residual.ensures (name-none _ None refl c.in_err-name.ensures)

pub returns-then-is_word : goal.returns-then-is_word
returns-then-is_word c = name-placed _ c.in_ok-name.name c.in_ok-name.ensures c.if-name-eq-NAME.true _ c.is_word.ensures c.if-is_word.true

pub returns-else-name-eq-NAME : goal.returns-else-name-eq-NAME
returns-else-name-eq-NAME c = elim c.else-name-eq-NAME.branch [
  | else-name-eq-NAME-via-then-name-eq-NAME+else-is_word w ↦ name-bad _ c.in_ok-name.name c.in_ok-name.ensures w.if-name-eq-NAME.true _ w.is_word.ensures w.if-is_word.false
  | else-name-eq-NAME-via-else-name-eq-NAME w ↦ name-other _ c.in_ok-name.name c.in_ok-name.ensures w.if-name-eq-NAME.false
]
