use Rattle.record.proofs.Fronts.{front-short, front-unknown, front-none, front-other, front-unmarked, front-unnamed, front-is}
use Rattle.record.proofs.front.Goals.{else-name-eq-NAME-via-then-name-eq-NAME+then-is_mark+else-is_field_name, else-name-eq-NAME-via-then-name-eq-NAME+else-is_mark, else-name-eq-NAME-via-else-name-eq-NAME}
use Rattle.record.proofs.front.Goals as goal

pub returns-in_err-stated : goal.returns-in_err-stated
returns-in_err-stated c = front-short _ _ _ c.from_residual.ensures c.in_err-stated.ensures

pub returns-in_err-mark : goal.returns-in_err-mark
returns-in_err-mark c = front-unknown _ _ c.in_ok-stated.stated c.in_ok-stated.ensures _ c.from_residual-in_err-mark.ensures c.in_err-mark.ensures

pub returns-in_err-name : goal.returns-in_err-name
returns-in_err-name c = front-none _ _ c.in_ok-stated.stated c.in_ok-stated.ensures _ c.from_residual-in_err-name.ensures c.in_err-name.ensures

pub returns-then-is_field_name : goal.returns-then-is_field_name
returns-then-is_field_name c =
    front-is _ _ c.in_ok-stated.stated c.in_ok-stated.ensures c.in_ok-name.name c.in_ok-name.ensures c.in_ok-mark.mark c.in_ok-mark.ensures _ c.is_mark.ensures c.if-name-eq-NAME.true _ c.if-is_mark.true c.is_field_name.ensures c.if-is_field_name.true

pub returns-else-name-eq-NAME : goal.returns-else-name-eq-NAME
returns-else-name-eq-NAME c = elim c.else-name-eq-NAME.branch [
  | else-name-eq-NAME-via-then-name-eq-NAME+then-is_mark+else-is_field_name w ↦
      front-unnamed _ _ c.in_ok-stated.stated c.in_ok-stated.ensures c.in_ok-name.name c.in_ok-name.ensures c.in_ok-mark.mark c.in_ok-mark.ensures _ w.is_mark.ensures w.if-name-eq-NAME.true _ w.if-is_mark.true w.is_field_name.ensures w.if-is_field_name.false
  | else-name-eq-NAME-via-then-name-eq-NAME+else-is_mark w ↦ front-unmarked _ _ c.in_ok-stated.stated c.in_ok-stated.ensures c.in_ok-name.name c.in_ok-name.ensures c.in_ok-mark.mark c.in_ok-mark.ensures _ w.is_mark.ensures w.if-name-eq-NAME.true w.if-is_mark.false
  | else-name-eq-NAME-via-else-name-eq-NAME w ↦ front-other _ _ c.in_ok-stated.stated c.in_ok-stated.ensures c.in_ok-name.name c.in_ok-name.ensures w.if-name-eq-NAME.false
]
