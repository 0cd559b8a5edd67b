use Rattle.kind_call.proofs.Scanning.{stands-blank, stands-first, stands-behind}
use Rattle.kind_call.proofs.stands.Goals as goal
use Rattle.kind_call.proofs.stands.Goals.{then-behind, else-behind}

pub returns-after-behind : goal.returns-after-behind
returns-after-behind c =
    elim c.if-behind.branch [
      | then-behind w ↦ rw (w.result-is, w.if-behind.true) (stands-behind _ _ _ c.blank.ensures.0 _ c.if-blank-eq0.true w.is_letter.ensures)
      | else-behind w ↦ rw (w.result-is, w.if-behind.false) (stands-first _ _ _ c.blank.ensures.0 c.if-blank-eq0.true)
    ]

pub returns-else-blank-eq0 : goal.returns-else-blank-eq0
returns-else-blank-eq0 c = stands-blank _ _ _ c.blank.ensures.0 _ c.if-blank-eq0.false
