use native.Mathlib.Omega.{arith}
use Rattle.report.proofs.Whole.{declared, line-asks, line-inside, line-put, constructor-put, nothing-put}
use Rattle.report.proofs.accepted.Goals as goal

pub returns-in_default : goal.returns-in_default
returns-in_default c = nothing-put _ c.in_default.ensures.says.0 _

pub write_line-requires : goal.write_line-requires
write_line-requires c =
    let w = declared _ _ _ _ _ (rw c.in-Declared.is at c.in-Some.ensures.says).0 in
    line-asks _ _ _ _ w _ _ _ c.front-n.ensures.written c.front-n.ensures.short c.requires

pub overflow_add-result : goal.overflow_add-result
overflow_add-result c =
    let w = declared _ _ _ _ _ (rw c.in-Declared.is at c.in-Some.ensures.says).0 in
    omega (arith, line-inside _ _ _ _ w _ _ _ c.front-n.ensures.written c.front-n.ensures.short c.requires _ _ c.write_line.ensures)

pub returns-in-Declared : goal.returns-in-Declared
returns-in-Declared c =
    let w = declared _ _ _ _ _ (rw c.in-Declared.is at c.in-Some.ensures.says).0 in
    line-put _ _ _ _ w _ _ _ c.front-n.ensures.written c.front-n.ensures.short c.requires _ _ c.write_line.ensures

pub returns-in-Constructor : goal.returns-in-Constructor
returns-in-Constructor c =
    let w = (rw c.in-Constructor.is at c.in-Some.ensures.says).0 in
    let front = c.front-n-in-Constructor.ensures in
    constructor-put _ _ w _ _ _ _ _ front.written (omega (arith, front.short, c.requires)) c.write_word.ensures

pub returns-in-Field : goal.returns-in-Field
returns-in-Field c = nothing-put _ (rw c.in-Field.is at c.in-Some.ensures.says).0 _
