use mathlib.Core.Path.{sym}
use lib.Seq.{length-take-le}
use native.Mathlib.Omega.{arith}
use Rattle.report.proofs.Whole.{ends, read-accepted, read-refused}
use Rattle.report.proofs.line.Goals as goal

pub slice_bounds-record-end : goal.slice_bounds-record-end
slice_bounds-record-end c = (read-accepted _ _ _ _ c.read.ensures.says c.read.ensures.left (omega arith) _ c.in-Ok.is).long

pub slice_bounds-accepted-end : goal.slice_bounds-accepted-end
slice_bounds-accepted-end c = sym (length-take-le _ _ (read-accepted _ _ _ _ c.read.ensures.says c.read.ensures.left (omega arith) _ c.in-Ok.is).long)

pub returns-in-Ok-clause-written : goal.returns-in-Ok-clause-written
returns-in-Ok-clause-written c =
    (ends _ _ _ _ _ (read-accepted _ _ _ _ c.read.ensures.says c.read.ensures.left (omega arith) _ c.in-Ok.is).line c.accepted.ensures).0

pub returns-in-Ok-clause-long : goal.returns-in-Ok-clause-long
returns-in-Ok-clause-long c =
    (ends _ _ _ _ _ (read-accepted _ _ _ _ c.read.ensures.says c.read.ensures.left (omega arith) _ c.in-Ok.is).line c.accepted.ensures).1

pub returns-in-Err-clause-written : goal.returns-in-Err-clause-written
returns-in-Err-clause-written c =
    let e = read-refused _ _ _ _ c.read.ensures.says c.read.ensures.left (omega arith) _ _ _ _ c.in-Err.is c.in-Err.field-0-is c.from.ensures in
    (ends _ _ _ _ _ e c.refused.ensures).0

pub returns-in-Err-clause-long : goal.returns-in-Err-clause-long
returns-in-Err-clause-long c =
    let e = read-refused _ _ _ _ c.read.ensures.says c.read.ensures.left (omega arith) _ _ _ _ c.in-Err.is c.in-Err.field-0-is c.from.ensures in
    (ends _ _ _ _ _ e c.refused.ensures).1
