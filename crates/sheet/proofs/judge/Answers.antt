use Rattle.std.proofs.Common.{arith, refl}
use Rattle.sheet.proofs.Judging.{judge_crowded, judge_repeated, judge_full, judge_small, judge_written}
use Rattle.sheet.proofs.judge.Goals as goal

pub returns-in-Some : goal.returns-in-Some
returns-in-Some c = judge_crowded _ _ c.requires _ _ c.in-Some.is c.into-refused.ensures

pub returns-in-Some-repeated : goal.returns-in-Some-repeated
returns-in-Some-repeated c = judge_repeated _ _ c.requires _ c.in_default.is _ c.in-Some-repeated.is c.into-refused-in-Some-repeated.ensures

pub returns-then-record-length : goal.returns-then-record-length
returns-then-record-length c = judge_full _ _ c.requires _ c.in_default.is c.in_default-repeated.is _ c.if-record-length.true refl c.into-refused-then-record-length.ensures

pub overflow_add-result : goal.overflow_add-result
overflow_add-result c =
    let l = judge_small _ _ c.requires _ c.in_default.is c.in_default-repeated.is _ c.if-record-length.false c.header.ensures _ _ c.write_lines.ensures in
    record { fits = omega (arith, l) }

pub returns : goal.returns
returns c = judge_written _ _ c.requires _ c.in_default.is c.in_default-repeated.is _ c.if-record-length.false c.header.ensures _ _ c.write_lines.ensures
