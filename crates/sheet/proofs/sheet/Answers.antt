use Rattle.std.proofs.Common.{refl}
use Rattle.std.proofs.lemmas.Result.{err_from_is_err_and}
use Rattle.sheet.proofs.Judging.{sheet_too_long, sheet_judged, sheet-refused}
use Rattle.sheet.proofs.sheet.Goals as goal

pub returns-then-text-gt-LONGEST_SHEET : goal.returns-then-text-gt-LONGEST_SHEET
returns-then-text-gt-LONGEST_SHEET c = sheet_too_long _ _ _ c.if-text-gt-LONGEST_SHEET.true refl c.into-refused.ensures

pub returns-in_err-seen : goal.returns-in_err-seen
returns-in_err-seen c =
    let p = err_from_is_err_and c.from_residual.result c.from_residual.ensures.1 in
    rw (p.1, p.2) (sheet-refused _ _ c.if-text-gt-LONGEST_SHEET.false _ c.in_err-seen.ensures)

pub returns : goal.returns
returns c = sheet_judged _ _ c.if-text-gt-LONGEST_SHEET.false _ _ c.judge.ensures
