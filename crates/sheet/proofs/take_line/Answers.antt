use Rattle.std.proofs.Common.{sym, ◌∙◌}
use Rattle.std.proofs.lemmas.Result.{err_from_is_err_and}
use lib.Seq.{length-take-le}
use Rattle.sheet.proofs.Reading.{read_fits}
use Rattle.sheet.proofs.Taking.{take-blank, take-bad, take-asks, take-read}
use Rattle.sheet.proofs.take_line.Goals as goal

pub returns-then-is_blank : goal.returns-then-is_blank
returns-then-is_blank c = take-blank _ _ _ _ _ _ _ (sym c.is_blank.ensures ∙ c.if-is_blank.true)

pub returns-in_err-length : goal.returns-in_err-length
returns-in_err-length c =
    let p = err_from_is_err_and c.from_residual.result c.from_residual.ensures.1 in
    rw (p.1, p.2) (take-bad _ _ _ _ _ _ _ (sym c.is_blank.ensures ∙ c.if-is_blank.false) _ c.read.ensures.says _ c.read.ensures.left _ c.in_err-length.was)

pub slice_bounds-count-end : goal.slice_bounds-count-end
slice_bounds-count-end c = read_fits _ _ _ _ c.read.ensures.says c.read.ensures.left _ c.in_ok-length.was

pub slice_bounds-count-end-2 : goal.slice_bounds-count-end-2
slice_bounds-count-end-2 c = sym (length-take-le _ _ (read_fits _ _ _ _ c.read.ensures.says c.read.ensures.left _ c.in_ok-length.was))

pub count-requires : goal.count-requires
count-requires c = take-asks _ _ _ _ _ _ _ (sym c.is_blank.ensures ∙ c.if-is_blank.false) _ c.read.ensures.says _ c.read.ensures.left _ c.in_ok-length.was c.requires

pub returns : goal.returns
returns c = take-read _ _ _ _ _ _ _ (sym c.is_blank.ensures ∙ c.if-is_blank.false) _ c.read.ensures.says _ c.read.ensures.left _ c.in_ok-length.was _ c.count.ensures
