use mathlib.Core.Path.{sym}
use lib.Seq.{length-take-le}
use Rattle.repeat.proofs.Printing.{print-fits}
use Rattle.index.proofs.Searching.{line-told, line-not}
use Rattle.index.proofs.line_is.Goals as goal

pub slice_bounds-eq-end : goal.slice_bounds-eq-end
slice_bounds-eq-end c = print-fits _ _ _ _ c.canonical.ensures.says c.canonical.ensures.left _ c.in-Ok.is

pub slice_bounds-eq-end-in-Ok : goal.slice_bounds-eq-end-in-Ok
slice_bounds-eq-end-in-Ok c = sym (length-take-le _ _ (print-fits _ _ _ _ c.canonical.ensures.says c.canonical.ensures.left _ c.in-Ok.is))

pub returns-in-Ok : goal.returns-in-Ok
returns-in-Ok c = line-told _ _ _ _ _ c.canonical.ensures.says c.canonical.ensures.left _ c.in-Ok.is _ c.eq.ensures

pub returns-in-Err : goal.returns-in-Err
returns-in-Err c = line-not _ _ _ _ _ c.canonical.ensures.says c.canonical.ensures.left c.requires _ _ c.in-Err.is
