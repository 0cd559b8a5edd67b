use mathlib.Core.Path.{sym}
use lib.Seq.{length-take-le}
use Rattle.repeat.proofs.Printing.{print-fits, print-written, print-refused}
use Rattle.repeat.proofs.print_checked.Goals as goal

pub slice_bounds-print-end : goal.slice_bounds-print-end
slice_bounds-print-end c = print-fits _ _ _ _ c.canonical.ensures.says c.canonical.ensures.left _ c.in-Ok.is

pub slice_bounds-print-end-in-Ok : goal.slice_bounds-print-end-in-Ok
slice_bounds-print-end-in-Ok c = sym (length-take-le _ _ (print-fits _ _ _ _ c.canonical.ensures.says c.canonical.ensures.left _ c.in-Ok.is))

pub returns-in-Ok : goal.returns-in-Ok
returns-in-Ok c = print-written _ _ _ _ c.canonical.ensures.says c.canonical.ensures.left _ _ c.in-Ok.is c.print.ensures

pub returns-in-Err : goal.returns-in-Err
returns-in-Err c = print-refused _ _ _ _ c.canonical.ensures.says c.canonical.ensures.left _ _ c.in-Err.is
