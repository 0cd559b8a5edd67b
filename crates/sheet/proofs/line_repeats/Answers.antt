use Rattle.std.proofs.Common.{rules}
use mathlib.Core.Path.{sym}
use lib.Seq.{length-take-le}
use Rattle.sheet.proofs.Reading.{read_fits, two-asked, two-told, two-never}
use Rattle.sheet.proofs.line_repeats.Goals as goal

pub slice_bounds-other-end : goal.slice_bounds-other-end
slice_bounds-other-end c = read_fits _ _ _ _ c.read.ensures.says c.read.ensures.left _ c.in-Ok.is

pub slice_bounds-repeats-end : goal.slice_bounds-repeats-end
slice_bounds-repeats-end c = sym (length-take-le _ _ (read_fits _ _ _ _ c.read.ensures.says c.read.ensures.left _ c.in-Ok.is))

pub repeats-requires : goal.repeats-requires
repeats-requires c = two-asked _ _ _ _ c.first_line.ensures _ _ _ c.read.ensures.says c.read.ensures.left _ c.in-Ok.is c.requires

pub returns-in-Ok : goal.returns-in-Ok
returns-in-Ok c = two-told _ _ _ _ c.first_line.ensures _ _ _ c.read.ensures.says c.read.ensures.left _ c.in-Ok.is _ c.repeats.ensures

pub returns-in-Err : goal.returns-in-Err
returns-in-Err c = two-never _ _ _ _ c.first_line.ensures _ _ _ c.read.ensures.says c.read.ensures.left _ c.in-Err.is (search rules)
