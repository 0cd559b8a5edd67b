use Rattle.std.proofs.Common.{arith}
use mathlib.Core.Path.{sym}
use lib.Seq.{length-take-le}
use Rattle.repeat.proofs.Printing.{print-none, print-asks, print-inside, print-line}
use Rattle.repeat.proofs.fingerprint.Goals as goal

pub returns-in_default : goal.returns-in_default
returns-in_default c = print-none _ _ c.in_default.ensures

pub write_line-n-requires : goal.write_line-n-requires
write_line-n-requires c = print-asks _ _ _ c.in-Some.ensures (omega (arith, c.if-scratch-record.false)) c.requires

pub slice_bounds-print-end : goal.slice_bounds-print-end
slice_bounds-print-end c = print-inside _ _ _ c.in-Some.ensures (omega (arith, c.if-scratch-record.false)) _ _ c.write_line-n.ensures c.requires c.write_line-n.auto.text

pub slice_bounds-print-end-2 : goal.slice_bounds-print-end-2
slice_bounds-print-end-2 c =
    sym (length-take-le _ _ (print-inside _ _ _ c.in-Some.ensures (omega (arith, c.if-scratch-record.false)) _ _ c.write_line-n.ensures c.requires c.write_line-n.auto.text))

pub returns : goal.returns
returns c = print-line _ _ _ c.in-Some.ensures (omega (arith, c.if-scratch-record.false)) _ _ c.write_line-n.ensures c.write_line-n.auto.text _ c.print.ensures
