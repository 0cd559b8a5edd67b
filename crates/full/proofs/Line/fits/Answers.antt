use native.Mathlib.Omega.{arith}
use borrow.Author.Tests.{le-leb}
use mathlib.Core.Path.{sym, ◌∙◌, ap}
use lib.Dec.{leb}
use Rattle.full.proofs.Choosing.{line-short}
use Rattle.full.proofs.Line.fits.Goals as goal

pub returns-then-record-room : goal.returns-then-record-room
returns-then-record-room c w =
    le-leb _ _ c.if-record-room.true ∙ sym (le-leb _ _ (omega (arith, c.if-record-room.true, line-short _ _ w (λ j. omega (arith, c.type_inv.record j)))))

pub returns-else-record-room : goal.returns-else-record-room
returns-else-record-room c w = ap (λ n. leb n c.args.room) (c.length.ensures w.line)
