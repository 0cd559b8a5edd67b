use mathlib.Core.Path.{ap}
use Rattle.std.specs.Prelude.{Err}
use Rattle.full.proofs.Choosing.{fits-room, ends-none, ends-line, ends-short}
use Rattle.full.proofs.full_text.Goals as goal

pub returns-in_default : goal.returns-in_default
returns-in_default c = let (says, left) = ends-none _ c.in_default.ensures c.args.text.now _ (ap Err c.into.ensures) in record { says = says; left = left }

pub returns-then-not-fits : goal.returns-then-not-fits
returns-then-not-fits c =
    let (says, left) = ends-short _ _ c.in-Some.ensures c.args.text.now _ c.if-not-fits.ensures (ap Err c.into-then-not-fits.ensures) in
    record { says = says; left = left }

pub write-requires : goal.write-requires
write-requires c = record { is = c.in-Some.ensures.line; room = fits-room _ _ c.in-Some.ensures _ c.if-not-fits.ensures }

pub returns : goal.returns
returns c = let (says, left) = ends-line _ _ c.in-Some.ensures c.args.text.now c.if-not-fits.ensures _ _ c.write.ensures in record { says = says; left = left }
