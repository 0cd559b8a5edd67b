use mathlib.Core.Path.{◌≡◌, refl, ◌∙◌, ap}
use lib.ListN.{length}
use Rattle.kinds.specs.Decimal.{decimal}
use native.Mathlib.Omega.{arith}
use Rattle.kinds.proofs.Decimal.{decimal-short, std-decimal}
use Rattle.message.proofs.write_decimal.Goals as goal

pub write-requires : goal.write-requires
write-requires c = rw (c.as_bytes.ensures.value, c.format.ensures.text, std-decimal _ c.ranges.v.fits) (omega (arith, c.requires, decimal-short 20 c.args.v (omega (arith, c.ranges.v.fits)) (omega arith)))

pub returns : goal.returns
returns c =
    let e : c.as_bytes.result.now ≡ decimal c.args.v = c.as_bytes.ensures.value ∙ c.format.ensures.text ∙ std-decimal c.args.v c.ranges.v.fits in
    (rw (c.write.ensures.0, e) refl, omega (arith, c.write.ensures.1, ap length e, decimal-short 20 c.args.v (omega (arith, c.ranges.v.fits)) (omega arith)))
