use Rattle.kinds.proofs.Decimal.{std-decimal}
use Rattle.abi.proofs.write_decimal.Goals as goal

pub write_word-requires : goal.write_word-requires
write_word-requires c = rw (c.as_bytes.ensures.value, c.format.ensures.text, std-decimal _ c.ranges.v.fits) c.requires

pub returns : goal.returns
returns c = rw (c.as_bytes.ensures.value, c.format.ensures.text, std-decimal _ c.ranges.v.fits) at c.write_word.ensures
