use native.Mathlib.Omega.{arith}
use Rattle.index.proofs.text_is.Goals as goal

pub line_is-requires : goal.line_is-requires
line_is-requires c = record { one = c.requires; room = omega arith }
