use native.Mathlib.Omega.{arith}
use Rattle.abi.proofs.Whole.{name-room, list-asks, line-fits, line-wrote}
use Rattle.abi.proofs.write_line.Goals as goal

pub write_word-n-requires : goal.write_word-n-requires
write_word-n-requires c = name-room _ _ _ c.requires

pub write_fields-requires : goal.write_fields-requires
write_fields-requires c = list-asks _ _ _ _ _ c.write_word-n.ensures c.requires

pub overflow_add-result : goal.overflow_add-result
overflow_add-result c = record { fits = omega (arith, line-fits _ _ _ _ _ c.write_word-n.ensures _ _ c.write_fields.ensures c.requires) }

pub returns : goal.returns
returns c = line-wrote _ _ _ _ _ c.write_word-n.ensures _ _ c.write_fields.ensures
