use Rattle.std.proofs.Common.{rules}
use Rattle.words.proofs.Words.{number_is}
use Rattle.words.proofs.is_number.Goals as goal

pub returns-then-has : goal.returns-then-has
returns-then-has c = number_is _ _ _ _ c.type_inv.d (search rules) (search rules) (search rules)
