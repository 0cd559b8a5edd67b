use borrow.Author.Tests.{true-eqb, false-eqb}
use Rattle.full.proofs.Words.{name-none, name-put}
use Rattle.full.proofs.write_name.Goals as goal

pub returns-then-is_empty : goal.returns-then-is_empty
returns-then-is_empty c = name-none _ _ (true-eqb _ _ c.if-is_empty.ensures)

pub returns : goal.returns
returns c = name-put _ _ _ _ (false-eqb _ _ c.if-is_empty.ensures) c.requires c.write_word.ensures
