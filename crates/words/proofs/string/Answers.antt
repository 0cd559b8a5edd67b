use Rattle.std.proofs.Common.{rules}
use Rattle.words.proofs.Words.{string_padded}
use Rattle.words.proofs.string.Goals as goal

pub returns : goal.returns
returns c =
    string_padded _ _ c.requires.1 _ _ c.number_at-n.ensures.0 c.whole_words-m.ensures _ (search rules) _ c.all_are.ensures c.then_some.ensures
