use Rattle.std.proofs.Common.{rules}
use Rattle.words.proofs.Words.{word-padded}
use Rattle.words.proofs.padded.Goals as goal

pub returns : goal.returns
returns c = word-padded _ _ _ c.args.from c.args.to _ _ c.requires.1 c.requires.2 (search rules) c.all_are.ensures c.then_some.ensures
