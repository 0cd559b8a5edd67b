use Rattle.fields.proofs.Spots.{word-some}
use Rattle.fields.proofs.next_word.Goals as goal

pub returns : goal.returns
returns c = word-some _ _ _ _ c.skip-start.ensures c.word_end-end.ensures c.if-start-end.false
