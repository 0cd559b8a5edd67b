use Rattle.kind_call.proofs.Answering.{whole-failed, whole-more, whole-fits, whole-read}
use Rattle.kind_call.proofs.whole.Goals as goal

pub returns-in_default : goal.returns-in_default
returns-in_default g c = whole-failed _ _ _ c.in_default.ensures _ _ c.into.ensures

pub returns-then-got-text : goal.returns-then-got-text
returns-then-got-text g c = whole-more _ _ _ c.in-Ok.ensures c.if-got-text.true _ _ c.into-then-got-text.ensures

pub returns : goal.returns
returns g c = whole-read _ _ _ c.in-Ok.ensures c.if-got-text.false _ _ _ (c.deliver.ensures.says, c.deliver.ensures.left)
