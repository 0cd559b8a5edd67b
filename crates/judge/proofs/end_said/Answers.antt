use Rattle.std.proofs.Common.{sym, ◌∙◌}
use borrow.Author.Tests.{leb-true}
use Rattle.judge.proofs.Saying.{head-says, head-outside}
use Rattle.judge.proofs.end_said.Goals as goal

pub returns-then-end-d : goal.returns-then-end-d
returns-then-end-d c =
    let room = leb-true _ _ (sym c.has.ensures ∙ c.if-not-has.false) in
    head-says _ c.requires.0 c.type_inv.d _ _ room _ c.number_at-end.ensures.0 c.if-s-end.true c.if-end-d.true

pub returns-else-s-end : goal.returns-else-s-end
returns-else-s-end c =
    head-outside _ c.requires.0 c.type_inv.d _ _ (leb-true _ _ (sym c.has.ensures ∙ c.if-not-has.false)) _ c.number_at-end.ensures.0 c.else-s-end.either
