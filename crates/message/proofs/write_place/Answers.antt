use mathlib.Core.Path.{◌≡◌, refl, ◌∙◌, ap}
use mathlib.Core.List.{◌++◌, append_assoc}
use Rattle.model.specs.Message.{context}
use Rattle.message.specs.Lines.{placed}
use Rattle.message.proofs.write_place.Goals as goal

pub returns : goal.returns
unfolding placed
returns c =
    let k : c.deref.result.now ≡ context c.args.s.now c.args.p = c.deref.ensures.0 ∙ c.write_context.ensures.0 ∙ ap (λ u. u ++ context c.args.s.now c.args.p) c.new-context.ensures in
    rw (c.write-3.ensures.0, c.write_escaped.ensures.0, k, c.write-2.ensures.0, c.write_decimal.ensures.0, c.write.ensures.0) (simp append_assoc)
