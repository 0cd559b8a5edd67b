use mathlib.Core.Path.{◌≡◌, refl, ◌∙◌, ap}
use mathlib.Core.List.{◌++◌}
use Rattle.std.specs.Prelude.{option_copied}
use Rattle.model.specs.Message.{wording}
use Rattle.message.specs.Lines.{placed}
use Rattle.message.proofs.Calls.{display-none, display-some}
use Rattle.message.proofs.display.Goals as goal

pub returns-in_default-clause-says : goal.returns-in_default-clause-says
returns-in_default-clause-says c = (display-none _ _ _ _ _ _ (c.wording.ensures.0 ∙ ap (wording c.args.r.refusal) c.wanted.ensures) (ap option_copied c.in_default.is)).0

pub returns-in_default-clause-left : goal.returns-in_default-clause-left
returns-in_default-clause-left c = (display-none _ _ _ _ _ _ (c.wording.ensures.0 ∙ ap (wording c.args.r.refusal) c.wanted.ensures) (ap option_copied c.in_default.is)).1

pub returns-clause-says : goal.returns-clause-says
returns-clause-says c =
    let k : c.deref.result.now ≡ c.in-Some.words.now ++ placed c.args.text.now c.args.r.position = c.deref.ensures.0 ∙ c.write_place.ensures ∙ ap (λ u. u ++ placed c.args.text.now c.args.r.position) (c.write.ensures.0 ∙ ap (λ u. u ++ c.in-Some.words.now) c.new-line.ensures) in
    (display-some _ _ _ _ _ _ _ _ _ _ (c.wording.ensures.0 ∙ ap (wording c.args.r.refusal) c.wanted.ensures) (ap option_copied c.in-Some.is) k c.deliver.ensures.says c.deliver.ensures.left).0

pub returns-clause-left : goal.returns-clause-left
returns-clause-left c =
    let k : c.deref.result.now ≡ c.in-Some.words.now ++ placed c.args.text.now c.args.r.position = c.deref.ensures.0 ∙ c.write_place.ensures ∙ ap (λ u. u ++ placed c.args.text.now c.args.r.position) (c.write.ensures.0 ∙ ap (λ u. u ++ c.in-Some.words.now) c.new-line.ensures) in
    (display-some _ _ _ _ _ _ _ _ _ _ (c.wording.ensures.0 ∙ ap (wording c.args.r.refusal) c.wanted.ensures) (ap option_copied c.in-Some.is) k c.deliver.ensures.says c.deliver.ensures.left).1
