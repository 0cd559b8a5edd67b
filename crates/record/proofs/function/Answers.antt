use mathlib.Core.Path.{refl}
use borrow.Author.Rules.{rules}
use Rattle.record.proofs.Tops.{function-is}
use Rattle.record.proofs.Places.{numbered-part, name-stands, inputs-stand, outputs-stand}
use Rattle.record.proofs.function.Goals as goal

pub returns-clause-says : goal.returns-clause-says
returns-clause-says c =
    let stated = c.in_ok-stated.ensures in
    let inputs = c.in_ok-inputs.ensures in
    (function-is _ c.in_ok-stated.stated stated c.in_ok-name.name c.in_ok-name.ensures.0 c.in_ok-inputs.inputs inputs.0 c.in_ok-outputs.outputs c.in_ok-outputs.ensures.0 c.requires c.if-stated-gt-PAYABLE.false (search rules), refl)

pub returns-clause-within : goal.returns-clause-within
returns-clause-within c =
    let behind = numbered-part _ c.in_ok-stated.stated c.in_ok-stated.ensures in
    let inputs = c.in_ok-inputs.ensures in (
      behind _ (name-stands _ c.in_ok-name.name c.in_ok-name.ensures),
      behind _ (inputs-stand _ c.in_ok-name.name c.in_ok-name.ensures _ c.in_ok-inputs.inputs inputs),
      behind _ (outputs-stand _ c.in_ok-name.name c.in_ok-name.ensures _ c.in_ok-inputs.inputs inputs c.in_ok-outputs.outputs c.in_ok-outputs.ensures),
    )
