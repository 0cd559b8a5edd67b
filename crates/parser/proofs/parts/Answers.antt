use Rattle.parser.proofs.Wholes.{parts-exit, name-fails, inputs-fail, outputs-fail, parts-got}
use Rattle.parser.proofs.parts.Goals as goal

pub returns-in_err-name : goal.returns-in_err-name
returns-in_err-name c = parts-exit _ _ _ _ _ _ c.from_residual.ensures.1 (name-fails _ _ _ _ _ c.name.ensures _ c.in_err-name.was)

pub returns-in_err-inputs : goal.returns-in_err-inputs
returns-in_err-inputs c =
    parts-exit _ _ _ _ _ _ c.from_residual-in_err-inputs.ensures.1
    (inputs-fail _ _ _ _ _ c.name.ensures _ c.in_ok-name.was _ c.sort_of.ensures _ _ c.field_list.ensures _ c.in_err-inputs.was)

pub returns-in_err-outputs : goal.returns-in_err-outputs
returns-in_err-outputs c =
    parts-exit _ _ _ _ _ _ c.from_residual-in_err-outputs.ensures.1
    (outputs-fail _ _ _ _ _ c.name.ensures _ c.in_ok-name.was _ c.sort_of.ensures _ _ c.field_list.ensures _ c.in_ok-inputs.was _ c.words-stated.ensures _ _ c.outputs.ensures _ c.in_err-outputs.was)

pub returns : goal.returns
returns c =
    parts-got _ _ _ _ _ c.name.ensures _ c.in_ok-name.was _ c.sort_of.ensures _ _ c.field_list.ensures _ c.in_ok-inputs.was _ c.words-stated.ensures _ _ c.outputs.ensures _ _ _ c.in_ok-outputs.was
