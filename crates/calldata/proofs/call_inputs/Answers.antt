use Rattle.std.proofs.lemmas.Result.{err_from_is_err_and}
use Rattle.calldata.proofs.Finding.{refused, call-is}
use Rattle.calldata.proofs.call_inputs.Goals as goal

pub returns-in_err-inputs_of : goal.returns-in_err-inputs_of
returns-in_err-inputs_of c =
    let p = err_from_is_err_and c.from_residual.result c.from_residual.ensures.1 in
    rw (p.1, p.2) (refused _ c.in_err-inputs_of.ensures)

pub returns : goal.returns
returns c = call-is _ _ c.in_ok-inputs_of.ensures c.limited.ensures
