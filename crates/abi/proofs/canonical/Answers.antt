use Rattle.abi.proofs.Calls.{handed-on}
use Rattle.abi.proofs.canonical.Goals as goal

pub returns-in_err-declared-clause-says : goal.returns-in_err-declared-clause-says
returns-in_err-declared-clause-says c = (handed-on _ c.args.text.now _ _ c.from_residual.ensures.1 c.in_err-declared.ensures.canonical).0

pub returns-in_err-declared-clause-left : goal.returns-in_err-declared-clause-left
returns-in_err-declared-clause-left c = (handed-on _ c.args.text.now _ _ c.from_residual.ensures.1 c.in_err-declared.ensures.canonical).1

pub line-requires : goal.line-requires
line-requires c = c.in_ok-declared.ensures.line
