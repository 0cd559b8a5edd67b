use Rattle.std.proofs.Common.{ap}
use Rattle.std.specs.Prelude.{Err}
use Rattle.model.specs.declared.Refusal.TheVariants.{WrongSort}
use Rattle.layout.proofs.Answers.{ends-refused}
use Rattle.abi.proofs.Calls.{handed-on}
use Rattle.abi.proofs.signature.Goals as goal

pub returns-in_err-declared-clause-says : goal.returns-in_err-declared-clause-says
returns-in_err-declared-clause-says c = (handed-on _ c.args.text.now _ _ c.from_residual.ensures.1 c.in_err-declared.ensures.signature).0

pub returns-in_err-declared-clause-left : goal.returns-in_err-declared-clause-left
returns-in_err-declared-clause-left c = (handed-on _ c.args.text.now _ _ c.from_residual.ensures.1 c.in_err-declared.ensures.signature).1

pub returns-in-None-clause-says : goal.returns-in-None-clause-says
returns-in-None-clause-says c = (ends-refused _ c.args.text.now _ WrongSort 0 (ap Err c.into.ensures) (rw c.in-None.is at c.in_ok-declared.ensures.signature)).0

pub returns-in-None-clause-left : goal.returns-in-None-clause-left
returns-in-None-clause-left c = (ends-refused _ c.args.text.now _ WrongSort 0 (ap Err c.into.ensures) (rw c.in-None.is at c.in_ok-declared.ensures.signature)).1
