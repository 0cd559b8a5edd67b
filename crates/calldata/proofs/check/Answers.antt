use Rattle.std.proofs.Common.{ap}
use Rattle.std.specs.Prelude.{Err, []}
use Rattle.abi.proofs.Calls.{handed-on}
use Rattle.calldata.proofs.Judging.{check_long, check_good, check_bad}
use Rattle.calldata.proofs.check.Goals as goal

pub returns-in_err-inputs : goal.returns-in_err-inputs
returns-in_err-inputs c = record { says = (handed-on _ [] _ _ c.from_residual.ensures.1 (c.in_err-inputs.ensures.check _)).0 }

pub returns-then-data-gt-LIMIT : goal.returns-then-data-gt-LIMIT
returns-then-data-gt-LIMIT c = record { says = check_long c.in_ok-inputs.ensures _ c.if-data-gt-LIMIT.true _ (ap Err c.into.ensures) }

pub encoded-requires : goal.encoded-requires
encoded-requires c = ((c.in_ok-inputs.ensures.fields, c.in_ok-inputs.ensures.short.is), c.if-data-gt-LIMIT.false)

pub returns-then-not-encoded : goal.returns-then-not-encoded
returns-then-not-encoded c =
    let e = ap Err c.into-then-not-encoded.ensures in
    record { says = check_bad c.in_ok-inputs.ensures _ c.if-data-gt-LIMIT.false _ c.encoded.ensures c.if-not-encoded.true _ e }

pub returns : goal.returns
returns c = record { says = check_good c.in_ok-inputs.ensures _ c.if-data-gt-LIMIT.false _ c.encoded.ensures c.if-not-encoded.false }
