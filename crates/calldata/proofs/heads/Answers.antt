use Rattle.std.proofs.Common.{ap}
use Rattle.std.specs.Prelude.{Err}
use Rattle.abi.proofs.Calls.{handed-on}
use Rattle.calldata.proofs.Telling.{heads-full, heads-ask, heads-written}
use Rattle.calldata.proofs.heads.Goals as goal

pub returns-in_err-inputs-clause-says : goal.returns-in_err-inputs-clause-says
returns-in_err-inputs-clause-says c = (handed-on _ c.args.out.now _ _ c.from_residual.ensures.1 c.in_err-inputs.ensures.heads).0

pub returns-in_err-inputs-clause-left : goal.returns-in_err-inputs-clause-left
returns-in_err-inputs-clause-left c = (handed-on _ c.args.out.now _ _ c.from_residual.ensures.1 c.in_err-inputs.ensures.heads).1

pub returns-then-out-heads_length-clause-says : goal.returns-then-out-heads_length-clause-says
returns-then-out-heads_length-clause-says c =
    (heads-full c.in_ok-inputs.ensures _ c.heads_length.ensures c.if-out-heads_length.true _ (ap Err c.into.ensures)).0

pub returns-then-out-heads_length-clause-left : goal.returns-then-out-heads_length-clause-left
returns-then-out-heads_length-clause-left c =
    (heads-full c.in_ok-inputs.ensures _ c.heads_length.ensures c.if-out-heads_length.true _ (ap Err c.into.ensures)).1

pub write_heads-requires : goal.write_heads-requires
write_heads-requires c = heads-ask c.in_ok-inputs.ensures _ c.heads_length.ensures c.if-out-heads_length.false

pub returns-clause-says : goal.returns-clause-says
returns-clause-says c = (heads-written c.in_ok-inputs.ensures _ c.heads_length.ensures c.if-out-heads_length.false _ _ c.write_heads.ensures).0

pub returns-clause-left : goal.returns-clause-left
returns-clause-left c = (heads-written c.in_ok-inputs.ensures _ c.heads_length.ensures c.if-out-heads_length.false _ _ c.write_heads.ensures).1
