use Rattle.std.proofs.Common.{refl}
use Rattle.std.proofs.lemmas.Result.{err_from_is_err_and}
use Rattle.value.proofs.Runs.{peeling_start, peeling_more, run-read, run-refused}
use Rattle.value.proofs.from_str.Goals as goal

pub loop-peeled-init : goal.loop-peeled-init
loop-peeled-init c = peeling_start c.args.t.now

pub loop-peeled-preserved : goal.loop-peeled-preserved
loop-peeled-preserved c = rw c.record_length-len.ensures (peeling_more _ _ _ c.loop-peeled.invariant _ refl _ c.in-Some.ensures)

pub returns-in_err-base : goal.returns-in_err-base
returns-in_err-base c = let p = err_from_is_err_and c.from_residual.result c.from_residual.ensures.1 in rw (p.1, p.2) (run-refused _ _ _ c.loop-peeled.invariant _ refl c.in_default.ensures _ c.in_err-base.ensures)

pub returns : goal.returns
returns c = run-read _ _ _ c.loop-peeled.invariant _ refl c.in_default.ensures _ _ c.in_ok-base.ensures refl refl refl
