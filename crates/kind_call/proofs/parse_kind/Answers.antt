use Rattle.std.proofs.lemmas.Result.{err_from_is_err_and}
use Rattle.kind_call.proofs.Answering.{kind-refused, kind-tuple, kind-lone}
use Rattle.kind_call.proofs.parse_kind.Goals as goal

pub returns-in_err-admit : goal.returns-in_err-admit
returns-in_err-admit c =
    let p = err_from_is_err_and c.from_residual.result c.from_residual.ensures.1 in
    let e = kind-refused _ _ c.in_err-admit.ensures c.args.record.now in
    record { says = rw (p.1, p.2) e.0; left = e.1 }

pub returns-then-eq : goal.returns-then-eq
returns-then-eq c = let e = kind-tuple _ c.in_ok-admit.ensures.1 _ c.peek.ensures _ _ _ c.if-eq.ensures c.tuple.ensures in record { says = e.0; left = e.1 }

pub returns-else-eq : goal.returns-else-eq
returns-else-eq c = let e = kind-lone _ c.in_ok-admit.ensures.1 _ c.peek.ensures _ _ _ c.if-eq.ensures c.elementary.ensures in record { says = e.0; left = e.1 }
