use Rattle.declaration.proofs.Answering.{refused-exit, not-admitted, not-wanted, keyword-wanted}
use Rattle.declaration.proofs.read.Goals as goal

pub returns-in_err-admit : goal.returns-in_err-admit
returns-in_err-admit c =
    let e = refused-exit _ _ _ _ c.from_residual.ensures.1 (not-admitted _ _ _ c.admit.ensures _ c.in_err-admit.was) in
    record { says = e.0; left = e.1 }

pub returns-in_default : goal.returns-in_default
returns-in_default c =
    let e = not-wanted _ _ _ c.admit.ensures c.in_ok-admit.was _ c.wanted.ensures _ _ c.in_default.is c.into.ensures in
    record { says = e.0; left = e.1 }

pub returns : goal.returns
returns c = rw (keyword-wanted _ _ _ c.admit.ensures c.in_ok-admit.was _ c.wanted.ensures _ c.in-Some.is) c.by_size.ensures
