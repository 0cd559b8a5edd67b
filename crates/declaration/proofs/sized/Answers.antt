use Rattle.std.proofs.Common.{arith}
use Rattle.declaration.proofs.Answering.{exec-refuses, read-within, exec-writes, refused-exit}
use Rattle.declaration.proofs.sized.Goals as goal

pub returns-in_err-read : goal.returns-in_err-read
returns-in_err-read g c =
    let e = refused-exit _ _ _ _ c.from_residual.ensures.1 (exec-refuses _ _ _ _ c.exec.ensures _ c.in_err-read.was) in
    record { says = e.0; left = e.1 }

pub shared_whole_as_front-deliver : goal.shared_whole_as_front-deliver
shared_whole_as_front-deliver g c = let n = read-within _ _ _ _ c.exec.ensures _ c.in_ok-read.was in (omega arith, omega arith)

pub returns : goal.returns
returns g c = rw (exec-writes _ _ _ _ c.exec.ensures _ c.in_ok-read.was) c.deliver.ensures
