use Rattle.std.proofs.Common.{refl}
use Rattle.judge.proofs.is_whole.Goals as goal

pub returns-in-Some : goal.returns-in-Some
returns-in-Some c = rw c.in-Some.is refl
