use Rattle.std.proofs.Common.{arith}
use Rattle.deposit.proofs.Kept.{line-copied}
use Rattle.deposit.proofs.read_text.Goals as goal

pub returns : goal.returns
returns g c = line-copied c.take.result.limit _ _ (omega arith) (rw (c.take.ensures.inner, c.new-text.ensures) at c.in_ok-copy.ensures.bytes)
