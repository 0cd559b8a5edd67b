use Rattle.std.proofs.Common.{ap}
use Rattle.std.specs.Prelude.{Err}
use Rattle.abi.proofs.Whole.{line-room, line-full, line-ends}
use Rattle.abi.proofs.line.Goals as goal

pub returns-then-text-name : goal.returns-then-text-name
returns-then-text-name c = line-full _ _ _ _ (ap Err c.into.ensures) c.if-text-name.true

pub write_line-requires : goal.write_line-requires
write_line-requires c = line-room _ _ c.requires _ c.if-text-name.false

pub returns : goal.returns
returns c = line-ends _ _ _ c.if-text-name.false _ _ c.write_line.ensures
