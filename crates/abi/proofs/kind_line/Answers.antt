use Rattle.std.proofs.Common.{ap}
use Rattle.std.specs.Prelude.{Err}
use Rattle.abi.proofs.Whole.{kind-full, kind-asks, kind-ends}
use Rattle.abi.proofs.kind_line.Goals as goal

pub returns-then-text-kind : goal.returns-then-text-kind
returns-then-text-kind c = kind-full _ _ _ (ap Err c.into.ensures) c.if-text-kind.true

pub write_kind-requires : goal.write_kind-requires
write_kind-requires c = kind-asks _ _ c.if-text-kind.false c.requires

pub returns : goal.returns
returns c = kind-ends _ _ c.if-text-kind.false _ _ c.write_kind.ensures
