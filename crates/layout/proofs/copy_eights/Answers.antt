use Rattle.std.proofs.Common.{◌+◌, arith}
use Rattle.layout.proofs.Copies.{Copied, copy_eight, copy_last}
use Rattle.layout.proofs.copy_eights.Goals.{else-loop-i-test, then-loop-i-test+else-i-end-i-gt8}
use Rattle.layout.proofs.copy_eights.Goals as goal

pub returns : goal.returns
returns c = elim c.loop-i-test.branch [
  | else-loop-i-test w ↦
      let copied : Copied c.args.out.now c.args.at c.args.src.now c.loop-i-test.out c.loop-i.i = rw w.out-is c.loop-i.invariant in
      copy_last _ _ _ _ _ c.loop-i.i copied c.requires.1 c.requires.0 (omega arith) c.copy_bytes-2.ensures
  | then-loop-i-test+else-i-end-i-gt8 w ↦
      let copied : Copied c.args.out.now c.args.at c.args.src.now c.loop-i-test.out (c.loop-i.i + 8) = rw w.out-is (copy_eight _ _ _ _ _ _ c.loop-i.invariant c.requires.1 (omega arith) w.copy_bytes.ensures) in
      copy_last _ _ _ _ _ (c.loop-i.i + 8) copied c.requires.1 c.requires.0 (omega arith) c.copy_bytes-2.ensures
]
