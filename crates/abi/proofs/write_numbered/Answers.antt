use Rattle.std.proofs.Common.{ap, ◌∙◌, ◌≡◌}
use native.Mathlib.Omega.{arith}
use lib.Seq.{take_all}
use Rattle.model.specs.Layout.{le_value}
use Rattle.abi.proofs.Puts.{put-both, behind-room}
use Rattle.abi.proofs.write_numbered.Goals as goal

pub write_number-requires : goal.write_number-requires
write_number-requires c =
    let e : c.get2.result ≡ le_value c.args.body.now = c.get2.ensures.0 ∙ ap le_value (take_all 2 c.args.body.now (omega (arith, c.requires.two))) in
    rw e (behind-room _ _ _ _ c.write_number_word-n.ensures _ c.requires.room)

pub returns : goal.returns
returns c =
    let e : c.get2.result ≡ le_value c.args.body.now = c.get2.ensures.0 ∙ ap le_value (take_all 2 c.args.body.now (omega (arith, c.requires.two))) in
    put-both _ _ _ _ c.write_number_word-n.ensures _ _ _ (rw e at c.write_number.ensures)
