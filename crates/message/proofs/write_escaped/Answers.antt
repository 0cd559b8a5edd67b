use mathlib.Core.Path.{◌≡◌, refl, sym, ◌∙◌, ap}
use mathlib.Core.List.{◌++◌, append-nil, append_assoc}
use Prim.Native.Nat.{◌+◌}
use native.Mathlib.Omega.{arith}
use lib.ListN.{length, take, length-append, length-take}
use lib.Seq.{take_all}
use Rattle.model.specs.Message.{escaped}
use Rattle.model.proofs.Messages.{escaped-short}
use Rattle.message.proofs.Writing.{escaped-more}
use Rattle.message.proofs.write_escaped.Goals as goal

pub loop-b-init : goal.loop-b-init
unfolding escaped
loop-b-init c = sym (append-nil c.args.line.now.items)

pub write_escape-requires : goal.write_escape-requires
write_escape-requires c =
    let u = take c.loop-b.b-index c.args.t.now in
    let long : length c.loop-b.line.items ≡ length c.args.line.now.items + length (escaped u) = ap length c.loop-b.invariant ∙ length-append c.args.line.now.items (escaped u) in
    omega (arith, long, escaped-short u, length-take c.loop-b.b-index c.args.t.now, c.requires, c.loop-b-test.true)

pub loop-b-preserved : goal.loop-b-preserved
loop-b-preserved c = rw (c.write_escape.ensures, c.loop-b.invariant, escaped-more _ _ c.loop-b-test.true, append_assoc) refl

pub returns : goal.returns
returns c =
    let e : c.loop-b.line.items ≡ c.args.line.now.items ++ escaped c.args.t.now = c.loop-b.invariant ∙ ap (λ u. c.args.line.now.items ++ escaped u) (take_all _ _ (omega arith)) in
    (e, omega (arith, ap length e ∙ length-append c.args.line.now.items (escaped c.args.t.now), escaped-short c.args.t.now))
