use mathlib.Core.Path.{refl, ◌∙◌}
use native.Mathlib.Omega.{arith}
use lib.ListN.{length, take, drop, length-drop}
use Rattle.std.proofs.Common.{rules, tests, not}
use Rattle.std.proofs.lemmas.Iterator.{YieldsList-from_slice}
use Rattle.std.proofs.lemmas.Iterator.Search.{position_from_yields_List}
use Rattle.model.specs.Text.{is_tail}
use Rattle.model.specs.Message.{whole_from}
use Rattle.model.proofs.Scans.{part-rest}
use Rattle.text.proofs.Reaching.{reached}
use Rattle.message.proofs.whole_from.Goals as goal

pub returns : goal.returns
unfolding whole_from
returns c =
    let first = position_from_yields_List (λ b. not (is_tail b)) _ _ c.position.result c.position.ensures.ran (YieldsList-from_slice _ c.iter.ensures.rest) (λ x b q k. search (rules, tests)) in
    let k = reached is_tail c.args.t.now _ _ first c.unwrap_or-k.ensures in
    rw (part-rest c.args.t.now c.unwrap_or-k.result) (rw k.0 refl, omega (arith, length-drop c.unwrap_or-k.result c.args.t.now))
