use Rattle.std.proofs.Common.{rules, tests, not}
use Rattle.std.proofs.lemmas.Iterator.{YieldsList-from_slice}
use Rattle.std.proofs.lemmas.Iterator.Search.{position_from_yields_List}
use Rattle.kinds.specs.Bytes.{is_digit}
use Rattle.text.proofs.Reaching.{reached}
use Rattle.text.proofs.digits.Goals as goal

pub returns : goal.returns
returns c =
    let all = YieldsList-from_slice _ c.iter.ensures.rest in
    let first = position_from_yields_List (λ b. not (is_digit b)) _ _ c.position.result c.position.ensures.ran all (λ x b q k. search (rules, tests)) in
    reached is_digit c.args.t.now _ _ first c.unwrap_or.ensures
