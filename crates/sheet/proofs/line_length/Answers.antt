use Rattle.std.proofs.Common.{rules, tests, ◌==◌}
use Rattle.std.proofs.lemmas.Iterator.{YieldsList-from_slice}
use Rattle.std.proofs.lemmas.Iterator.Search.{position_from_yields_List}
use Rattle.model.specs.Sheet.{line_feed}
use Rattle.sheet.proofs.Feeds.{position-is, line-told}
use Rattle.sheet.proofs.line_length.Goals as goal

pub returns : goal.returns
returns c =
    let first = position_from_yields_List (λ b. b == line_feed) _ _ c.position.result c.position.ensures.ran (YieldsList-from_slice _ c.iter.ensures.rest) (λ x b q k. search (rules, tests)) in
    line-told _ _ _ c.pass_blocks-left.ensures (position-is _ _ _ first c.unwrap_or-rest.ensures)
