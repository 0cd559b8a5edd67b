use Rattle.std.proofs.Common.{sym, ◌∙◌}
use Rattle.sheet.proofs.Reading.{line-written}
use Rattle.sheet.proofs.write_line.Goals as goal

pub returns : goal.returns
returns c = line-written _ _ _ (sym c.is_blank.ensures ∙ c.if-is_blank.false) _ c.read.ensures.says c.read.ensures.left _ c.unwrap_or.ensures
