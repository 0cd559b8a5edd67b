use Rattle.std.proofs.Common.{arith, rules}
use Rattle.index.proofs.Parts.{sheet-records}
use Rattle.index.proofs.records.Goals as goal

pub returns : goal.returns
returns c = sheet-records _ _ c.in_ok-piece.ensures (λ i. omega (arith, c.type_inv.sheet i)) c.if-piece-ne-SHEET.false (search rules)
