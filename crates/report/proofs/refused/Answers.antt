use mathlib.Core.List.{◌++◌}
use native.Mathlib.Omega.{arith}
use Rattle.kinds.specs.Bytes.{ascii}
use Rattle.kinds.specs.Decimal.{decimal}
use Rattle.abi.proofs.Going.{going-first, going-next, going-last}
use Rattle.report.proofs.Parts.{no-short}
use Rattle.report.proofs.refused.Goals as goal

pub returns : goal.returns
returns c =
    let number = decimal c.args.number in
    let position = decimal c.args.position in
    let short = no-short c.args.number c.args.position (omega arith) (omega arith) in
    let first = going-first (ascii "no ") (number ++ (ascii " " ++ position)) _ _ _ (omega (arith, short, c.requires)) c.write_word-n.ensures in
    let second = going-next _ _ number _ _ _ first _ _ c.write_decimal-n.ensures in
    let third = going-next _ _ (ascii " ") _ _ _ second _ _ c.write_word-n-2.ensures in
    going-last _ _ _ _ _ third _ _ c.write_decimal.ensures
