use mathlib.Core.List.{◌++◌}
use mathlib.Core.Path.{ap}
use native.Mathlib.Omega.{arith}
use lib.ListN.{length}
use Rattle.kinds.specs.Bytes.{ascii}
use Rattle.kinds.specs.Decimal.{decimal}
use Rattle.model.specs.Reading.{keyword_text}
use Rattle.report.specs.Lines.{ok_front}
use Rattle.abi.proofs.Going.{going-first, going-next, going-last}
use Rattle.report.proofs.Parts.{ok-short}
use Rattle.report.proofs.front.Goals as goal

pub returns-clause-written : goal.returns-clause-written
unfolding ok_front
returns-clause-written c =
    let word = keyword_text c.args.keyword in
    let size = decimal c.args.size in
    let named = c.keyword_text.ensures in
    let short = ok-short c.args.keyword c.args.size (omega (arith, ap (λ w. length w) named.same, named.short)) (omega arith) in
    let first = going-first (ascii "ok ") (word ++ (ascii " " ++ (size ++ ascii " "))) _ _ _ (omega (arith, short, c.requires)) c.write_word-n.ensures in
    let second = going-next _ _ word _ _ _ first _ _ (rw named.same at c.write_word-n-2.ensures) in
    let third = going-next _ _ (ascii " ") _ _ _ second _ _ c.write_word-n-3.ensures in
    let fourth = going-next _ _ size _ _ _ third _ _ c.write_decimal-n.ensures in
    going-last _ _ _ _ _ fourth _ _ c.write_word.ensures
