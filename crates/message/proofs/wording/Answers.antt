use mathlib.Core.Path.{refl}
use native.Mathlib.Omega.{arith}
use Rattle.model.specs.Answer.{number}
use Rattle.model.specs.Message.{wording}
use Rattle.message.proofs.Wordings.{wordless}
use Rattle.message.proofs.wording.Goals as goal

pub returns-in-Eos : goal.returns-in-Eos
unfolding wording number
returns-in-Eos c = (rw c.in-Eos.is refl, omega arith)

pub returns-in-ExpectOpen : goal.returns-in-ExpectOpen
unfolding wording number
returns-in-ExpectOpen c = (rw c.in-ExpectOpen.is refl, omega arith)

pub returns-in-ExpectClose : goal.returns-in-ExpectClose
unfolding wording number
returns-in-ExpectClose c = (rw c.in-ExpectClose.is refl, omega arith)

pub returns-in-ExpectDeclaration : goal.returns-in-ExpectDeclaration
unfolding wording number
returns-in-ExpectDeclaration c = (rw c.in-ExpectDeclaration.is refl, omega arith)

pub returns-in-ExpectIdentifier : goal.returns-in-ExpectIdentifier
unfolding wording number
returns-in-ExpectIdentifier c = (rw c.in-ExpectIdentifier.is refl, omega arith)

pub returns-in-ExpectEnd : goal.returns-in-ExpectEnd
unfolding wording number
returns-in-ExpectEnd c = (rw c.in-ExpectEnd.is refl, omega arith)

pub returns-in_err-k-in-ExpectKeyword : goal.returns-in_err-k-in-ExpectKeyword
unfolding wording number
returns-in_err-k-in-ExpectKeyword c = rw c.from_residual.ensures (rw (c.in-ExpectKeyword.is, c.in_err-k-in-ExpectKeyword.was {u = tt}) refl, tt)

pub returns-in_ok-k-in-ExpectKeyword : goal.returns-in_ok-k-in-ExpectKeyword
unfolding wording number
returns-in_ok-k-in-ExpectKeyword c = (rw (c.expected_keyword.ensures.0, c.in-ExpectKeyword.is, c.in_ok-k-in-ExpectKeyword.was {u = tt}) refl, c.expected_keyword.ensures.1)

pub returns-in_default : goal.returns-in_default
returns-in_default c = let d = c.in_default in (wordless _ _ d.not-Eos d.not-ExpectOpen d.not-ExpectClose d.not-ExpectDeclaration d.not-ExpectKeyword d.not-ExpectIdentifier d.not-ExpectEnd, tt)
