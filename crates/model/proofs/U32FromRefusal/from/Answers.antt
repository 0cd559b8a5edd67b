use mathlib.Core.Path.{sym, ap}
use Rattle.model.specs.Answer.{number}
use Rattle.model.proofs.U32FromRefusal.from.Goals as goal

pub returns-in-Eos : goal.returns-in-Eos
unfolding number
returns-in-Eos c = sym (ap number c.in-Eos.is)

pub returns-in-ExpectOpen : goal.returns-in-ExpectOpen
unfolding number
returns-in-ExpectOpen c = sym (ap number c.in-ExpectOpen.is)

pub returns-in-ExpectClose : goal.returns-in-ExpectClose
unfolding number
returns-in-ExpectClose c = sym (ap number c.in-ExpectClose.is)

pub returns-in-ExpectDeclaration : goal.returns-in-ExpectDeclaration
unfolding number
returns-in-ExpectDeclaration c = sym (ap number c.in-ExpectDeclaration.is)

pub returns-in-ExpectKeyword : goal.returns-in-ExpectKeyword
unfolding number
returns-in-ExpectKeyword c = sym (ap number c.in-ExpectKeyword.is)

pub returns-in-ExpectIdentifier : goal.returns-in-ExpectIdentifier
unfolding number
returns-in-ExpectIdentifier c = sym (ap number c.in-ExpectIdentifier.is)

pub returns-in-ExpectEnd : goal.returns-in-ExpectEnd
unfolding number
returns-in-ExpectEnd c = sym (ap number c.in-ExpectEnd.is)

pub returns-in-TooLong : goal.returns-in-TooLong
unfolding number
returns-in-TooLong c = sym (ap number c.in-TooLong.is)

pub returns-in-NotUtf8 : goal.returns-in-NotUtf8
unfolding number
returns-in-NotUtf8 c = sym (ap number c.in-NotUtf8.is)

pub returns-in-TooDeep : goal.returns-in-TooDeep
unfolding number
returns-in-TooDeep c = sym (ap number c.in-TooDeep.is)

pub returns-in-InvalidBitWidth : goal.returns-in-InvalidBitWidth
unfolding number
returns-in-InvalidBitWidth c = sym (ap number c.in-InvalidBitWidth.is)

pub returns-in-InvalidByteLength : goal.returns-in-InvalidByteLength
unfolding number
returns-in-InvalidByteLength c = sym (ap number c.in-InvalidByteLength.is)

pub returns-in-Unknown : goal.returns-in-Unknown
unfolding number
returns-in-Unknown c = sym (ap number c.in-Unknown.is)

pub returns-in-NotWellFormed : goal.returns-in-NotWellFormed
unfolding number
returns-in-NotWellFormed c = sym (ap number c.in-NotWellFormed.is)

pub returns-in-WrongSort : goal.returns-in-WrongSort
unfolding number
returns-in-WrongSort c = sym (ap number c.in-WrongSort.is)

pub returns-in-NoRoom : goal.returns-in-NoRoom
unfolding number
returns-in-NoRoom c = sym (ap number c.in-NoRoom.is)

pub returns-in-SheetTooLong : goal.returns-in-SheetTooLong
unfolding number
returns-in-SheetTooLong c = sym (ap number c.in-SheetTooLong.is)

pub returns-in-TooManyDeclarations : goal.returns-in-TooManyDeclarations
unfolding number
returns-in-TooManyDeclarations c = sym (ap number c.in-TooManyDeclarations.is)

pub returns-in-Repeated : goal.returns-in-Repeated
unfolding number
returns-in-Repeated c = sym (ap number c.in-Repeated.is)

pub returns-in-CallTooLong : goal.returns-in-CallTooLong
unfolding number
returns-in-CallTooLong c = sym (ap number c.in-CallTooLong.is)

pub returns-in-NotAnEncoding : goal.returns-in-NotAnEncoding
unfolding number
returns-in-NotAnEncoding c = sym (ap number c.in-NotAnEncoding.is)

pub returns-in-NoSuchFunction : goal.returns-in-NoSuchFunction
unfolding number
returns-in-NoSuchFunction c = sym (ap number c.in-NoSuchFunction.is)

pub returns-in-SheetChanged : goal.returns-in-SheetChanged
unfolding number
returns-in-SheetChanged c = sym (ap number c.in-SheetChanged.is)

pub returns-in-NotTight : goal.returns-in-NotTight
unfolding number
returns-in-NotTight c = sym (ap number c.in-NotTight.is)

pub returns-in-NoSuchSample : goal.returns-in-NoSuchSample
unfolding number
returns-in-NoSuchSample c = sym (ap number c.in-NoSuchSample.is)
