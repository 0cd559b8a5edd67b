-- Answers: what a call says and leaves, from what it has to write and the room that it is lent.
-- Assumes nothing.
use Rattle.std.specs.Prelude.{true, false, List, [], ◌++◌, ℕ, ltb, length, drop, Result, Ok, Err}
use Rattle.model.specs.declared.Refusal.{Refusal}
use Rattle.model.specs.declared.Refusal.TheVariants.{Eos, ExpectOpen, ExpectClose, ExpectDeclaration, ExpectKeyword, ExpectIdentifier, ExpectEnd, TooLong, NotUtf8, TooDeep, InvalidBitWidth, InvalidByteLength, Unknown, NotWellFormed, WrongSort, NoRoom, SheetTooLong, TooManyDeclarations, Repeated, CallTooLong, NotAnEncoding, NoSuchFunction, SheetChanged, NotTight, NoSuchSample}
use Rattle.model.specs.declared.Refused.{Refused}

-- the numbers of documents 01 and 02
unfoldable pub number : Refusal → ℕ
number Eos = 1
number ExpectOpen = 2
number ExpectClose = 3
number ExpectDeclaration = 4
number ExpectKeyword = 5
number ExpectIdentifier = 6
number ExpectEnd = 7
number TooLong = 8
number NotUtf8 = 9
number TooDeep = 10
number InvalidBitWidth = 11
number InvalidByteLength = 12
number Unknown = 13
number NotWellFormed = 15
number WrongSort = 16
number NoRoom = 20
number SheetTooLong = 21
number TooManyDeclarations = 22
number Repeated = 23
number CallTooLong = 24
number NotAnEncoding = 25
number NoSuchFunction = 26
number SheetChanged = 27
number NotTight = 28
number NoSuchSample = 29

-- "an acceptance, or one refusal number and position"; an acceptance has the output's length
pub data Outcome : Type 0 where
  accepted : ℕ → Outcome
  refused : ℕ → ℕ → Outcome

-- what a call answers: the length of what it wrote, or why it refuses and where
abbrev pub Answer : Type 0
Answer = Result ℕ Refused

abbrev pub refusal_at : Refusal → ℕ → Refused
refusal_at w p = record { refusal = w; position = p }

-- a refusal that stands at the start
abbrev pub at_start : Refusal → Refused
at_start w = refusal_at w 0

abbrev pub refusing : Refusal → ℕ → Answer
refusing w p = Err (refusal_at w p)

-- what the cases of an answer say
unfoldable pub said : Answer → Outcome
said (Ok n) = accepted n
said (Err r) = refused (number r.refusal) r.position

-- what a call would write if it were lent enough, or why and where it refuses in any case
pub data Output : Type 0 where
  writes : List ℕ → Output
  refuses : Refusal → ℕ → Output

-- how many bytes a call wants to be lent
unfoldable pub needed : Output → ℕ
needed (writes u) = length u
needed (refuses w p) = 0

-- "20 too short for the whole output, position 0. An accepted call that writes answers its output's length": what a call says that is lent so
-- many bytes
unfoldable pub outcome : ℕ → Output → Outcome
outcome room (writes u) = elim (ltb room (length u)) [ true ↦ refused (number NoRoom) 0 | false ↦ accepted (length u) ]
outcome room (refuses w p) = refused (number w) p

-- "writes that many first bytes and leaves the later ones"; "After a refusal every lent buffer holds its former bytes": what the lent buffer b
-- holds at exit
unfoldable pub after : List ℕ → Output → List ℕ
after b (writes u) = elim (ltb (length b) (length u)) [ true ↦ b | false ↦ u ++ drop (length u) b ]
after b (refuses w p) = b

-- "A lent number takes its refusal, 0 if none."
unfoldable pub refusal_number : Output → ℕ
refusal_number (writes u) = 0
refusal_number (refuses w p) = number w

-- the bytes that are handed back: "on refusal, the record's empty beginning"
unfoldable pub handed : Output → List ℕ
handed (writes u) = u
handed (refuses w p) = []
