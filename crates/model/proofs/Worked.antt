-- Worked examples beside the table of edges, for what it does not touch.
-- Assumes nothing.
use mathlib.Core.Path.{◌≡◌, refl}
use mathlib.Core.Bool.{Bool, true, false}
use mathlib.Core.List.{List, [], ◌∷◌, ◌++◌}
use Rattle.std.specs.Prelude.{Some}
use Prim.Native.Nat.{ℕ}
use Prim.Native.String.{String}
use Rattle.kinds.specs.Bytes.{ascii}
use Rattle.kinds.specs.Kind.{bits, Elementary, uint, bool, string, sized, unsized, Kind}
use Rattle.model.specs.declared.Call.TheVariants as call
use Rattle.model.specs.declared.Sort.{Sort}
use Rattle.model.specs.declared.Sort.TheVariants.{Plain, Parameter, Event}
use Rattle.model.specs.Text.{skip, run_length, valid_length}
use Rattle.model.specs.Tree.{elementary, tuple, field, no_field, more_fields, Declaration, kind_of}
use Rattle.model.specs.Parser.{got}
use Rattle.model.specs.Reading.{parse}
use Rattle.model.specs.Record.{is_field, decode}
use Rattle.model.specs.Answer.{Output, writes, refuses, accepted, refused, outcome, after}
use Rattle.model.specs.Calls.{read_output, read_kind, kind_output, canonical_output, signature_output, name_output}
use Rattle.model.specs.Message.{message_output}
use Rattle.model.specs.Deposit.{deposit_line}
use Rattle.model.specs.Full.{full_output}
use Rattle.model.proofs.Evaluation.{evaluation}

-- document 01's record of `function f(uint a)`
abbrev worked : List ℕ
worked =
    0x32 ∷ 0 ∷ 0 ∷ 0 ∷ 0x20 ∷ 0 ∷ 2 ∷ 0
    ∷ 7 ∷ 0 ∷ 0 ∷ 0 ∷ 0x11 ∷ 0 ∷ 0x66
    ∷ 0x1D ∷ 0 ∷ 0 ∷ 0 ∷ 0x12 ∷ 0
    ∷ 0x17 ∷ 0 ∷ 0 ∷ 0 ∷ 0x10 ∷ 0 ∷ 0 ∷ 0
    ∷ 7 ∷ 0 ∷ 0 ∷ 0 ∷ 0x11 ∷ 0 ∷ 0x61
    ∷ 8 ∷ 0 ∷ 0 ∷ 0 ∷ 2 ∷ 0 ∷ 0 ∷ 1
    ∷ 6 ∷ 0 ∷ 0 ∷ 0 ∷ 0x12 ∷ 0 ∷ []

record_written : read_output call.General (ascii "function f(uint a)") ≡ writes worked
unfolding evaluation
record_written = refl

record_read : decode worked ≡ Some (Declaration.function 2 (ascii "f") (more_fields (field 0 (ascii "a") (elementary (uint (bits 256))) []) no_field) no_field)
unfolding evaluation
record_read = refl

lines-written : (canonical_output worked ≡ writes (ascii "f(uint256)")) × (signature_output worked ≡ writes (ascii "f(uint256):()")) × (name_output worked ≡ writes (ascii "f"))
unfolding evaluation
lines-written = (refl, refl, refl)

-- lent one byte too few it leaves them all; lent one too many it leaves the last
room : (outcome 9 (canonical_output worked) ≡ refused 20 0) × (after (1 ∷ 2 ∷ []) (canonical_output worked) ≡ 1 ∷ 2 ∷ []) × (outcome 10 (canonical_output worked) ≡ accepted 10) × (after (ascii "0123456789X") (canonical_output worked) ≡ ascii "f(uint256)X")
unfolding evaluation
room = (refl, refl, refl, refl)

-- byte A0 inside a character (U+00E0 is C3 A0) is no blank, and U+00A0 (C2 A0) is one
inside-character : run_length (ascii "uint" ++ (0xC3 ∷ 0xA0 ∷ ascii " a")) ≡ 6
unfolding evaluation
inside-character = refl

no_break_space : (run_length (ascii "uint" ++ (0xC2 ∷ 0xA0 ∷ ascii "a")) ≡ 4) × (skip (ascii "uint" ++ (0xC2 ∷ 0xA0 ∷ ascii "a")) 4 ≡ 6)
unfolding evaluation
no_break_space = (refl, refl)

-- an overlong form, a surrogate, what lies above 10FFFF and a character cut short are no UTF-8; their neighbours are
utf8 : (valid_length (0xC1 ∷ 0xBF ∷ []) ≡ 0) × (valid_length (0xC2 ∷ 0x80 ∷ []) ≡ 2) × (valid_length (0xED ∷ 0xA0 ∷ 0x80 ∷ []) ≡ 0) × (valid_length (0xED ∷ 0x9F ∷ 0xBF ∷ []) ≡ 3) × (valid_length (0xF4 ∷ 0x90 ∷ 0x80 ∷ 0x80 ∷ []) ≡ 0) × (valid_length (0xF4 ∷ 0x8F ∷ 0xBF ∷ 0xBF ∷ []) ≡ 4) × (valid_length (0x61 ∷ 0xE2 ∷ 0x82 ∷ []) ≡ 1)
unfolding evaluation
utf8 = (refl, refl, refl, refl, refl, refl, refl)

-- `uint[2][]` is an open array of arrays of two
suffix-order : read_kind (ascii "uint[2][]") ≡ got (field 0 [] (elementary (uint (bits 256))) (sized 2 ∷ unsized ∷ [])) 0
unfolding evaluation
suffix-order = refl

kind-order : kind_of (field 0 [] (elementary (uint (bits 256))) (sized 2 ∷ unsized ∷ [])) ≡ Kind.array (Kind.array (Kind.elementary (uint (bits 256))) (sized 2)) unsized
unfolding evaluation
kind-order = refl

-- a word's error stands before its blanks, a character's behind them
word-error : (outcome 1000 (read_output call.General (ascii "function ()")) ≡ refused 6 8) × (outcome 1000 (read_output call.General (ascii "function f uint")) ≡ refused 2 11)
unfolding evaluation
word-error = (refl, refl)

-- `indexed` is a mark in an event's own list, and a name inside its tuple; `memory` is a mark at `string` in a constructor's, and a name at `uint`
mark-words : (parse call.General (ascii "event E((bool indexed) indexed)") ≡ got (Declaration.event 0 (ascii "E") (more_fields (field 1 [] (tuple (more_fields (field 0 (ascii "indexed") (elementary bool) []) no_field)) []) no_field)) 31) × (parse call.General (ascii "error e(uint memory)") ≡ got (Declaration.error (ascii "e") (more_fields (field 0 (ascii "memory") (elementary (uint (bits 256))) []) no_field)) 20) × (parse call.General (ascii "constructor(string memory)") ≡ got (Declaration.constructor 2 (more_fields (field 3 [] (elementary string) []) no_field)) 26)
unfolding evaluation
mark-words = (refl, refl, refl)

-- the marks from 0 to 4 that a field of a list may have, at a kind without suffixes and with a name
abbrev those : (ℕ → Bool) → List ℕ → List ℕ
those p [] = []
those p (m ∷ ms) = elim (p m) [ true ↦ m ∷ those p ms | false ↦ those p ms ]

abbrev marks_of : Sort → Elementary → String → List ℕ
marks_of sort e nm = those (λ m. is_field sort 0 (field m (ascii nm) (elementary e) [])) (0 ∷ 1 ∷ 2 ∷ 3 ∷ 4 ∷ [])

-- in a function's own list: at `string`, which admits a data location, and at `bool`, which does not
marks_located : (marks_of Parameter string "" ≡ 0 ∷ 2 ∷ 3 ∷ []) × (marks_of Parameter string "a" ≡ 0 ∷ 2 ∷ 3 ∷ []) × (marks_of Parameter string "memory" ≡ 2 ∷ 3 ∷ []) × (marks_of Parameter string "calldata" ≡ 2 ∷ 3 ∷ []) × (marks_of Parameter string "indexed" ≡ 0 ∷ 2 ∷ 3 ∷ [])
unfolding evaluation
marks_located = (refl, refl, refl, refl, refl)

marks_unlocated : (marks_of Parameter bool "" ≡ 0 ∷ []) × (marks_of Parameter bool "a" ≡ 0 ∷ []) × (marks_of Parameter bool "memory" ≡ 0 ∷ []) × (marks_of Parameter bool "calldata" ≡ 0 ∷ [])
unfolding evaluation
marks_unlocated = (refl, refl, refl, refl)

-- in a tuple or an error's list, and in an event's, at `string` all the same
marks_elsewhere : (marks_of Plain string "" ≡ 0 ∷ []) × (marks_of Plain string "memory" ≡ 0 ∷ []) × (marks_of Plain string "indexed" ≡ 0 ∷ []) × (marks_of Event string "" ≡ 0 ∷ 1 ∷ []) × (marks_of Event string "memory" ≡ 0 ∷ 1 ∷ []) × (marks_of Event string "indexed" ≡ 1 ∷ [])
unfolding evaluation
marks_elsewhere = (refl, refl, refl, refl, refl, refl)

message : message_output call.General (ascii "function ()") ≡ writes (ascii "expected identifier at position 8(\"function| ()\")")
unfolding evaluation
message = refl

-- ten bytes on each side, `...` at an end that isn't the text's, and escapes
message-context : message_output call.Function (ascii "function transfer(address\tto, \"uint256 amount)") ≡ writes (ascii "expected ) at position 28(\"...address\\tto|, \\\"uint256...\")")
unfolding evaluation
message-context = refl

deposited : (deposit_line (ascii "function f(uint a)") ≡ ascii "ok function 50 f(uint256)") × (deposit_line (ascii "constructor()") ≡ ascii "ok constructor 14 -") × (deposit_line (ascii "function f(uin)") ≡ ascii "no 3 11")
unfolding evaluation
deposited = (refl, refl, refl)

-- Order 2: a text with a visibility word where it may stand is read as the text with spaces in its place
abbrev ReadAs : String → String → Type 0
ReadAs t u = parse call.General (ascii t) ≡ parse call.General (ascii u)

visibility_unread : ReadAs "function f() external" "function f()         " × ReadAs "function f()public" "function f()      " × ReadAs "function f() public view returns (bool);" "function f()        view returns (bool);" × ReadAs "function f() view public returns (bool);" "function f() view        returns (bool);" × ReadAs "function public(uint public) public" "function public(uint public)       "
unfolding evaluation
visibility_unread = (refl, refl, refl, refl, refl)

-- with the mutability that is stated
mutability-read : (parse call.General (ascii "function f() external") ≡ got (Declaration.function 2 (ascii "f") no_field no_field) 21) × (parse call.General (ascii "function f() pure external") ≡ got (Declaration.function 0 (ascii "f") no_field no_field) 26) × (parse call.General (ascii "function f() external payable;") ≡ got (Declaration.function 3 (ascii "f") no_field no_field) 30)
unfolding evaluation
mutability-read = (refl, refl, refl)

-- "A second word of either sort is refused with 7 at that word.": so is one behind a `returns` list, and one that is no word of either sort
abbrev Refused7 : String → ℕ → Type 0
Refused7 t p = outcome 1000 (read_output call.General (ascii t)) ≡ refused 7 p

second-words : Refused7 "function f() external  public" 23 × Refused7 "function f() pure external view" 27 × Refused7 "function f() external pure public" 27 × Refused7 "function f() pure pure external" 18
unfolding evaluation
second-words = (refl, refl, refl, refl)

other-places : Refused7 "function f() external returns (uint) public" 37 × Refused7 "function f() external;external" 22 × Refused7 "function f() internal" 13 × Refused7 "function f() externalpure" 13 × Refused7 "constructor() public" 14 × Refused7 "event e() external" 10 × Refused7 "error e() public" 10
unfolding evaluation
other-places = (refl, refl, refl, refl, refl, refl, refl)

-- Order 3: a tuple in the kind call. Its components are kinds that the kind call reads
tuple-kind : (read_kind (ascii "()") ≡ got (field 0 [] (tuple no_field) []) 0) × (read_kind (ascii "(uint[2],())[2][]") ≡ got (field 0 [] (tuple (more_fields (field 0 [] (elementary (uint (bits 256))) (sized 2 ∷ [])) (more_fields (field 0 [] (tuple no_field) []) no_field))) (sized 2 ∷ unsized ∷ [])) 0)
unfolding evaluation
tuple-kind = (refl, refl)

-- "no blanks, no names"; a component's own number is not told; all of the text is one kind
abbrev Unfit : String → Type 0
Unfit t = outcome 1000 (kind_output (ascii t)) ≡ refused 13 0

blank_or_name : Unfit "(uint )" × Unfit "() " × Unfit "()[ ]" × Unfit "(uint a)" × Unfit "((uint)a)" × Unfit "(()[]a)" × Unfit "()a"
unfolding evaluation
blank_or_name = (refl, refl, refl, refl, refl, refl, refl)

component_or_suffix : Unfit "(uint12)" × Unfit "(bytes33)" × Unfit "(,)" × Unfit "(uint,)" × Unfit "(uint" × Unfit "())" × Unfit "()[+2]" × Unfit "()[18446744073709551616]"
unfolding evaluation
component_or_suffix = (refl, refl, refl, refl, refl, refl, refl, refl)

-- "Where some beginning of the text has 33 more `(` than `)`, it gets 10 at the first such `(`"
too_crowded : (outcome 1000 (kind_output (ascii "(x((((((((((((((((((((((((((((((((")) ≡ refused 10 33) × (outcome 1000 (kind_output (ascii "())))((((((((((((((((((((((((((((((((((((")) ≡ refused 10 40)
unfolding evaluation
too_crowded = (refl, refl)

-- Order 4: what is written of the record that is read of a text
abbrev in_full : Output → Output
in_full (writes b) = full_output b
in_full (refuses w p) = refuses w p

abbrev FullLine : String → String → Type 0
FullLine t u = in_full (read_output call.General (ascii t)) ≡ writes (ascii u)

full-functions : FullLine "function f ( uint  a , bool ) external view returns ( string memory )" "function f(uint256 a,bool) view returns (string memory)" × FullLine "function f() returns ()" "function f()" × FullLine "function f() public" "function f()" × FullLine "function returns(uint returns) pure returns(bool pure)" "function returns(uint256 returns) pure returns (bool pure)"
unfolding evaluation
full-functions = (refl, refl, refl, refl)

full-others : FullLine "constructor ( ) payable ;" "constructor() payable" × FullLine "event e(uint a, (uint indexed, string memory) indexed t) anonymous" "event e(uint256 a,(uint256 indexed,string memory) indexed t) anonymous" × FullLine "error e(() [2 ] a, bytes)" "error e(()[2] a,bytes)"
unfolding evaluation
full-others = (refl, refl, refl)

-- Order 7: "A number now has no sign and no leading zero, `0` itself excepted". A kind text "gets the number that its form gets today for a letter in
-- that place"
abbrev Refused : String → ℕ → Type 0
Refused t w = outcome 1000 (kind_output (ascii t)) ≡ refused w 0

no_plain-number : Refused "uint08" 11 × Refused "uint[+2]" 11 × Refused "uint[2][02]" 11 × Refused "bytes01" 12 × Refused "bytes[00]" 12 × Refused "bool[02]" 13 × Refused "(uint08)" 13 × Refused "(uint)[2][03]" 13
unfolding evaluation
no_plain-number = (refl, refl, refl, refl, refl, refl, refl, refl)

-- `0` itself is read, and `10`
zero-itself : (read_kind (ascii "bool[0]") ≡ got (field 0 [] (elementary bool) (sized 0 ∷ [])) 0) × (read_kind (ascii "()[10]") ≡ got (field 0 [] (tuple no_field) (sized 10 ∷ [])) 0)
unfolding evaluation
zero-itself = (refl, refl)

-- in a list the missing `)` stands where the field, or the tuple's suffix, would begin
abbrev Refused3 : String → ℕ → Type 0
Refused3 t p = outcome 1000 (read_output call.General (ascii t)) ≡ refused 3 p

listed-number : Refused3 "function f(uint08)" 11 × Refused3 "function f(bool,uint08)" 15 × Refused3 "error e(bytes+1)" 8 × Refused3 "function f((uint)[02])" 17 × Refused3 "function f((uint)[2][03])" 20 × Refused3 "function f(((uint)[02]))" 11
unfolding evaluation
listed-number = (refl, refl, refl, refl, refl, refl)
