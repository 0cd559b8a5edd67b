-- Order 4: whole declarations written out.
-- Assumes nothing.
use Rattle.std.specs.Prelude.{List, [], ◌∷◌, ◌++◌, ℕ}
use Rattle.kinds.specs.Bytes.{ascii, space, lparen}
use Rattle.model.specs.declared.Keyword.{Keyword}
use Rattle.model.specs.declared.Keyword.TheVariants as key
use Rattle.model.specs.declared.Call.{Call}
use Rattle.model.specs.declared.Call.TheVariants as call
use Rattle.model.specs.Tree.{Fields, no_field, more_fields, Declaration}
use Rattle.model.specs.Reading.{mutabilities, keyword_text}
use Rattle.model.specs.Record.{decode, case, select}
use Rattle.model.specs.Written.{name_text, by_mark, written_list}
use Rattle.model.specs.Answer.{Output, writes}
use Rattle.model.specs.Calls.{of_record}

-- a list, in its brackets
abbrev pub bracketed : Fields → List ℕ
bracketed fs = lparen ∷ written_list fs

-- "a space and the mutability word unless none is stated"
abbrev pub mutability_text : ℕ → List ℕ
mutability_text m = name_text (select (by_mark mutabilities) [] m)

-- "` returns ` and the list if there are outputs"
abbrev pub returns_text : Fields → List ℕ
returns_text no_field = []
returns_text (more_fields f fs) = ascii " returns " ++ bracketed (more_fields f fs)

-- "` anonymous` where set"
abbrev pub anonymous_text : ℕ → List ℕ
anonymous_text a = select (case 1 (ascii " anonymous") ∷ []) [] a

-- "keyword; a space and the name (none for a constructor); the list; a space and the mutability word unless none is stated; ` returns ` and the list if
-- there are outputs; ` anonymous` where set"
unfoldable pub full_text : Declaration → List ℕ
full_text (Declaration.function m nm ins outs) = keyword_text key.Function ++ ((space ∷ nm) ++ (bracketed ins ++ (mutability_text m ++ returns_text outs)))
full_text (Declaration.constructor m ins) = keyword_text key.Constructor ++ (bracketed ins ++ mutability_text m)
full_text (Declaration.event a nm ins) = keyword_text key.Event ++ ((space ∷ nm) ++ (bracketed ins ++ anonymous_text a))
full_text (Declaration.error nm ins) = keyword_text key.Error ++ ((space ∷ nm) ++ bracketed ins)

-- "For any well-formed declaration write"; of any other record "15 record not well formed (or of the wrong sort: a field where a declaration is due),
-- position 0"
unfoldable pub full_output : List ℕ → Output
full_output b = of_record (decode b) (λ d. writes (full_text d))

-- the calls that read a declaration with this keyword: the general call, and the call named for the keyword
abbrev pub call_of : Keyword → Call
call_of key.Function = call.Function
call_of key.Constructor = call.Constructor
call_of key.Event = call.Event
call_of key.Error = call.Error

pub data Takes : Keyword → Call → Type 0 where
  general : (k : Keyword) → Takes k call.General
  named : (k : Keyword) → Takes k (call_of k)
