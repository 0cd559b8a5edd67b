-- The calls that read a text: what each writes, and their names.
-- Assumes nothing.
use Rattle.std.specs.Prelude.{List, [], ◌∷◌, ℕ, true, false, Option, Some, option_map}
use Rattle.kinds.specs.Bytes.{ascii, same}
use Rattle.model.specs.declared.Call.{Call}
use Rattle.model.specs.declared.Call.TheVariants.{General, Function, Constructor, Event, Error}
use Rattle.model.specs.KindText.{Entry, entry, lookup}
use Rattle.model.specs.Answer.{Output}
use Rattle.model.specs.Calls.{read_output, kind_output}
use Rattle.tables.specs.declared.Asked.{Asked}
use Rattle.tables.specs.declared.Asked.TheVariants.{Declaration, Kind}

abbrev pub asked_output : Asked → List ℕ → Output
asked_output (Declaration call) s = read_output call s
asked_output Kind s = kind_output s

abbrev pub call_names : List (Entry Call)
call_names =
    entry (ascii "general") General
    ∷ entry (ascii "function") Function
    ∷ entry (ascii "constructor") Constructor
    ∷ entry (ascii "event") Event
    ∷ entry (ascii "error") Error
    ∷ []

-- and the kind call's
abbrev pub asked_named : List ℕ → Option Asked
asked_named w = elim (same (ascii "kind") w) [ true ↦ Some Kind | false ↦ option_map Declaration (lookup call_names w) ]
