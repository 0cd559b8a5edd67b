-- The lines that are written of a declaration or a field.
-- Assumes nothing.
use Rattle.std.specs.Prelude.{List, ◌∷◌, ◌++◌, ℕ, Option, None, Some}
use Rattle.kinds.specs.Bytes.{ascii, space}
use Rattle.kinds.specs.Kind.{Kind, Prototype, kind_text, canonical}
use Rattle.model.specs.declared.Keyword.{Keyword}
use Rattle.model.specs.declared.Keyword.TheVariants as key
use Rattle.model.specs.Tree.{Field, field, kind_of, kinds_of, Declaration, name_kinds}
use Rattle.model.specs.Reading.{keyword_text}

unfoldable pub keyword_in : Declaration → Keyword
keyword_in (Declaration.function m nm ins outs) = key.Function
keyword_in (Declaration.constructor m ins) = key.Constructor
keyword_in (Declaration.event a nm ins) = key.Event
keyword_in (Declaration.error nm ins) = key.Error

abbrev pub canonical_by : Option Prototype → Option (List ℕ)
canonical_by None = None
canonical_by (Some p) = Some (canonical p)

-- the canonical text of a function, event or error
unfoldable pub canonical_text : Declaration → Option (List ℕ)
canonical_text d = canonical_by (name_kinds d)

-- "The signature call writes canonical text, `:`, and the outputs in brackets."
unfoldable pub signature_text : Declaration → Option (List ℕ)
signature_text (Declaration.function m nm ins outs) =
    Some (canonical (record { name = nm; kinds = kinds_of ins }) ++ (ascii ":" ++ kind_text (Kind.tuple (kinds_of outs))))
signature_text (Declaration.constructor m ins) = None
signature_text (Declaration.event a nm ins) = None
signature_text (Declaration.error nm ins) = None

-- "The kind-text call writes a field record's kind."
unfoldable pub field_text : Field → List ℕ
field_text f = kind_text (kind_of f)

-- the name of a function, event or error
unfoldable pub name_of : Declaration → Option (List ℕ)
name_of (Declaration.function m nm ins outs) = Some nm
name_of (Declaration.constructor m ins) = None
name_of (Declaration.event a nm ins) = Some nm
name_of (Declaration.error nm ins) = Some nm

unfoldable pub field_name : Field → List ℕ
field_name (field m nm b ss) = nm

-- "Its keyword, one space and its canonical text"
unfoldable pub line : Keyword → Prototype → List ℕ
line k p = keyword_text k ++ (space ∷ canonical p)
