-- Order 9: a function found in a sheet by its canonical text.
-- Assumes nothing.
use Rattle.std.specs.Prelude.{Bool, true, false, ◌&&◌, List, [], ◌∷◌, ℕ, zero, suc, Option, None, Some, Result, Ok, Err}
use Rattle.model.specs.declared.Refusal.TheVariants.{NotWellFormed, NoSuchFunction}
use Rattle.model.specs.declared.Found.{Found}
use Rattle.model.specs.declared.Missing.{Missing}
use Rattle.model.specs.declared.Refusal.{Refusal}
use Rattle.model.specs.Tree.{Declaration}
use Rattle.model.specs.Line.{canonical_text}
use Rattle.model.specs.Answer.{number}
use Rattle.model.specs.Sheet.{same_text, decode_sheet}

-- what the search answers: the function that was found, or why none was
abbrev pub Search : Type 0
Search = Result Found Missing

abbrev pub found_at : ℕ → ℕ → Search
found_at p n = Ok (record { place = p; compared = n })

abbrev pub not_found : Refusal → ℕ → Search
not_found w n = Err (record { refusal = w; compared = n })

abbrev pub is_function : Declaration → Bool
is_function (Declaration.function m nm ins outs) = true
is_function (Declaration.constructor m ins) = false
is_function (Declaration.event a nm ins) = false
is_function (Declaration.error nm ins) = false

-- "counting functions only"
abbrev pub counted : ℕ → Declaration → ℕ
counted n d = elim (is_function d) [ true ↦ suc n | false ↦ n ]

-- a function with that canonical text
unfoldable pub is_sought : List ℕ → Declaration → Bool
is_sought t d = is_function d && same_text (canonical_text d) (Some t)

-- "answer the place of the function with that text, counting functions only from 1, and how many were compared. When found, that count is the place;
-- otherwise it is the number of functions": n functions came before these
unfoldable pub search_in : List ℕ → ℕ → List Declaration → Search
search_in t n [] = not_found NoSuchFunction n
search_in t n (d ∷ ds) = elim (is_sought t d) [ true ↦ found_at (counted n d) (counted n d) | false ↦ search_in t (counted n d) ds ]

-- "26 none has that text, carrying the count, after 15, which carries 0"
abbrev pub search_by : Option (List Declaration) → List ℕ → Search
search_by None t = not_found NotWellFormed 0
search_by (Some ds) t = search_in t 0 ds

unfoldable pub find_output : List ℕ → List ℕ → Search
find_output b t = search_by (decode_sheet b) t

-- what the cases of a search say in document 02's numbers: 0, or the refusal's number; the place, 0 on a refusal; and how many were compared
pub record Numbers : Type 0 where
  pub refusal : ℕ
  pub place : ℕ
  pub compared : ℕ

unfoldable pub told : Search → Numbers
told (Ok f) = record { refusal = 0; place = f.place; compared = f.compared }
told (Err m) = record { refusal = number m.refusal; place = 0; compared = m.compared }

-- For the theorems: the functions of a sheet, in order, and the one with i before it.
unfoldable pub functions : List Declaration → List Declaration
functions [] = []
functions (d ∷ ds) = elim (is_function d) [ true ↦ d ∷ functions ds | false ↦ functions ds ]

abbrev pub nth : {A : Type 0} → List A → ℕ → Option A
nth [] i = None
nth (a ∷ l) zero = Some a
nth (a ∷ l) (suc i) = nth l i
