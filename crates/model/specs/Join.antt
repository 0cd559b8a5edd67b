-- Order 11: two sheets joined, a front and a back.
-- Assumes nothing.
use Rattle.std.specs.Prelude.{Bool, true, false, ◌&&◌, not, List, [], ◌∷◌, ◌++◌, ℕ, ltb, length}
use Rattle.model.specs.declared.Refusal.TheVariants.{TooManyDeclarations}
use Rattle.model.specs.Tree.{Declaration}
use Rattle.model.specs.Sheet.{most_declarations, has, decode_sheet, OnLine, refuses_on, writes_sheet}
use Rattle.model.specs.Append.{of_sheet}

abbrev pub is_constructor : Declaration → Bool
is_constructor (Declaration.function m nm ins outs) = false
is_constructor (Declaration.constructor m ins) = true
is_constructor (Declaration.event a nm ins) = false
is_constructor (Declaration.error nm ins) = false

-- "each of its functions, events and errors whose keyword and canonical text the front doesn't have. The back's constructor is dropped."
unfoldable pub is_lacking : List Declaration → Declaration → Bool
is_lacking fs d = not (is_constructor d) && not (has fs d)

-- "in the back's order"
unfoldable pub lacking : List Declaration → List Declaration → List Declaration
lacking fs [] = []
lacking fs (d ∷ ds) = elim (is_lacking fs d) [ true ↦ d ∷ lacking fs ds | false ↦ lacking fs ds ]

-- "the front's declarations in order, then, in the back's order, each of its functions, events and errors"
unfoldable pub joined : List Declaration → List Declaration → List Declaration
joined fs bs = fs ++ lacking fs bs

-- "Over 512 gives 22 at line 0, after 15 for either sheet and before 20."
abbrev pub join_by : List Declaration → List Declaration → OnLine
join_by fs bs = elim (ltb most_declarations (length (joined fs bs))) [ true ↦ refuses_on TooManyDeclarations 0 0 | false ↦ writes_sheet (joined fs bs) ]

unfoldable pub join_output : List ℕ → List ℕ → OnLine
join_output f b = of_sheet (decode_sheet f) (λ fs. of_sheet (decode_sheet b) (λ bs. join_by fs bs))
