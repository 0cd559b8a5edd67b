-- The starred edges of document 01, as one table.
-- Assumes nothing.
use mathlib.Core.Path.{◌≡◌, refl}
use mathlib.Core.List.{List, [], ◌∷◌}
use Prim.Native.Nat.{ℕ}
use Prim.Native.String.{String}
use Rattle.kinds.specs.Bytes.{ascii}
use Rattle.model.specs.declared.Call.TheVariants as call
use Rattle.model.specs.Reading.{admit}
use Rattle.model.specs.Line.{field_text}
use Rattle.model.specs.Answer.{writes, refused, outcome}
use Rattle.model.specs.Calls.{read_output, kind_output, read_kind, written}
use Rattle.model.proofs.Evaluation.{evaluation}

-- a kind text that reads, by the kind that it is read as; a kind text, or a text for the general call, that is refused, with number and position
pub data Edge : Type 0 where
  reads-kind : String → String → Edge
  refuses-kind : String → ℕ → ℕ → Edge
  refuses-text : String → ℕ → ℕ → Edge

-- lent 1,000 bytes
unfoldable pub Holds : Edge → Type 0
Holds (reads-kind t k) = written field_text (admit read_kind (ascii t)) ≡ writes (ascii k)
Holds (refuses-kind t n p) = outcome 1000 (kind_output (ascii t)) ≡ refused n p
Holds (refuses-text t n p) = outcome 1000 (read_output call.General (ascii t)) ≡ refused n p

unfoldable pub AllHold : List Edge → Type 0
AllHold [] = Unit {0}
AllHold (e ∷ es) = Holds e × AllHold es

unfoldable pub table : List Edge
table =
    reads-kind "uint8" "uint8"
    ∷ reads-kind "uint256" "uint256"
    ∷ refuses-kind "uint12" 11 0
    ∷ refuses-kind "uint264" 11 0
    ∷ reads-kind "bytes32" "bytes32"
    ∷ refuses-kind "bytes33" 12 0
    ∷ refuses-kind "" 13 0
    ∷ refuses-text "" 4 0
    ∷ refuses-text " function f()" 4 0
    ∷ refuses-text "function f" 1 10
    ∷ refuses-text "function f(uin)" 3 11
    ∷ refuses-text "function f(bool,)" 3 15
    ∷ refuses-text "function f(uint []a)" 3 16
    ∷ []

pub edges : AllHold table
unfolding evaluation Holds AllHold table
edges = (refl, (refl, (refl, (refl, (refl, (refl, (refl, (refl, (refl, (refl, (refl, (refl, (refl, tt)))))))))))))
