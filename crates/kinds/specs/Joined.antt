-- Lists of prototypes: their canonical texts joined, and what it means that two lists agree.
-- Assumes nothing.
use Rattle.std.specs.Prelude.{◌≡◌, Bool, true, ◌&&◌, List, [], ◌∷◌, ◌++◌, ℕ, ◌<◌, length, get_or}
use Rattle.kinds.specs.Bytes.{is_word}
use Rattle.kinds.specs.Kind.{no_kind, Prototype, canonical}

-- "Join each list's canonical texts end to end, without separators."
unfoldable pub joined : List Prototype → List ℕ
joined [] = []
joined (p ∷ ps) = canonical p ++ joined ps

-- every name is a word
unfoldable pub named : List Prototype → Bool
named [] = true
named (p ∷ ps) = is_word p.name && named ps

-- what stands past a list's end
abbrev pub nothing : Prototype
nothing = record { name = []; kinds = no_kind }

-- "the lists are equally long and agree place by place in name and kinds"
pub record Agree (xs ys : List Prototype) : Type 0 where
  pub long : length xs ≡ length ys
  pub names : (i : ℕ) → i < length xs → (get_or xs i nothing).name ≡ (get_or ys i nothing).name
  pub inputs : (i : ℕ) → i < length xs → (get_or xs i nothing).kinds ≡ (get_or ys i nothing).kinds
