-- A strip of film holds lines, or signatures, one behind the other with nothing between: how long the first one is. Demand 3 joins lines "end to end,
-- without separators"; order 13: "The second film track carries function signatures without separators."
-- Assumes nothing.
use Rattle.std.specs.Prelude.{cond, List, [], ◌∷◌, ℕ, zero, suc, ◌+◌, ◌-◌, eqb, drop, Option, None, Some}
use Rattle.kinds.specs.Bytes.{lparen, rparen}
use Rattle.model.specs.Text.{word_length}

abbrev pub colon : ℕ
colon = 58

-- a length with n bytes more before it
abbrev pub behind : ℕ → Option ℕ → Option ℕ
behind n None = None
behind n (Some m) = Some (n + m)

-- how many brackets are open behind the byte c
abbrev pub open_after : ℕ → ℕ → ℕ
open_after c d = cond (eqb c lparen) (suc d) (cond (eqb c rparen) (d - 1) d)

-- nothing more belongs to it once no bracket is open
abbrev pub or_closed : ℕ → Option ℕ → Option ℕ
or_closed zero more = Some 0
or_closed (suc d) more = more

-- where d brackets are open: how many bytes there are up to the `)` that closes the last of them, and with it
unfoldable pub closing : ℕ → List ℕ → Option ℕ
closing d [] = None
closing d (c ∷ t) = behind 1 (or_closed (open_after c d) (closing (open_after c d) t))

-- a `(` and everything up to the `)` that closes it
abbrev pub brackets : List ℕ → Option ℕ
brackets [] = None
brackets (c ∷ t) = cond (eqb c lparen) (behind 1 (closing 1 t)) None

-- a line is a word, and brackets directly behind it
abbrev pub word_brackets : ℕ → List ℕ → Option ℕ
word_brackets zero s = None
word_brackets (suc n) s = behind (suc n) (brackets (drop (suc n) s))

unfoldable pub next_line : List ℕ → Option ℕ
next_line s = word_brackets (word_length s) s

-- a signature is a line, a `:`, and brackets directly behind it
abbrev pub outputs : List ℕ → Option ℕ
outputs [] = None
outputs (c ∷ t) = cond (eqb c colon) (behind 1 (brackets t)) None

abbrev pub line_outputs : Option ℕ → List ℕ → Option ℕ
line_outputs None s = None
line_outputs (Some n) s = behind n (outputs (drop n s))

unfoldable pub next_signature : List ℕ → Option ℕ
next_signature s = line_outputs (next_line s) s
