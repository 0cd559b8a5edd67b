-- A machine that takes joined canonical texts apart, a byte at a time. It is a means of proof: it refuses no text.
-- Assumes nothing.
use mathlib.Core.Bool.{Bool, true, false, ◌&&◌, cond}
use mathlib.Core.List.{List, [], ◌∷◌, ◌++◌, foldl}
use Rattle.std.specs.Prelude.{Option, None, Some}
use Prim.Native.Nat.{ℕ}
use lib.Dec.{eqb}
use lib.ListN.{drop}
use Rattle.kinds.specs.Bytes.{ascii, lparen, comma, lbracket, is_word_byte}
use Rattle.kinds.specs.Decimal.{value, unsigned}
use Rattle.kinds.specs.Kind.{bits, octets, Elementary, int, uint, fixed_bytes, address, bool, function, bytes, string, Suffix, sized, unsized, Kind, elementary, tuple, array, Kinds, no_kind, more_kinds, Prototype}

-- the text s begins with p
abbrev starts : List ℕ → List ℕ → Bool
starts [] s = true
starts (c ∷ p) [] = false
starts (c ∷ p) (d ∷ s) = eqb c d && starts p s

abbrev bytes_of : Option ℕ → Elementary
bytes_of None = bytes
bytes_of (Some m) = fixed_bytes (octets m)

-- the kind that a word is, by its first letters
unfoldable pub elementary_of : List ℕ → Option Elementary
elementary_of s =
    cond (starts (ascii "i") s) (Some (int (bits (value 0 (drop 3 s)))))
    (cond (starts (ascii "u") s) (Some (uint (bits (value 0 (drop 4 s)))))
    (cond (starts (ascii "by") s) (Some (bytes_of (unsigned (drop 5 s))))
    (cond (starts (ascii "a") s) (Some address)
    (cond (starts (ascii "b") s) (Some bool)
    (cond (starts (ascii "f") s) (Some function)
    (cond (starts (ascii "s") s) (Some string) None))))))

abbrev pub suffix_of : Option ℕ → Suffix
suffix_of None = unsized
suffix_of (Some n) = sized n

-- the list being read: what was read whole before it, its name, its kinds so far, and the lists around it, innermost first
pub data Place : Type 0 where
  at : List Prototype → List ℕ → Kinds → List Kinds → Place

pub data State : Type 0 where
  in_name : List Prototype → List ℕ → State
  in_word : Place → List ℕ → State
  after_kind : Place → Kind → State
  in_suffix : Place → Kind → List ℕ → State

unfoldable pub snoc : Kinds → Kind → Kinds
snoc no_kind k = more_kinds k no_kind
snoc (more_kinds j ks) k = more_kinds j (snoc ks k)

unfoldable pub add : Place → Kind → Place
add (at done n ks out) k = at done n (snoc ks k) out

unfoldable pub open_list : Place → Place
open_list (at done n ks out) = at done n no_kind (ks ∷ out)

unfoldable pub close : Place → State
close (at done n ks []) = in_name (done ++ (record { name = n; kinds = ks } ∷ [])) []
close (at done n ks (js ∷ out)) = after_kind (at done n js out) (tuple ks)

unfoldable pub stop : Place → Kind → ℕ → State
stop p k c = cond (eqb c lbracket) (in_suffix p k []) (cond (eqb c comma) (in_word (add p k) []) (close (add p k)))

unfoldable pub stop_word : Place → Option Elementary → ℕ → State
stop_word p None c = close p
stop_word p (Some e) c = stop p (elementary e) c

unfoldable pub step : State → ℕ → State
step (in_name done n) c = cond (is_word_byte c) (in_name done (n ++ (c ∷ []))) (in_word (at done n no_kind []) [])
step (in_word p w) c = cond (is_word_byte c) (in_word p (w ++ (c ∷ []))) (cond (eqb c lparen) (in_word (open_list p) []) (stop_word p (elementary_of w) c))
step (after_kind p k) c = stop p k c
step (in_suffix p k d) c = cond (is_word_byte c) (in_suffix p k (d ++ (c ∷ []))) (after_kind p (array k (suffix_of (unsigned d))))

unfoldable pub feed : State → List ℕ → State
feed s t = foldl step s t

unfoldable pub found : State → List Prototype
found (in_name done n) = done
found (in_word p w) = []
found (after_kind p k) = []
found (in_suffix p k d) = []
