-- Hex digits two by two: what is put of a pair, and where it ends.
-- Assumes nothing.
use Rattle.std.proofs.Common.{◌≡◌, ℕ, zero, suc, ◌+◌, ◌-◌, ◌<◌, min, List, [], ◌∷◌, ◌++◌, length, take, refl, sym, ap, ◌∙◌, arith, append_assoc, append-nil, length-append}
use Rattle.std.specs.Prelude.{None, Some}
use Rattle.std.proofs.lemmas.List.{nil_from_length}
use Rattle.tables.specs.Hex.{byte_value, byte_by, digit_value, byte_then, bytes_value}

-- a pair that is a byte
pub pair_some : (pair rest all : List ℕ) (b : ℕ) → all ≡ pair ++ rest → length pair ≡ min 2 (length all) → Some b ≡ byte_value pair → bytes_value all ≡ b ∷ bytes_value rest
unfolding bytes_value
pair_some [] rest all b parts size e = absurd (cc)
pair_some (h ∷ []) rest all b parts size e = absurd (cc)
pair_some (h ∷ (l ∷ [])) rest all b parts size e =
    let whole : byte_by (digit_value h) (digit_value l) ≡ Some b = sym e in
    ap bytes_value parts ∙ ap (λ o. byte_then o (bytes_value rest)) whole
pair_some (h ∷ (l ∷ (c ∷ s))) rest all b parts size e = absurd (cc)

-- and one that is none
pub pair_none : (pair rest all : List ℕ) → all ≡ pair ++ rest → length pair ≡ min 2 (length all) → 0 < length all → None ≡ byte_value pair → bytes_value all ≡ []
unfolding bytes_value
pair_none [] rest all parts size some e = absurd (omega (arith, size))
pair_none (h ∷ []) rest all parts size some e =
    let sum = ap length parts ∙ length-append (h ∷ []) rest in
    let none : rest ≡ [] = nil_from_length rest (omega (arith, sum, size)) in
    ap bytes_value (parts ∙ ap (λ r. (h ∷ []) ++ r) none)
pair_none (h ∷ (l ∷ [])) rest all parts size some e =
    let whole : byte_by (digit_value h) (digit_value l) ≡ None = sym e in
    ap bytes_value parts ∙ ap (λ o. byte_then o (bytes_value rest)) whole
pair_none (h ∷ (l ∷ (c ∷ s))) rest all parts size some e = absurd (omega (arith, size))

-- What has room behind what is there.
abbrev pub put_behind : ℕ → List ℕ → List ℕ → List ℕ
put_behind n xs bs = xs ++ take (n - length xs) bs

pub put_one : (n b : ℕ) (xs bs : List ℕ) → length xs < n → put_behind n (xs ++ (b ∷ [])) bs ≡ put_behind n xs (b ∷ bs)
put_one n b xs bs room =
    let more : length (xs ++ (b ∷ [])) ≡ length xs + 1 = length-append xs (b ∷ []) in
    let left : n - length xs ≡ suc (n - length (xs ++ (b ∷ []))) = omega (arith, more, room) in
    append_assoc xs (b ∷ []) (take (n - length (xs ++ (b ∷ []))) bs) ∙ ap (λ k. xs ++ take k (b ∷ bs)) (sym left)

take_nil : (k : ℕ) (bs : List ℕ) → bs ≡ [] → take k bs ≡ []
take_nil zero bs e = refl
take_nil (suc k) bs e = ap (take (suc k)) e

pub put_none : (n : ℕ) (xs bs : List ℕ) → bs ≡ [] → put_behind n xs bs ≡ xs
put_none n xs bs e = ap (λ r. xs ++ r) (take_nil (n - length xs) bs e) ∙ append-nil xs

pub put_full : (n : ℕ) (xs bs : List ℕ) → length xs ≡ n → put_behind n xs bs ≡ xs
put_full n xs bs e =
    let none : n - length xs ≡ 0 = omega (arith, e) in
    ap (λ k. xs ++ take k bs) none ∙ append-nil xs

pub at_end : (s : List ℕ) → length s ≡ 0 → bytes_value s ≡ []
unfolding bytes_value
at_end s e = ap bytes_value (nil_from_length s e)
