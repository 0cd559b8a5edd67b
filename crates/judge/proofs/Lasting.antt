-- The last of suffixes, found going forwards, and the array that it makes.
-- Assumes nothing.
use mathlib.Core.Path.{◌≡◌, refl, sym, ◌∙◌, ap}
use mathlib.Core.Bool.{true}
use mathlib.Core.List.{List, [], ◌∷◌, ◌++◌, append_assoc}
use Rattle.std.specs.Prelude.{Some}
use Prim.Native.Nat.{ℕ, ◌+◌, ◌-◌, ◌≤◌, ◌<◌}
use native.Mathlib.Omega.{arith}
use lib.ListN.{length, take, length-append, length-take}
use lib.Seq.{take_at}
use borrow.Author.Tests.{leb-true}
use Rattle.kinds.specs.Bytes.{all}
use Rattle.kinds.specs.Kind.{Suffix, sized, unsized, Kind}
use Rattle.kinds.proofs.Logic.{left, all_append}
use Rattle.model.specs.Tree.{base_kind}
use Rattle.model.specs.Reading.{FieldKind}
use Rattle.model.specs.KindText.{longest}
use Rattle.model.specs.Record.{encode_base, encode_suffix, encode_suffixes, is_suffix}
use Rattle.model.proofs.Spelling.{arrays-last}
use Rattle.record.specs.declared.Piece.{Piece}
use Rattle.record.specs.Parts.{PieceIs, Headed}
use Rattle.record.specs.Encoded.{KindIs, SuffixesAre, SomeSuffixes}
use Rattle.record.proofs.Standing.{suffixes-headed, suffix_code, suffix_body, no-suffixes, first-suffix, kind-parts}
use Rattle.extent.specs.Walks.{tree_of}
use Rattle.extent.specs.Extents.{SuffixIs}
use Rattle.judge.specs.Steps.{LastOf}

-- The walk.

-- of the suffixes b those that stand in l are left
pub record Reached (b l : List ℕ) : Type 0 where
  pub some : 0 < length l
  pub all : (ss : List Suffix) → SuffixesAre b ss → (front : List Suffix) × (rest : List Suffix) × (ss ≡ front ++ rest) × SuffixesAre l rest

pub reached-start : (b : List ℕ) → 0 < length b → Reached b b
reached-start b h = record { some = h; all = λ ss i. ([], ss, refl, i) }

module _ (b l : List ℕ) (w : Reached b l) where
  pub reached-headed : SomeSuffixes b → Headed l
  reached-headed q = let (front, rest, e, i) = w.all q.0 q.1 in suffixes-headed l (rest, i) w.some

  module _ (p : Piece) (j : PieceIs l (Some p)) where
    pub reached-next : (length p.rest.now ≡ 0 → ⊥) → Reached b p.rest.now
    reached-next h = record {
      some = omega arith;
      all = λ ss i.
          let (front, rest, e, k) = w.all ss i in
          let x = first-suffix l p rest k w.some j in
          (front ++ (x.suffix ∷ []), x.suffixes, e ∙ ap (λ r. front ++ r) x.split ∙ sym (append_assoc front (x.suffix ∷ []) x.suffixes), x.rest);
    }

    pub reached-last : length p.rest.now ≡ 0 → LastOf b l
    reached-last h = record {
      some = w.some;
      all = λ ss i.
          let (front, rest, e, k) = w.all ss i in
          let x = first-suffix l p rest k w.some j in
          let one : rest ≡ x.suffix ∷ [] = x.split ∙ ap (λ r. x.suffix ∷ r) (no-suffixes p.rest.now x.suffixes x.rest h) in
          record { front = front; last = x.suffix; split = e ∙ ap (λ r. front ++ r) one; here = rw one at k };
    }

pub ruleset walk = (reached-start, reached-headed, reached-next, reached-last)

-- An array, by its last suffix.

-- suffixes in front of others
suffixes_append : (xs ys : List Suffix) → encode_suffixes 4 (xs ++ ys) ≡ encode_suffixes 4 xs ++ encode_suffixes 4 ys
unfolding encode_suffixes
suffixes_append [] ys = refl
suffixes_append (x ∷ xs) ys =
    ap (λ u. encode_suffix 4 x ++ u) (suffixes_append xs ys) ∙ sym (append_assoc (encode_suffix 4 x) (encode_suffixes 4 xs) (encode_suffixes 4 ys))

-- what stands before the last one is the kind of the elements
pub record ArrayHere (t l : List ℕ) (k : FieldKind) : Type 0 where
  pub kind : FieldKind
  pub last : Suffix
  pub element : KindIs (take (length t - length l) t) kind
  pub suffix : SuffixesAre l (last ∷ [])
  pub tree : tree_of k ≡ Kind.array (tree_of kind) last
  pub long : length l ≤ length t

pub array-here : (t l : List ℕ) (p : Piece) (k : FieldKind) → KindIs t k → PieceIs t (Some p) → LastOf p.rest.now l → ArrayHere t l k
array-here t l p k i j v =
    let x = v.all k.suffixes (kind-parts t p k i j).suffixes in
    let B : List ℕ = encode_base 4 k.base ++ encode_suffixes 4 x.front in
    let whole : t ≡ B ++ l =
    i.same ∙ ap (λ ss. encode_base 4 k.base ++ encode_suffixes 4 ss) x.split ∙ ap (λ u. encode_base 4 k.base ++ u) (suffixes_append x.front (x.last ∷ []))
    ∙ sym (append_assoc (encode_base 4 k.base) (encode_suffixes 4 x.front) (encode_suffixes 4 (x.last ∷ []))) ∙ ap (λ u. B ++ u) (sym x.here.same) in
    let long : length t ≡ length B + length l = ap length whole ∙ length-append B l in
    record {
      kind = record { base = k.base; suffixes = x.front };
      last = x.last;
      element = record {
        same = ap (take (length t - length l)) whole ∙ take_at B l (length t - length l) (omega arith);
        small = omega (arith, length-take (length t - length l) t, i.small);
        d = i.d;
        base-well = i.base-well;
        suffixes-well = left _ (sym (all_append is_suffix x.front (x.last ∷ [])) ∙ ap (all is_suffix) (sym x.split) ∙ i.suffixes-well);
      };
      suffix = x.here;
      tree = ap (λ ss. tree_of (record { base = k.base; suffixes = ss })) x.split ∙ arrays-last x.front (base_kind k.base) x.last;
      long = omega arith;
    }

-- its record, read
pub suffix-is : (l : List ℕ) (p : Piece) (o : Suffix) → SuffixesAre l (o ∷ []) → 0 < length l → PieceIs l (Some p) → SuffixIs p o
suffix-is l p o i h j =
    let x = first-suffix l p (o ∷ []) i h j in
    let e : o ≡ x.suffix = cc in
    go o (x.kind ∙ ap suffix_code (sym e)) (x.body_is ∙ ap suffix_body (sym e)) (ap is_suffix e ∙ x.well)
  where
    go : (o : Suffix) → p.kind ≡ suffix_code o → p.body.now ≡ suffix_body o → is_suffix o ≡ true → SuffixIs p o
    go (sized n) a b c = (a, b, omega (arith, leb-true n longest c))
    go unsized a b c = a
