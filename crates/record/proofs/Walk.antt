-- The walk over suffixes, fields and kinds, by how each function ends.
-- Assumes nothing.
use mathlib.Core.Path.{◌≡◌, refl, sym, ◌∙◌, ap}
use mathlib.Core.List.{List, ◌∷◌, [], ◌++◌}
use Rattle.std.specs.Prelude.{Option, None, Some}
use Rattle.std.proofs.lemmas.Option.{none-some, same_Some}
use Prim.Native.Nat.{ℕ, ◌+◌, ◌*◌, ◌-◌, ◌≤◌, ◌<◌}
use native.Mathlib.Omega.{arith}
use lib.ListN.{length, length-append}
use Rattle.kinds.specs.Bytes.{rparen}
use Rattle.model.specs.declared.Sort.{Sort}
use Rattle.model.specs.declared.Sort.TheVariants.{Plain}
use Rattle.model.specs.Record.{given, on_option}
use Rattle.record.specs.declared.Piece.{Piece}
use Rattle.record.specs.Parts.{taken, PieceIs, FrontIs}
use Rattle.record.specs.Texts.{size, AtMost, elementary_from, suffix_from, suffixes_from, base_text_from, kind_from, field_text_from, tuple_text_from}
use Rattle.record.proofs.Loops.{Left, behind, left_end, left-none, left-bad, left-next}
use Rattle.record.proofs.Equations.{suffixes_in, suffixes_in_lem, suffix_steps, fields_in, parted, field_steps, tuple-size, tuple-none, base-deep, base-tuple, base-elementary, field-other}

size-behind : (o : Option (List ℕ)) → size o ≡ behind 0 o
size-behind None = refl
size-behind (Some u) = ap Some (omega arith)

-- the loop over suffixes
module _ (b : List ℕ) where
  pub record SuffixesLeft (left : List ℕ) (n : ℕ) : Type 0 where
    pub is : Left suffixes_in (size (suffixes_from b)) left n
    pub small : n + 2 * length left ≤ 2 * length b

  pub suffixes-start : SuffixesLeft b 0
  suffixes-start = record { is = record { most = length b; enough = omega arith; same = size-behind (suffixes_from b) ∙ ap (behind 0) (suffixes_in_lem b) }; small = omega arith }

  module _ (left : List ℕ) (n : ℕ) (i : SuffixesLeft left n) where
    pub suffixes-end : length left ≡ 0 → Some n ≡ size (suffixes_from b)
    suffixes-end h = let z : n + 0 ≡ n = omega arith in rw z at (left_end suffixes_in suffix_from ◌++◌ [] 0 suffix_steps (size (suffixes_from b)) left n i.is h)

    pub suffixes-none : 0 < length left → PieceIs left None → None ≡ size (suffixes_from b)
    suffixes-none = left-none suffixes_in suffix_from ◌++◌ [] 0 suffix_steps (size (suffixes_from b)) left n i.is

    module _ (h : 0 < length left) (p : Piece) (c : PieceIs left (Some p)) where
      pub suffixes-bad : None ≡ size (suffix_from p.kind p.body.now) → None ≡ size (suffixes_from b)
      suffixes-bad = left-bad suffixes_in suffix_from ◌++◌ [] 0 suffix_steps (size (suffixes_from b)) left n i.is h p c

      pub suffixes-next : (s : ℕ) → Some s ≡ size (suffix_from p.kind p.body.now) → s ≤ 2 * length p.body.now + 6 → SuffixesLeft p.rest.now (n + s)
      suffixes-next s e l = record {
        is = let z : n + (s + 0) ≡ n + s = omega arith in rw z at (left-next suffixes_in suffix_from ◌++◌ [] 0 suffix_steps (size (suffixes_from b)) left n i.is h p c s e);
        small = omega (arith, c.covers, i.small);
      }

pub ruleset suffixes_walk = (suffixes-start, suffixes-end, suffixes-none, suffixes-bad, suffixes-next)

-- a base and its suffixes
module _ (d : ℕ) (t : List ℕ) where
  pub kind-none : PieceIs t None → None ≡ size (kind_from d t)
  unfolding kind_from taken
  kind-none p = rw (kind_from, ← p.same)

  module _ (p : Piece) (c : PieceIs t (Some p)) where
    kinded : kind_from d t ≡ given (base_text_from d p.kind p.body.now) (λ u. on_option (λ v. u ++ v) (suffixes_from p.rest.now))
    unfolding kind_from taken
    kinded = rw (kind_from, ← c.same)

    pub kind-bare : None ≡ size (base_text_from d p.kind p.body.now) → None ≡ size (kind_from d t)
    kind-bare e = ap size (sym (kinded ∙ go (base_text_from d p.kind p.body.now) e))
      where
        go : (o : Option (List ℕ)) → None ≡ size o → given o (λ u. on_option (λ v. u ++ v) (suffixes_from p.rest.now)) ≡ None
        go None e = refl
        go (Some u) e = absurd (none-some _ e)

    pub kind-torn : None ≡ size (suffixes_from p.rest.now) → None ≡ size (kind_from d t)
    kind-torn e = ap size (sym (kinded ∙ go (base_text_from d p.kind p.body.now) (suffixes_from p.rest.now) e))
      where
        go : (o v : Option (List ℕ)) → None ≡ size v → given o (λ u. on_option (λ w. u ++ w) v) ≡ None
        go None v e = refl
        go (Some u) None e = refl
        go (Some u) (Some w) e = absurd (none-some _ e)

    pub kind-is : (s r : ℕ) → Some s ≡ size (base_text_from d p.kind p.body.now) → Some r ≡ size (suffixes_from p.rest.now) → Some (s + r) ≡ size (kind_from d t)
    kind-is s r e f = go (base_text_from d p.kind p.body.now) (suffixes_from p.rest.now) e f ∙ ap size (sym kinded)
      where
        go : (o v : Option (List ℕ)) → Some s ≡ size o → Some r ≡ size v → Some (s + r) ≡ size (given o (λ u. on_option (λ w. u ++ w) v))
        go None v e f = absurd (none-some s (sym e))
        go (Some u) None e f = absurd (none-some r (sym f))
        go (Some u) (Some w) e f = ap Some (omega (arith, same_Some _ _ e, same_Some _ _ f, length-append u w))

-- a base
module _ (d k : ℕ) (body : List ℕ) where
  pub base-sunk : k ≡ 9 → d ≡ 0 → None ≡ size (base_text_from d k body)
  base-sunk e z = ap size (sym (base-deep d k body e z))

  pub base-nested : (r : Option ℕ) → k ≡ 9 → (d ≡ 0 → ⊥) → r ≡ size (tuple_text_from Plain (d - 1) body) → r ≡ size (base_text_from d k body)
  base-nested r e z f = f ∙ ap size (sym (base-tuple d k body e z))

  pub base-plain : (r : Option ℕ) → (k ≡ 9 → ⊥) → r ≡ size (elementary_from k body) → r ≡ size (base_text_from d k body)
  base-plain r e f = f ∙ ap size (sym (base-elementary d k body e))

-- a bound that is looser
pub at-most-more : (n m : ℕ) (r : Option ℕ) → n ≤ m → AtMost n r → AtMost m r
at-most-more n m None h i = tt
at-most-more n m (Some l) h i = omega (arith, i)

-- the loop over fields
module _ (sort : Sort) (d : ℕ) (b : List ℕ) where
  pub record FieldsLeft (left : List ℕ) (n : ℕ) : Type 0 where
    pub is : Left (fields_in sort d) (size (fields_in sort d (length b) b)) left n
    pub small : n + 2 * length left ≤ 2 * length b

  pub fields-start : FieldsLeft b 0
  fields-start = record { is = record { most = length b; enough = omega arith; same = size-behind (fields_in sort d (length b) b) }; small = omega arith }

  module _ (left : List ℕ) (n : ℕ) (i : FieldsLeft left n) where
    pub fields-end : length left ≡ 0 → (m : ℕ) → (n ≡ 0 → m ≡ 1) → (0 < n → m ≡ n) → Some (1 + m) ≡ size (tuple_text_from sort d b)
    fields-end h m x y = tuple-size sort d b n m (left_end (fields_in sort d) (field_text_from sort d) parted (rparen ∷ []) 1 (field_steps sort d) (size (fields_in sort d (length b) b)) left n i.is h) x y

    pub fields-none : 0 < length left → PieceIs left None → None ≡ size (tuple_text_from sort d b)
    fields-none h p = tuple-none sort d b (left-none (fields_in sort d) (field_text_from sort d) parted (rparen ∷ []) 1 (field_steps sort d) (size (fields_in sort d (length b) b)) left n i.is h p)

    module _ (h : 0 < length left) (p : Piece) (c : PieceIs left (Some p)) where
      pub fields-bad : None ≡ size (field_text_from sort d p.kind p.body.now) → None ≡ size (tuple_text_from sort d b)
      fields-bad e = tuple-none sort d b (left-bad (fields_in sort d) (field_text_from sort d) parted (rparen ∷ []) 1 (field_steps sort d) (size (fields_in sort d (length b) b)) left n i.is h p c e)

      pub fields-next : (s : ℕ) → Some s ≡ size (field_text_from sort d p.kind p.body.now) → s ≤ 2 * length p.body.now → FieldsLeft p.rest.now (n + (s + 1))
      fields-next s e l = record {
        is = left-next (fields_in sort d) (field_text_from sort d) parted (rparen ∷ []) 1 (field_steps sort d) (size (fields_in sort d (length b) b)) left n i.is h p c s e;
        small = omega (arith, c.covers, i.small);
      }

-- a field
module _ (sort : Sort) (d k : ℕ) (body : List ℕ) where
  pub field-not : (k ≡ 0x10 → ⊥) → None ≡ size (field_text_from sort d k body)
  field-not h = ap size (sym (field-other sort d k body h))

  pub field-bad : k ≡ 0x10 → FrontIs sort body None → None ≡ size (field_text_from sort d k body)
  field-bad h i = ap size (sym (ap (λ j. field_text_from sort d j body) h ∙ i d))

  pub field-is : k ≡ 0x10 → (n : Piece) → FrontIs sort body (Some n) → (r : Option ℕ) → r ≡ size (kind_from d n.rest.now) → r ≡ size (field_text_from sort d k body)
  field-is h n i r e = e ∙ ap size (sym (ap (λ j. field_text_from sort d j body) h ∙ i.same d))

pub ruleset walking = (kind-none, kind-bare, kind-torn, kind-is, base-sunk, base-nested, base-plain, at-most-more, fields-start, fields-end, fields-none, fields-bad, fields-next, field-not, field-bad, field-is)
