-- Parts of the data that are values: where a value ends in the data, and whether a part is one.
-- Assumes nothing.
use mathlib.Core.Path.{◌≡◌, refl, sym, ◌∙◌, ap}
use mathlib.Core.Bool.{Bool, true, not, not-not, false≢true}
use mathlib.Core.List.{List, [], ◌∷◌, ◌++◌, append-nil}
use Rattle.std.specs.Prelude.{Option, None, Some}
use Prim.Native.Nat.{ℕ, zero, suc, ◌+◌, ◌-◌, ◌≤◌}
use native.Mathlib.Omega.{arith}
use lib.Dec.{eqb}
use lib.ListN.{length, take, drop, length-drop}
use lib.Seq.{length-take-le, drop-length}
use borrow.Author.Tests.{eqb-true, eq-eqb}
use Rattle.kinds.specs.Kind.{Suffix, Kind, is_kind}
use Rattle.model.specs.Tree.{Base, elementary, tuple, arrays, base_kind}
use Rattle.model.specs.Reading.{FieldKind}
use Rattle.model.specs.declared.Sort.TheVariants.{Plain}
use Rattle.model.specs.Record.{is_base}
use Rattle.model.proofs.Sound.{fields_are_kinds}
use Rattle.record.specs.Encoded.{KindIs}
use Rattle.encoding.specs.Dynamic.{is_dynamic}
use Rattle.encoding.specs.Judge.{end_of, ends_at}
use Rattle.encoding.proofs.Ranges.{same_test, part_bytes}
use Rattle.encoding.proofs.Stands.{Stands, stands-take, taken}
use Rattle.encoding.proofs.Exactly.{Encoding, exact}
use Rattle.extent.specs.declared.Extent.{Extent}
use Rattle.extent.specs.Walks.{tree_of}
use Rattle.extent.specs.Extents.{ExtentOf}
use Rattle.judge.specs.Fits.{fits, Data}

-- the data from a place up to another
abbrev pub part : List ℕ → ℕ → ℕ → List ℕ
part d s c = take (c - s) (drop s d)

part-long : (d : List ℕ) (s c : ℕ) → s ≤ c → c ≤ length d → length (part d s c) ≡ c - s
part-long d s c h g = length-take-le (c - s) (drop s d) (rw length-drop (omega arith))

pub part_data : (d : List ℕ) (s c : ℕ) → s ≤ c → c ≤ length d → Data d → Data (part d s c)
part_data d s c h g q = record { small = omega (arith, part-long d s c h g, q.small); bytes = (part_bytes (c - s) (drop s d) (part_bytes s d q.bytes).1).0 }

-- Kinds that a record says are kinds.

arrays-kind : (ss : List Suffix) (k : Kind) → is_kind (arrays k ss) ≡ is_kind k
unfolding arrays is_kind
arrays-kind [] k = refl
arrays-kind (s ∷ ss) k = arrays-kind ss (Kind.array k s)

base-kind : (b : Base) (n : ℕ) → is_base n b ≡ true → is_kind (base_kind b) ≡ true
unfolding is_base base_kind is_kind
base-kind (elementary e) n h = h
base-kind (tuple fs) zero h = absurd (false≢true h)
base-kind (tuple fs) (suc n) h = fields_are_kinds fs Plain n h

pub kind-valid : (t : List ℕ) (k : FieldKind) → KindIs t k → is_kind (tree_of k) ≡ true
kind-valid t k i = arrays-kind k.suffixes (base_kind k.base) ∙ base-kind k.base i.d i.base-well

-- what is told of all kinds that the records may say
pub dynamic-as : (t : List ℕ) (e : Extent) → ExtentOf t e → (b : Bool) → not e.dynamic ≡ b → (k : FieldKind) → KindIs t k → is_dynamic (tree_of k) ≡ not b
dynamic-as t e x b v k i = sym (x.all k i).dynamic ∙ sym (not-not e.dynamic) ∙ ap not v

-- Ends.

ends_some : (o : Option ℕ) (c : ℕ) → ends_at c o ≡ true → o ≡ Some c
ends_some None c h = absurd (false≢true h)
ends_some (Some e) c h = ap Some (eqb-true e c h)

some-ends : (o : Option ℕ) (c : ℕ) → o ≡ Some c → ends_at c o ≡ true
some-ends o c e = rw e (eq-eqb c c refl)

-- the whole of the data
stands-whole : (d : List ℕ) → Stands d 0 d (length d)
stands-whole d = record { there = sym (ap (λ x. d ++ x) (drop-length d) ∙ append-nil d); end = omega arith; inside = omega arith }

whole-only : (d u : List ℕ) → Stands d 0 u (length d) → u ≡ d
whole-only d u s = sym (append-nil u) ∙ ap (λ x. u ++ x) (sym (drop-length d)) ∙ sym s.there

module _ (k : Kind) (g : is_kind k ≡ true) where
  fits_encoding : (d : List ℕ) → Data d → fits k d ≡ true → Encoding k d
  unfolding fits
  fits_encoding d q h =
      let (u, p, s) = (exact d q.bytes k g).sound 0 (length d) (omega arith) (ends_some (end_of d k 0) (length d) h) in
      rw (← whole-only d u s) p

  encoding_fits : (d : List ℕ) → Data d → Encoding k d → fits k d ≡ true
  unfolding fits
  encoding_fits d q p = some-ends (end_of d k 0) (length d) ((exact d q.bytes k g).complete d 0 (length d) p (stands-whole d))

  module _ (d : List ℕ) (q : Data d) where
    pub end-inside : (s e : ℕ) → s ≤ length d → end_of d k s ≡ Some e → (s ≤ e) × (e ≤ length d)
    end-inside s e h f = let (u, p, x) = (exact d q.bytes k g).sound s e h f in omega (arith, x.end, x.inside)

    pub part_fits : (s c : ℕ) → s ≤ c → c ≤ length d → ends_at c (end_of d k s) ≡ fits k (part d s c)
    part_fits s c h l =
        let n : s + (c - s) ≡ c = omega arith in
        let r = part_data d s c h l q in
        same_test (ends_at c (end_of d k s)) (fits k (part d s c))
        (λ t.
        let (u, p, x) = (exact d q.bytes k g).sound s c (omega arith) (ends_some (end_of d k s) c t) in
        let m : length u ≡ c - s = omega (arith, x.end) in
        encoding_fits (part d s c) r (rw (rw m at (taken d s u c x)) p))
        (λ t.
        let here = rw n at (stands-take d s (c - s) (omega arith)) in
        some-ends (end_of d k s) c ((exact d q.bytes k g).complete (part d s c) s c (fits_encoding (part d s c) r t) here))
