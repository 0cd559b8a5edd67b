-- Fields of elementary kinds, and what stands behind a kind.
-- Assumes nothing.
use Rattle.std.proofs.Common.{◌≡◌, refl, sym, ◌∙◌, ap, ℕ, ◌+◌, ◌*◌, ◌-◌, ◌≤◌, Bool, List, [], ◌∷◌, length, take, drop, length-append, length-drop, arith}
use borrow.Author.Tests.{ne_eqb}
use Rattle.std.specs.Prelude.{Ok, Err}
use Rattle.kinds.specs.Kind.{Suffix}
use Rattle.model.specs.declared.Mark.{Mark}
use Rattle.model.specs.declared.Refusal.{Refusal}
use Rattle.model.specs.declared.Sort.{Sort}
use Rattle.model.specs.Mark.{mark_number}
use Rattle.model.specs.Text.{run_length, part}
use Rattle.model.specs.Tree.{elementary, Field, field, unmarked}
use Rattle.model.specs.KindText.{Spelled, ok, err, from_str}
use Rattle.model.specs.Parser.{got, on_ans, then, option}
use Rattle.model.specs.Reading.{FieldKind, run_kind, marks, is_located, can_specify_location}
use Rattle.model.specs.Record.{encode_elementary, encode_suffix, encode_suffixes, encode_base, encode_field}
use Rattle.model.proofs.Scans.{part-rest}
use Rattle.model.proofs.Bounds.{field-size}
use Rattle.model.proofs.Holds.{is-got}
use Rattle.model.proofs.Readers.{run-kind-of}
use Rattle.value.specs.declared.Base.{Base}
use Rattle.value.specs.declared.Base.TheVariants as base
use Rattle.value.specs.declared.Run.{Run}
use Rattle.value.specs.Elementary.{to_elementary}
use Rattle.value.specs.Run.{RunIs, LeafAt, LeafPut}
use Rattle.fields.specs.Words.{NamedIs}
use Rattle.fields.specs.Scratch.{read_to, bad_at, to_read, bytes_of, Room, located_base, located_by, behind_kind, leaf_of, Put}
use Rattle.fields.proofs.Begins.{begins-put}
use Rattle.fields.proofs.Growing.{suffix-size}

-- locations
same_base : (b : Base) → located_base b ≡ is_located (to_elementary b)
unfolding to_elementary
same_base (base.Int w) = refl
same_base (base.Uint w) = refl
same_base base.Address = refl
same_base base.Bool = refl
same_base (base.FixedBytes n) = refl
same_base base.Function = refl
same_base base.Bytes = refl
same_base base.String = refl

located_is : (b : Base) (ss : List Suffix) → located_by b (length (encode_suffixes 4 ss)) ≡ can_specify_location (elementary (to_elementary b)) ss
unfolding encode_suffixes located_by
located_is b [] = same_base b
located_is b (o ∷ ss) = rw (located_by, ne_eqb (length (encode_suffixes 4 (o ∷ ss))) 0 (λ z. omega (arith, length-append (encode_suffix 4 o) (encode_suffixes 4 ss), suffix-size o)))

-- a mark and a name behind a kind
pub behind-got : (s : List ℕ) (at : ℕ) (sort : Sort) (l : Bool) (m : Mark) (w : List ℕ) (n : ℕ) (k : FieldKind) → NamedIs s at sort l m w n → l ≡ can_specify_location k.base k.suffixes
    → behind_kind sort k s at ≡ got (field (mark_number m) w k.base k.suffixes) n
unfolding behind_kind then marks
behind-got s at sort l m w n k i q =
    let f : option (marks sort k) unmarked s at ≡ got (mark_number m) i.between = rw (marks, ← q) i.marked in
    rw (f, i.named)

-- the run that spells a kind
module _ (s : List ℕ) (p r : ℕ) (e : r ≡ run_length (take (length s - p) (drop p s))) where
  run_is : run_length (drop p s) ≡ r
  run_is = sym (rw part-rest at e)

  part_of : take (p + r - p) (drop p s) ≡ part s p r
  part_of = let z : p + r - p ≡ r = omega arith in rw z

  run-got : (k : Spelled) → from_str (take (p + r - p) (drop p s)) ≡ ok k → run_kind s p ≡ got (record { base = elementary k.kind; suffixes = k.suffixes }) (p + r)
  unfolding run_kind
  run-got k f = let g : from_str (part s p r) ≡ ok k = ap from_str (sym part_of) ∙ f in rw (run_kind, run_is, g)

  -- a leaf that is no kind
  pub leaf-bad : (sort : Sort) (b : List ℕ) (w : Refusal) → p ≤ length s → RunIs (take (p + r - p) (drop p s)) (Err w) → Put 0 s p b (leaf_of sort s p) (Err (bad_at w p))
  unfolding leaf_of to_read bytes_of then on_ans run_kind
  leaf-bad sort b w l i =
      let g : from_str (part s p r) ≡ err w = ap from_str (sym part_of) ∙ i in
      rw (leaf_of, run_kind, run_is, g) (record { same = refl; within = l; wrote = refl })

  -- a leaf that is read
  module _ (g : r ≤ length (take (length s - p) (drop p s))) (b : List ℕ) (h : Room 0 0 s p b) (k : Run) (i : RunIs (take (p + r - p) (drop p s)) (Ok k)) where
    kind-is : FieldKind
    kind-is = record { base = elementary (to_elementary k.base); suffixes = i.suffixes }

    read_is : run_kind s p ≡ got kind-is (p + r)
    unfolding kind-is
    read_is = run-got (record { kind = to_elementary k.base; suffixes = i.suffixes }) i.same

    -- what the run pays for
    leaf-paid : 14 + length (encode_elementary 4 (to_elementary k.base)) + k.len + 10 * p ≤ 10 * (p + r)
    unfolding kind-is encode_base
    leaf-paid = omega (arith, (is-got (run-kind-of s 0 p h.inside) kind-is (p + r) read_is).paid, i.size)

    pub leaf-inside : p + r ≤ length s
    leaf-inside = omega (arith, h.inside, rw (part-rest, length-drop) at g)

    module _ (sort : Sort) (l : Bool) (q : l ≡ located_by k.base k.len) (m : Mark) (w : List ℕ) (n : ℕ) (v : NamedIs s (p + r) sort l m w n) where
      pub leaf_room : LeafAt k w b
      leaf_room = record {
        suffixes = i.suffixes;
        suffixed = i.suffixed;
        size = i.size;
        room = omega (arith, leaf-paid, v.low, v.inside, h.room);
        small = omega (arith, leaf-paid, v.low, v.inside, h.small);
      }

      leaf-field : Field
      leaf-field = field (mark_number m) w (elementary (to_elementary k.base)) i.suffixes

      leaf-is : leaf_of sort s p ≡ got (encode_field 4 leaf-field) n
      unfolding leaf_of then on_ans leaf-field kind-is
      leaf-is =
          let z : l ≡ can_specify_location (elementary (to_elementary k.base)) i.suffixes = q ∙ ap (located_by k.base) i.size ∙ located_is k.base i.suffixes in
          rw (leaf_of, read_is, behind-got s (p + r) sort l m w n kind-is v z)

      pub leaf-put : (y x : ℕ) (b₁ : List ℕ) → y ≡ 14 + length w + length (encode_elementary 4 (to_elementary k.base)) + k.len → x ≡ mark_number m → LeafPut k x w b b₁ → Put 0 s p b₁ (leaf_of sort s p) (read_to n y)
      unfolding to_read bytes_of leaf-field encode_base
      leaf-put y x b₁ z e f =
          let u : length (encode_field 4 leaf-field) ≡ y = omega (arith, field-size (mark_number m) w (elementary (to_elementary k.base)) i.suffixes, i.size) in
          rw leaf-is (record {
            same = ap (read_to n) (sym u);
            within = omega (arith, leaf-paid, v.low, v.inside);
            wrote = begins-put [] (encode_field 4 leaf-field) b b₁ 0 refl refl ((rw e at f) i.suffixes i.suffixed);
          })
