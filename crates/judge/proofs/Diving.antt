-- Arrays and what they hold, by the records of a dynamic kind.
-- Assumes nothing.
use mathlib.Core.Path.{◌≡◌, refl, sym, ◌∙◌, ap, subst}
use mathlib.Core.Bool.{Bool, true, false, not, ◌&&◌, false≢true}
use mathlib.Core.List.{List, [], ◌∷◌}
use Rattle.std.specs.Prelude.{Option, None, Some}
use Rattle.std.specs.Borrow.{Bor}
use Rattle.std.specs.Bool.{then_some}
use Prim.Native.Nat.{ℕ, ◌-◌, ◌/◌, ◌≤◌, ◌<◌}
use native.Mathlib.Omega.{arith}
use lib.Dec.{leb, eqb}
use lib.ListN.{length, take, drop}
use lib.Seq.{length-take-le}
use borrow.Author.Tests.{le-leb, lt-leb}
use Rattle.kinds.specs.Kind.{Elementary, int, uint, fixed_bytes, address, bool, function, bytes, string, Suffix, sized, unsized, Kind, is_kind}
use Rattle.model.specs.Tree.{Base, arrays, base_kind}
use Rattle.model.specs.Reading.{FieldKind}
use Rattle.model.specs.Layout.{le_value}
use Rattle.record.specs.declared.Piece.{Piece}
use Rattle.record.specs.Parts.{PieceIs, Headed}
use Rattle.record.specs.Encoded.{KindIs, SomeFields, SomeKind, SomeSuffixes}
use Rattle.record.proofs.Standing.{kind-headed, suffixes-headed, kind-parts, no-suffixes}
use Rattle.encoding.specs.Dynamic.{is_open_ended, is_dynamic}
use Rattle.encoding.specs.Values.{most_elements}
use Rattle.encoding.specs.Judge.{be_value, word_at, has_word, string_at, leaf, end_of, ends_at}
use Rattle.encoding.proofs.Runs.{static-array}
use Rattle.words.specs.Places.{capped}
use Rattle.extent.specs.declared.Extent.{Extent}
use Rattle.extent.specs.Walks.{tree_of}
use Rattle.extent.specs.Extents.{ExtentOf, SuffixIs}
use Rattle.extent.proofs.Reaches.{counted, fixed-long}
use Rattle.static_kinds.specs.Places.{SomeStatic, ManyEnd}
use Rattle.judge.specs.declared.Step.{Step}
use Rattle.judge.specs.declared.Step.TheVariants as step
use Rattle.judge.specs.Fits.{fits, Data, DynamicIs, SomeDynamic, FitsKind, FitsFields}
use Rattle.judge.specs.Steps.{LastOf, ArrayIs, SomeArray, Down, Tells, ArrayStep, SizedStep, ElementsStep, Heads}
use Rattle.judge.proofs.Parts.{part, part_data, kind-valid, part_fits, dynamic-as}
use Rattle.judge.proofs.Saying.{when-ends}
use Rattle.judge.proofs.Choosing.{fits-none, fits_over}
use Rattle.judge.proofs.Lasting.{ArrayHere, array-here, suffix-is}

-- what is told by a test
told : (b whole : Bool) (k : Kind) → whole ≡ b → Tells (then_some b step.Done) k whole
told true whole k e = e
told false whole k e = e

-- So many elements.

module _ (t d : List ℕ) (n : ℕ) (e : Extent) (x : ExtentOf t e) where
  module _ (v : not e.dynamic ≡ false) where
    its-dynamic : (k : FieldKind) → KindIs t k → DynamicIs t k
    its-dynamic k i = record { is = i; dynamic = dynamic-as t e x false v k i }

    pub sized-none : n ≡ 0 → (b : Bool) → b ≡ eqb (length d) 0 → SizedStep t d n (then_some b step.Done)
    sized-none z b f k i = told b _ (tree_of k) (fits-none d (tree_of k) (its-dynamic k i).dynamic n z ∙ sym f)

    pub sized_over : length d / 32 < n → SizedStep t d n None
    sized_over h k i = fits_over d (tree_of k) (its-dynamic k i).dynamic n (omega arith)

    pub sized-heads : SomeKind t → Data d → (n ≡ 0 → ⊥) → n ≤ length d / 32 → Heads t d n
    sized-heads q w z h = record { some = (q.0, its-dynamic q.0 q.1); ready = w; least = omega arith; room = omega arith }

    pub sized-elements : (r : Option Step) → ElementsStep t d n r → SizedStep t d n r
    sized-elements r y k i = y k (its-dynamic k i)

  module _ (v : not e.dynamic ≡ true) where
    its-static : (k : FieldKind) → KindIs t k → is_dynamic (tree_of k) ≡ false
    its-static = dynamic-as t e x true v

    pub sized-asks : SomeKind t → SomeStatic t
    sized-asks q = (q.0, record { is = q.1; static = its-static q.0 q.1 })

    pub sized-static : (r : Option ℕ) → ManyEnd t d 0 n r → (b : Bool) → b ≡ ends_at (length d) r → SizedStep t d n (then_some b step.Done)
    unfolding fits
    sized-static r y b f k i =
        let v = its-static k i in
        let same = static-array d (tree_of k) n v 0 (omega arith) ∙ sym (y k (record { is = i; static = v })) in
        told b _ (tree_of k) (ap (ends_at (length d)) same ∙ sym f)

pub ruleset sizes = (sized-none, sized_over, sized-heads, sized-elements, sized-asks, sized-static)

-- Arrays.

module _ (d : List ℕ) where
  count : ℕ
  count = be_value (word_at d 0)

  -- an open array is one of so many elements behind the word of the count
  open_fits : (k : Kind)
      → fits (Kind.array k unsized) d ≡ ((has_word d 0 && leb count most_elements) && ends_at (length d) (end_of d (Kind.array k (sized count)) 32))
  unfolding fits end_of count
  open_fits k = when-ends (length d) (has_word d 0 && leb count most_elements) (end_of d (Kind.array k (sized count)) 32)

module _ (t : List ℕ) (p : Piece) where
  pub array-asks : SomeArray t p → SomeKind t
  array-asks q = let (k, o, i) = q in (k, i.element)

  module _ (z : p.kind ≡ 11) where
    open_is : (o : Suffix) → SuffixIs p o → o ≡ unsized
    open_is (sized n) i = absurd (omega (arith, i.0, z))
    open_is unsized i = refl

    module _ (d : List ℕ) (w : Data d) where
      open_told : (k : FieldKind) (o : Suffix) → ArrayIs t p k o → (b c : Bool) → has_word d 0 ≡ b → leb (count d) most_elements ≡ c
          → fits (Kind.array (tree_of k) o) d ≡ ((b && c) && ends_at (length d) (end_of d (Kind.array (tree_of k) (sized (count d))) 32))
      open_told k o i b c f g = ap (λ y. fits (Kind.array (tree_of k) y) d) (open_is o i.suffix) ∙ open_fits d (tree_of k) ∙ rw (f, g)

      pub open_short : false ≡ has_word d 0 → ArrayStep t p d None
      open_short f k o i = open_told k o i false _ (sym f) refl

      module _ (f : true ≡ has_word d 0) (n : ℕ) (g : n ≡ capped (be_value (word_at d 0))) where
        pub open_many : 65536 < n → ArrayStep t p d None
        unfolding count
        open_many h k o i = open_told k o i true false (sym f) (lt-leb (be_value (word_at d 0)) most_elements (omega arith))

        module _ (h : n ≤ 65536) (r : 32 ≤ length d) where
          abbrev rest : List ℕ
          rest = part d 32 (length d)

          pub rest_data : Data rest
          rest_data = part_data d 32 (length d) r (omega arith) w

          pub open_rest : (x : Option Step) → SizedStep t rest n x → ArrayStep t p d x
          unfolding is_kind count
          open_rest x y k o i =
              let A : Kind = Kind.array (tree_of k) (sized n) in
              let m : be_value (word_at d 0) ≡ n = omega (arith, g) in
              let few = le-leb (be_value (word_at d 0)) most_elements (omega arith) in
              let same : fits (Kind.array (tree_of k) o) d ≡ fits A rest =
              open_told k o i true true (sym f) few ∙ ap (λ c. ends_at (length d) (end_of d (Kind.array (tree_of k) (sized c)) 32)) m
              ∙ part_fits A (kind-valid t k i.element) d w 32 (length d) r (omega arith) in
              subst (Tells x (tree_of k)) (sym same) (y k i.element)

  module _ (z : p.kind ≡ 11 → ⊥) where
    pub fixed-room : SomeArray t p → 8 ≤ length p.body.now
    fixed-room q = let (k, o, i) = q in fixed-long p (o, i.suffix) z

    pub fixed-step : (d : List ℕ) (v : ℕ) → v ≡ le_value (take 8 (drop 0 p.body.now)) → (x : Option Step) → SizedStep t d v x → ArrayStep t p d x
    fixed-step d v e x y k o i = subst (λ s. Tells x (tree_of k) (fits (Kind.array (tree_of k) s) d)) (is o i.suffix) (y k i.element)
      where
        is : (o : Suffix) → SuffixIs p o → sized v ≡ o
        is (sized n) j = ap sized (e ∙ (counted p.body.now n j.1 j.2).1)
        is unsized j = absurd (z j)

pub ruleset places = (array-asks, open_short, open_many, rest_data, open_rest, fixed-room, fixed-step)

-- A base without suffixes.

module _ {t : List ℕ} {p : Piece} (j : PieceIs t (Some p)) (h : length p.rest.now ≡ 0) (d : List ℕ) where
  bare-kind : (k : FieldKind) (b : Base) → KindIs t k → k.base ≡ b → tree_of k ≡ base_kind b
  unfolding arrays
  bare-kind k b i e = ap (arrays (base_kind k.base)) (no-suffixes p.rest.now k.suffixes (kind-parts t p k i j).suffixes h) ∙ ap base_kind e

  module _ (z : p.kind ≡ 9) where
    pub flat_asks : SomeDynamic t → SomeFields p.body.now
    flat_asks q = let x = (kind-parts t p q.0 q.1.is j).nested z in (x.fields, x.is)

    pub flat_tuple : (r : Bool) → FitsFields p.body.now d r → FitsKind t d r
    unfolding base_kind
    flat_tuple r y k i =
        let x = (kind-parts t p k i.is j).nested z in
        y x.fields x.is ∙ ap (λ u. fits u d) (sym (bare-kind k (Base.tuple x.fields) i.is x.split))

  -- a dynamic elementary kind is a string
  string_end : (x : Elementary) → is_dynamic (Kind.elementary x) ≡ true → end_of d (Kind.elementary x) 0 ≡ string_at d 0
  unfolding is_dynamic is_open_ended end_of leaf
  string_end (int w) v = absurd (false≢true v)
  string_end (uint w) v = absurd (false≢true v)
  string_end (fixed_bytes m) v = absurd (false≢true v)
  string_end address v = absurd (false≢true v)
  string_end bool v = absurd (false≢true v)
  string_end function v = absurd (false≢true v)
  string_end bytes v = refl
  string_end string v = refl

  pub flat_string : (p.kind ≡ 9 → ⊥) → (r : Option ℕ) → r ≡ string_at d 0 → (b : Bool) → b ≡ ends_at (length d) r → FitsKind t d b
  unfolding fits base_kind
  flat_string z r g b f k i =
      let x = (kind-parts t p k i.is j).leaf z in
      let e : tree_of k ≡ Kind.elementary x.leaf = bare-kind k (Base.elementary x.leaf) i.is x.split in
      f ∙ ap (ends_at (length d)) (g ∙ sym (ap (λ u. end_of d u 0) e ∙ string_end x.leaf (rw e at i.dynamic)))

-- The loop: a kind, and a part of the data.

pub record Deep (t d kind part : List ℕ) : Type 0 where
  pub bound : length kind ≤ length t
  pub ready : Data part
  pub ask : SomeDynamic kind
  all : (k : FieldKind) → DynamicIs t k → (j : FieldKind) × DynamicIs kind j × (fits (tree_of k) d ≡ fits (tree_of j) part)

pub deep-start : (t d : List ℕ) → SomeDynamic t → Data d → Deep t d t d
deep-start t d q w = record { bound = omega arith; ready = w; ask = q; all = λ k i. (k, i, refl) }

module _ {t d kind part : List ℕ} (w : Deep t d kind part) where
  pub deep-headed : Headed kind
  deep-headed = kind-headed kind (w.ask.0, w.ask.1.is)

  pub deep_flat : {r : Bool} → FitsKind kind part r → FitsKind t d r
  deep_flat y k i = let (j, x, e) = w.all k i in y j x ∙ sym e

  module _ {p : Piece} (j : PieceIs kind (Some p)) where
    pub deep-suffixes : SomeSuffixes p.rest.now
    deep-suffixes = (w.ask.0.suffixes, (kind-parts kind p w.ask.0 w.ask.1.is j).suffixes)

    module _ {l : List ℕ} (v : LastOf p.rest.now l) where
      abbrev element : List ℕ
      element = take (length kind - length l) kind

      here : (k : FieldKind) → KindIs kind k → ArrayHere kind l k
      here k i = array-here kind l p k i j v

      pub deep-less : (length l ≤ length kind) × (length element < length kind)
      deep-less = let x = (here w.ask.0 w.ask.1.is).long in (omega arith, omega (arith, length-take-le (length kind - length l) kind (omega arith), v.some))

      pub deep-last : Headed l
      deep-last = let x = here w.ask.0 w.ask.1.is in suffixes-headed l (x.last ∷ [], x.suffix) v.some

      module _ {s : Piece} (g : PieceIs l (Some s)) where
        is : (k : FieldKind) (i : KindIs kind k) → ArrayIs element s (here k i).kind (here k i).last
        is k i = record { element = (here k i).element; suffix = suffix-is l s (here k i).last (here k i).suffix v.some g }

        pub deep-asks : SomeArray element s
        deep-asks = let (k, q) = w.ask in ((here k q.is).kind, (here k q.is).last, is k q.is)

        module _ (r : Option Step) (y : ArrayStep element s part r) where
          step-told : (k : FieldKind) (i : DynamicIs t k) → (h : FieldKind) × KindIs element h × Tells r (tree_of h) (fits (tree_of k) d)
          step-told k i =
              let (h, x, z) = w.all k i in
              let a = here h x.is in
              (a.kind, a.element, subst (Tells r (tree_of a.kind)) (ap (λ o. fits o part) (sym a.tree) ∙ sym z) (y a.kind a.last (is h x.is)))

          pub deep_bad : r ≡ None → FitsKind t d false
          deep_bad e k i = let (h, x, z) = step-told k i in sym (subst (λ o. Tells o (tree_of h) (fits (tree_of k) d)) e z)

          pub deep_good : r ≡ Some step.Done → FitsKind t d true
          deep_good e k i = let (h, x, z) = step-told k i in sym (subst (λ o. Tells o (tree_of h) (fits (tree_of k) d)) e z)

          pub deep-next : (down : Bor (List ℕ)) → r ≡ Some (step.Down down) → (q : SomeDynamic t) → Deep t d element down.now
          deep-next down e q =
              let told : (k : FieldKind) (i : DynamicIs t k) → (h : FieldKind) × KindIs element h × Down (tree_of h) (fits (tree_of k) d) down.now
              = λ k i. let (h, x, z) = step-told k i in (h, x, subst (λ o. Tells o (tree_of h) (fits (tree_of k) d)) e z) in
              record {
                bound = omega (arith, w.bound, deep-less);
                ready = (told q.0 q.1).2.ready;
                ask = let (h, x, z) = told q.0 q.1 in (h, record { is = x; dynamic = z.dynamic });
                all = λ k i. let (h, x, z) = told k i in (h, record { is = x; dynamic = z.dynamic }, z.same);
              }

pub ruleset values = (deep-start, deep-headed, deep-less, deep_bad)
