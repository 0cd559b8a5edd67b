-- The heads of fields, counted and written one by one.
-- Assumes nothing.
use mathlib.Core.Path.{◌≡◌, refl, sym, ◌∙◌, ap}
use mathlib.Core.Bool.{Bool, true, false}
use mathlib.Core.List.{List, [], ◌∷◌, ◌++◌, append_assoc, append-nil}
use Rattle.std.specs.Prelude.{Some, Ok}
use Rattle.std.specs.Int.{from_bool}
use Prim.Native.Nat.{ℕ, ◌+◌, ◌-◌, ◌≤◌, ◌<◌}
use native.Mathlib.Nat.{zero-add}
use native.Mathlib.Omega.{arith}
use lib.Dec.{eqb}
use lib.ListN.{length, take, drop, set, length-append}
use borrow.Author.Tests.{le-ltb}
use borrow.Rule.Slice.PartMut.{put_mid}
use Rattle.kinds.specs.Kind.{Kind, Kinds, more_kinds}
use Rattle.model.specs.Tree.{Fields, kinds_of}
use Rattle.model.specs.Layout.{little_endian}
use Rattle.model.proofs.Pieces.{le_length}
use Rattle.model.specs.declared.Refusal.TheVariants.{NoRoom}
use Rattle.model.specs.Answer.{writes, Answer, refusing}
use Rattle.layout.specs.Buffer.{put}
use Rattle.layout.specs.Answers.{Ends}
use Rattle.layout.proofs.Answers.{ends-full, ends-written}
use Rattle.record.specs.declared.Piece.{Piece}
use Rattle.record.specs.Parts.{PieceIs, Headed}
use Rattle.record.specs.Encoded.{kind_in, FieldsAre, SomeFields, SomeKind}
use Rattle.record.proofs.Standing.{fields-headed, first-field}
use Rattle.abi.specs.Writes.{Put}
use Rattle.abi.proofs.Puts.{put_none, behind-room, put-inside, put-both}
use Rattle.encoding.specs.Dynamic.{head_length, heads_length}
use Rattle.extent.specs.declared.Extent.{Extent}
use Rattle.extent.specs.Walks.{tree_of}
use Rattle.extent.specs.Extents.{ExtentIs, ExtentOf}
use Rattle.extent.proofs.Reaches.{some, none, no_fields, more-fields, Ahead, ahead-named, ahead}
use Rattle.calldata.specs.Calls.{flag, most_bytes, head_bytes, heads_bytes, heads_by, heads_output}
use Rattle.calldata.specs.Parts.{ShortAre, ShortIn, HeadsLong, HeadsRoom, SomeHeads, HeadsWrote}

pub head_five : (k : Kind) → length (head_bytes k) ≡ 5
unfolding head_bytes
head_five k = omega (arith, le_length 4 (head_length k))

more_bytes : (k : Kind) (js : Kinds) → length (heads_bytes (more_kinds k js)) ≡ 5 + length (heads_bytes js)
unfolding heads_bytes
more_bytes k js = length-append (head_bytes k) (heads_bytes js) ∙ ap (λ n. n + length (heads_bytes js)) (head_five k)

no_bytes : (b : List ℕ) (fs : Fields) → FieldsAre b fs → true ≡ eqb (length b) 0 → heads_bytes (kinds_of fs) ≡ []
unfolding heads_bytes
no_bytes b fs i t = ap heads_bytes (no_fields b fs i (none b t))

-- How many bytes they take.

pub record Counting (b rest : List ℕ) (n : ℕ) : Type 0 where
  pub ask : SomeFields rest
  pub low : n + length rest ≤ length b
  pub all : (fs : Fields) → FieldsAre b fs → (gs : Fields) × FieldsAre rest gs × (n + length (heads_bytes (kinds_of gs)) ≡ length (heads_bytes (kinds_of fs)))

pub count-start : (b : List ℕ) → SomeFields b → Counting b b 0
count-start b q = record { ask = q; low = omega arith; all = λ fs i. (fs, i, zero-add _) }

module _ {b rest : List ℕ} {n : ℕ} (w : Counting b rest n) where
  pub count-end : true ≡ eqb (length rest) 0 → HeadsLong b n
  count-end t fs i = let (gs, j, e) = w.all fs i in omega (arith, e, ap length (no_bytes rest gs j t))

  module _ (t : false ≡ eqb (length rest) 0) where
    pub count-headed : Headed rest
    count-headed = fields-headed rest w.ask (some rest t)

    pub count_next : {p : Piece} → PieceIs rest (Some p) → Counting b p.rest.now (n + 5)
    count_next {p} j = record {
      ask = let x = first-field rest p w.ask.0 w.ask.1 (some rest t) j in (x.fields, x.rest);
      low = omega (arith, w.low, j.covers);
      all = λ fs i.
          let (gs, k, e) = w.all fs i in
          let x = first-field rest p gs k (some rest t) j in
          let split = ap (λ ks. length (heads_bytes ks)) (more-fields gs x.field x.fields x.split) in
          (x.fields, x.rest, omega (arith, e, split, more_bytes (tree_of (kind_in x.field)) (kinds_of x.fields)));
    }

-- Writing.

flag-is : (t : Bool) → from_bool t ≡ flag t
flag-is true = refl
flag-is false = refl

pub put-head : (out : List ℕ) (f n : ℕ) (d : Bool) (out₁ : List ℕ) → 5 ≤ length out → f ≡ from_bool d → out₁ ≡ put 1 (little_endian 4 n) (set out 0 f)
    → Put (flag d ∷ little_endian 4 n) out out₁ 5
unfolding put
put-head [] f n d out₁ h e g = absurd (omega arith)
put-head (c ∷ t) f n d out₁ h e g = record { same = g ∙ rw (e, flag-is d, le_length 4 n) refl; long = omega (arith, le_length 4 n) }

-- what is written so far, for fields that it may be
pub record Run (b out₀ rest : List ℕ) (n : ℕ) (out : List ℕ) (fs : Fields) : Type 0 where
  pub fields : Fields
  pub short : ShortAre rest fields
  pub front : List ℕ
  pub written : Put front out₀ out n
  pub whole : front ++ heads_bytes (kinds_of fields) ≡ heads_bytes (kinds_of fs)

pub record Writing (b out₀ rest : List ℕ) (n : ℕ) (out : List ℕ) : Type 0 where
  pub ask : SomeHeads b out₀
  pub all : (fs : Fields) → HeadsRoom b out₀ fs → Run b out₀ rest n out fs

pub write_start : (b out : List ℕ) → SomeHeads b out → Writing b out b 0 out
write_start b out q = record { ask = q; all = λ fs h. record { fields = fs; short = h.short; front = []; written = put_none out; whole = refl } }

module _ {b out₀ rest : List ℕ} {n : ℕ} {out : List ℕ} (w : Writing b out₀ rest n out) where
  pub write_end : true ≡ eqb (length rest) 0 → HeadsWrote b out₀ out n
  write_end t fs r =
      let x = w.all fs r in
      let none-left = ap (λ u. x.front ++ u) (sym (no_bytes rest x.fields x.short.is t)) in
      rw (sym (append-nil x.front) ∙ none-left ∙ x.whole) at x.written

  module _ (t : false ≡ eqb (length rest) 0) where
    pub write-headed : Headed rest
    write-headed = let x = (w.all w.ask.0 w.ask.1).short.is in fields-headed rest ((w.all w.ask.0 w.ask.1).fields, x) (some rest t)

    module _ {p : Piece} (j : PieceIs rest (Some p)) where
      pub write-named : (2 ≤ length p.body.now) × Headed (drop 2 p.body.now)
      write-named = let x = w.all w.ask.0 w.ask.1 in ahead-named rest (some rest t) p j (x.fields, x.short.is)

      module _ {q : Piece} (g : PieceIs (drop 2 p.body.now) (Some q)) where
        first : (fs : Fields) → FieldsAre rest fs → Ahead p q fs
        first = ahead rest (some rest t) p j q g

        pub write_asks : SomeKind q.rest.now
        write_asks = let x = w.all w.ask.0 w.ask.1 in let z = first x.fields x.short.is in (z.kind, z.is)

        -- with the next head
        module _ (fs : Fields) (r : HeadsRoom b out₀ fs) where
          x : Run b out₀ rest n out fs
          x = w.all fs r

          z : Ahead p q x.fields
          z = first x.fields x.short.is

          next-whole : (x.front ++ head_bytes (tree_of z.kind)) ++ heads_bytes (kinds_of z.fields) ≡ heads_bytes (kinds_of fs)
          unfolding heads_bytes
          next-whole = append_assoc x.front (head_bytes (tree_of z.kind)) _ ∙ ap (λ ks. x.front ++ heads_bytes ks) (sym z.kinds) ∙ x.whole

          next-room : length (x.front ++ head_bytes (tree_of z.kind)) ≤ length out₀
          next-room = omega (arith, ap length next-whole, length-append (x.front ++ head_bytes (tree_of z.kind)) (heads_bytes (kinds_of z.fields)), r.room)

        pub write_place : (n ≤ length out) × (n + 5 ≤ length out₀) × (5 ≤ length (take (length out - n) (drop n out)))
        write_place =
            let (fs, r) = w.ask in
            let y = x fs r in
            let h = head_bytes (tree_of (z fs r).kind) in
            let five = head_five (tree_of (z fs r).kind) in
            let room : length y.front + length h ≤ length out₀ = omega (arith, next-room fs r, length-append y.front h) in
            let place = put-inside y.front out₀ out n y.written (omega arith) in
            (place, omega (arith, y.written.long), omega (arith, behind-room y.front out₀ out n y.written h (next-room fs r)))

        pub write_next : {e : Extent} → ExtentOf q.rest.now e → (c : List ℕ) (m : ℕ)
            → Put (flag e.dynamic ∷ little_endian 4 e.head) (take (length out - n) (drop n out)) c m
            → Writing b out₀ p.rest.now (n + m) (put_mid n (length out - n) out c)
        unfolding head_bytes heads_length
        write_next {e} o c m u = record {
          ask = w.ask;
          all = λ fs r.
              let y = x fs r in
              let v = z fs r in
              let i : ExtentIs (tree_of v.kind) e = o.all v.kind v.is in
              let more : heads_length (kinds_of y.fields) ≡ head_length (tree_of v.kind) + heads_length (kinds_of v.fields) = ap heads_length v.kinds in
              let head : e.head ≡ head_length (tree_of v.kind) = omega (arith, i.head, more, y.short.small) in
              record {
                fields = v.fields;
                short = record { is = v.rest; small = omega (arith, more, y.short.small) };
                front = y.front ++ head_bytes (tree_of v.kind);
                written = put-both y.front out₀ out n y.written (head_bytes (tree_of v.kind)) c m (rw (i.dynamic, head) at u);
                whole = next-whole fs r;
              };
        }

-- The call.

module _ {b bytes : List ℕ} (i : ShortIn b bytes) where
  heads-are : heads_output b ≡ writes (heads_bytes (kinds_of i.fields))
  unfolding heads_output heads_by
  heads-are = i.same heads_by ∙ rw (heads_by, le-ltb most_bytes (heads_length (kinds_of i.fields)) i.short.small)

  module _ (out : List ℕ) {n : ℕ} (l : HeadsLong bytes n) where
    pub heads-full : length out < n → (r : Answer) → r ≡ refusing NoRoom 0 → Ends (heads_output b) out out r
    heads-full h r e = ends-full (heads_output b) out r (heads_bytes (kinds_of i.fields)) e heads-are (omega (arith, l i.fields i.short.is))

    module _ (h : n ≤ length out) where
      heads-room : HeadsRoom bytes out i.fields
      heads-room = record { short = i.short; room = omega (arith, l i.fields i.short.is) }

      pub heads-ask : SomeHeads bytes out
      heads-ask = (i.fields, heads-room)

      pub heads-written : (out₁ : List ℕ) (m : ℕ) → HeadsWrote bytes out out₁ m → Ends (heads_output b) out out₁ (Ok m)
      unfolding put
      heads-written out₁ m u =
          let w = u i.fields heads-room in
          ends-written (heads_output b) out (Ok m) (heads_bytes (kinds_of i.fields)) out₁ (ap Ok w.long) heads-are heads-room.room (w.same ∙ rw zero-add refl)
