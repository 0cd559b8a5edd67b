-- Elementary kinds by the numbers of their records, and how many times suffixes say their base.
-- Assumes nothing.
use mathlib.Core.Path.{◌≡◌, refl, sym, ◌∙◌, ap}
use mathlib.Core.Bool.{true, false, false≢true}
use mathlib.Core.List.{List, [], ◌∷◌}
use Rattle.std.specs.Prelude.{Option, Some, min}
use Prim.Native.Nat.{ℕ, ◌+◌, ◌*◌, ◌≤◌, ◌<◌}
use native.Mathlib.Nat.{mul_comm, mul_assoc}
use native.Mathlib.Omega.{arith}
use lib.Dec.{eqb}
use lib.ListN.{length, take, drop}
use lib.Seq.{take_all}
use Rattle.kinds.specs.Bytes.{all}
use Rattle.kinds.specs.Kind.{bits, octets, is_bit_width, is_byte_length, is_elementary, Elementary, int, uint, fixed_bytes, address, bool, function, bytes, string, Suffix, sized, unsized}
use Rattle.kinds.proofs.Logic.{right}
use Rattle.model.specs.Layout.{little_endian, le_value}
use Rattle.model.specs.Record.{Case, case, select}
use Rattle.model.proofs.Decoding.{select-other}
use Rattle.model.proofs.Pieces.{le_length, le_read}
use Rattle.record.specs.declared.Piece.{Piece}
use Rattle.record.specs.Parts.{PieceIs, Headed}
use Rattle.record.proofs.Standing.{suffixes-headed, no-suffixes, FirstSuffix, first-suffix}
use Rattle.encoding.specs.Dynamic.{is_open_ended}
use Rattle.encoding.specs.Judge.{leaf}
use Rattle.words.specs.Places.{capped}
use Rattle.words.proofs.Words.{width_bounds, length_bounds}
use Rattle.extent.specs.Walks.{elementary_code, elementary_body}
use Rattle.extent.specs.Extents.{SuffixIs}
use Rattle.extent.proofs.Caps.{cap_times}
use Rattle.extent.proofs.Reaches.{counted, suffix-is, some, none}
use Rattle.static_kinds.specs.Places.{is_sized, product, SizedAre, SomeSized, CopiesAre, LeafIs, LeafEnds}

-- Elementary kinds.

-- a number of two bytes in a record's body
numbered : (b : List ℕ) (m v : ℕ) → b ≡ little_endian 2 m → m < 65536 → v ≡ le_value (take 2 (drop 0 b)) → (2 ≤ length b) × (v ≡ m)
numbered b m v e h f =
    let long : length b ≡ 2 = ap length e ∙ le_length 2 m in
    (omega arith, f ∙ ap le_value (take_all 2 b (omega arith) ∙ e) ∙ le_read 2 m h)

-- the kind by the number of its record and the number in its body
abbrev elementaries : ℕ → List (Case Elementary)
elementaries v = case 0x1 (int (bits v)) ∷ case 0x2 (uint (bits v)) ∷ case 0x3 address ∷ case 0x4 bool ∷ case 0x5 (fixed_bytes (octets v)) ∷ []

abbrev elementary_by : ℕ → ℕ → Elementary
elementary_by c v = select (elementaries v) function c

pub record Told (t : Piece) (x : Elementary) (v : ℕ) : Type 0 where
  by : x ≡ elementary_by t.kind v
  pub width : t.kind < 3 → (2 ≤ length t.body.now) × (is_bit_width v ≡ true)
  pub octets : t.kind ≡ 5 → (2 ≤ length t.body.now) × (is_byte_length v ≡ true)

module _ (t : Piece) (v : ℕ) (q : v ≡ le_value (take 2 (drop 0 t.body.now))) where
  worded : (x : Elementary) → x ≡ elementary_by t.kind v → 3 ≤ t.kind → (t.kind ≡ 5 → ⊥) → Told t x v
  worded x e h z = record { by = e; width = λ g. absurd (omega arith); octets = λ g. absurd (z g) }

  pub told : (x : Elementary) → LeafIs t x → Told t x v
  unfolding elementary_code is_elementary is_open_ended
  told (int (bits m)) l =
      let n = numbered t.body.now m v l.body_is (omega (arith, width_bounds m l.well)) q in
      record { by = rw (l.code, n.1); width = λ _. (n.0, rw n.1 l.well); octets = λ g. absurd (omega (arith, l.code)) }
  told (uint (bits m)) l =
      let n = numbered t.body.now m v l.body_is (omega (arith, width_bounds m l.well)) q in
      record { by = rw (l.code, n.1); width = λ _. (n.0, rw n.1 l.well); octets = λ g. absurd (omega (arith, l.code)) }
  told (fixed_bytes (octets m)) l =
      let n = numbered t.body.now m v l.body_is (omega (arith, length_bounds m l.well)) q in
      record { by = rw (l.code, n.1); width = λ g. absurd (omega (arith, l.code)); octets = λ _. (n.0, rw n.1 l.well) }
  told address l = worded address (rw l.code) (omega (arith, l.code)) (λ z. omega (arith, l.code))
  told bool l = worded bool (rw l.code) (omega (arith, l.code)) (λ z. omega (arith, l.code))
  told function l = worded function (rw l.code) (omega (arith, l.code)) (λ z. omega (arith, l.code))
  told bytes l = absurd (false≢true (sym l.static))
  told string l = absurd (false≢true (sym l.static))

  -- what a word's judge answers is the answer
  module _ (d : List ℕ) (at : ℕ) (r : Option ℕ) where
    pub answers : (c : ℕ) → t.kind ≡ c → r ≡ leaf d (elementary_by c v) at → LeafEnds t d at r
    answers c e f x l = rw ((told x l).by, e) f

    pub function-ends : (t.kind ≡ 1 → ⊥) → (t.kind ≡ 2 → ⊥) → (t.kind ≡ 3 → ⊥) → (t.kind ≡ 4 → ⊥) → (t.kind ≡ 5 → ⊥) → r ≡ leaf d function at
        → LeafEnds t d at r
    function-ends z₁ z₂ z₃ z₄ z₅ f x l = rw ((told x l).by, select-other t.kind (elementaries v) function (z₁, (z₂, (z₃, (z₄, (z₅, tt)))))) f

-- Suffixes.

-- the first of fixed suffixes, and the others
record FirstSized (p : Piece) (ss : List Suffix) : Type 0 where
  count : ℕ
  suffixes : List Suffix
  split : ss ≡ sized count ∷ suffixes
  is : SuffixIs p (sized count)
  rest : SizedAre p.rest.now suffixes

first-sized : (p : Piece) (ss : List Suffix) → FirstSuffix p ss → all is_sized ss ≡ true → FirstSized p ss
first-sized p ss f w = go f.suffix f.split (suffix-is p ss f) (rw f.split at w)
  where
    go : (s : Suffix) → ss ≡ s ∷ f.suffixes → SuffixIs p s → all is_sized (s ∷ f.suffixes) ≡ true → FirstSized p ss
    go (sized n) e x w = record { count = n; suffixes = f.suffixes; split = e; is = x; rest = record { is = f.rest; fixed = w } }
    go unsized e x w = absurd (false≢true w)

-- how many times they say the base, if those before them say it n times
abbrev Copied : List ℕ → ℕ → ℕ → Type 0
Copied b n r = (ss : List Suffix) → SizedAre b ss → r ≡ capped (product ss * n)

pub record Copying (b left : List ℕ) (n : ℕ) : Type 0 where
  pub ask : SomeSized left
  pub small : n ≤ 65537
  pub all : (r : ℕ) → Copied left n r → CopiesAre b r

module _ {b left : List ℕ} {n : ℕ} (w : Copying b left n) where
  pub copy_end : true ≡ eqb (length left) 0 → CopiesAre b n
  unfolding product
  copy_end t = w.all n (λ ss i. rw (no-suffixes left ss i.is (none left t)) (omega (arith, w.small)))

  module _ (t : false ≡ eqb (length left) 0) where
    pub copy_headed : Headed left
    copy_headed = suffixes-headed left (w.ask.0, w.ask.1.is) (some left t)

    module _ {p : Piece} (j : PieceIs left (Some p)) where
      here : (ss : List Suffix) → SizedAre left ss → FirstSized p ss
      here ss i = first-sized p ss (first-suffix left p ss i.is (some left t) j) i.fixed

      pub copy_long : 8 ≤ length p.body.now
      copy_long = let f = here w.ask.0 w.ask.1 in (counted p.body.now f.count f.is.1 f.is.2).0

      pub copy_next : {v r : ℕ} → v ≡ le_value (take 8 (drop 0 p.body.now)) → (r ≡ capped (v * n)) × (r ≤ 65537) → Copying b p.rest.now r
      unfolding product
      copy_next {v} {r} g q = record {
        ask = let f = here w.ask.0 w.ask.1 in (f.suffixes, f.rest);
        small = q.1;
        all = λ y u. w.all y (λ ss i.
            let f = here ss i in
            let same : v ≡ f.count = g ∙ (counted p.body.now f.count f.is.1 f.is.2).1 in
            let P : ℕ = product f.suffixes in
            let turned : P * (v * n) ≡ f.count * P * n = rw (← same, mul_comm v P) (sym (mul_assoc P v n)) in
            rw f.split (u f.suffixes f.rest ∙ rw (q.0, cap_times P (v * n), turned) refl));
      }
