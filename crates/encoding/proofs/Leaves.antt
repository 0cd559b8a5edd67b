-- Words and strings of bytes are read exactly where they are encodings of values of an elementary kind.
-- Assumes nothing.
use mathlib.Core.Path.{◌≡◌, refl, sym, ◌∙◌, ap}
use mathlib.Core.Bool.{Bool, true, false, ◌&&◌, ◌||◌, false≢true, or-true}
use mathlib.Core.List.{List, ◌++◌}
use Rattle.std.specs.Prelude.{Some}
use Prim.Native.Nat.{ℕ, suc, ◌+◌, ◌*◌, ◌-◌, ◌^◌, ◌≤◌, ◌<◌}
use native.Mathlib.Nat.{pow-le-pow_right, lt_of_lt_of_le}
use native.Mathlib.Omega.{arith}
use lib.Dec.{leb, ltb, eqb}
use lib.ListN.{length, take, drop, get_or, replicate, length-append, length-drop, length-replicate, take-append-drop}
use lib.Seq.{drop_at, length-take-le}
use borrow.Author.Tests.{ltb-true, lt-ltb, leb-true, le-leb, eqb-true, eq-eqb}
use Rattle.kinds.specs.Bytes.{all}
use Rattle.kinds.specs.Kind.{bits, octets, is_bit_width, is_byte_length, is_elementary, Elementary, int, uint, fixed_bytes, address, bool, function, bytes, string}
use Rattle.encoding.specs.Words.{is_byte, word, whole_words, padded}
use Rattle.encoding.specs.Values.{Value, natural, negative, text, members, natural_below, signed_below, text_of, is_elementary_value}
use Rattle.encoding.specs.Encoding.{bytes_in, integer_word, counted, enc_elementary}
use Rattle.encoding.specs.Judge.{be_value, all_are, is_word_of, when, word_at, has_word, tested, string_at, leaf}
use Rattle.kinds.proofs.Logic.{both, left, right, width-most}
use Rattle.encoding.proofs.Words.{word-length, word_read, word-written, word_below}
use Rattle.encoding.proofs.Ranges.{part_bytes, zeros_below, front_below, sign_repeated, octets-of}
use Rattle.encoding.proofs.Stands.{Stands, stands_join, stands-front, stands-rest, stands-take, taken, Exact, when-some, bytes-at, long-at, tested-exact, zeros_only, zeros_zero, filled-exact}

-- the encodings of an elementary kind
abbrev pub ElementaryEncoding : Elementary → List ℕ → Type 0
ElementaryEncoding e u = (v : Value) × (is_elementary_value e v ≡ true) × (u ≡ enc_elementary e v)

pub text-only : {Q : Type 0} (p : ℕ → Bool) (v : Value) → text_of p v ≡ true → ((s : List ℕ) → v ≡ text s → all is_byte s ≡ true → p (length s) ≡ true → Q) → Q
text-only p (natural n) h next = absurd (false≢true h)
text-only p (negative n) h next = absurd (false≢true h)
text-only p (text s) h next = next s refl (left _ h) (right (all is_byte s) h)
text-only p (members vs) h next = absurd (false≢true h)

and_comm : (a b : Bool) → (a && b) ≡ (b && a)
and_comm true true = refl
and_comm true false = refl
and_comm false true = refl
and_comm false false = refl

module _ (d : List ℕ) (all-bytes : all is_byte d ≡ true) where
  -- numbers below a limit
  module _ (m : ℕ) (small : m ≤ 2 ^ 256) where
    abbrev NaturalWord : List ℕ → Type 0
    NaturalWord u = (v : Value) × (natural_below m v ≡ true) × (u ≡ integer_word v)

    natural-from : (u : List ℕ) → NaturalWord u → (length u ≡ 32) × (ltb (be_value u) m ≡ true)
    natural-from u x = go x.0 x.1 x.2
      where
        go : (v : Value) → natural_below m v ≡ true → u ≡ integer_word v → (length u ≡ 32) × (ltb (be_value u) m ≡ true)
        go (natural n) h e = (rw e (word-length n), rw (e, word_read n (lt_of_lt_of_le (ltb-true n m h) small)) h)
        go (negative n) h e = absurd (false≢true h)
        go (text s) h e = absurd (false≢true h)
        go (members vs) h e = absurd (false≢true h)

    natural-exact : Exact d (tested d (λ w. ltb (be_value w) m)) NaturalWord
    natural-exact = tested-exact d all-bytes (λ w. ltb (be_value w) m) NaturalWord (λ w long b t. (natural (be_value w), t, sym (word-written w long b))) natural-from

  -- numbers on either side of zero
  negative-high : (top m n : ℕ) → n < m → m ≤ top → top - m ≤ top - 1 - n
  negative-high top m n h k = omega arith

  negative-below : (top m n : ℕ) → n < m → m ≤ top → top - 1 - n < top
  negative-below top m n h k = omega arith

  negative-small : (top m x : ℕ) → x < top → top - m ≤ x → top - 1 - x < m
  negative-small top m x h k = omega arith

  negative_back : (top x : ℕ) → x < top → x ≡ top - 1 - (top - 1 - x)
  negative_back top x h = omega arith

  module _ (m : ℕ) (small : m ≤ 2 ^ 256) where
    abbrev SignedWord : List ℕ → Type 0
    SignedWord u = (v : Value) × (signed_below m v ≡ true) × (u ≡ integer_word v)

    abbrev is_signed : List ℕ → Bool
    is_signed w = ltb (be_value w) m || leb (2 ^ 256 - m) (be_value w)

    signed-from : (u : List ℕ) → SignedWord u → (length u ≡ 32) × (is_signed u ≡ true)
    signed-from u x = go x.0 x.1 x.2
      where
        go : (v : Value) → signed_below m v ≡ true → u ≡ integer_word v → (length u ≡ 32) × (is_signed u ≡ true)
        go (natural n) h e = (rw e (word-length n), rw (e, word_read n (lt_of_lt_of_le (ltb-true n m h) small), h))
        go (negative n) h e =
            let less : n < m = ltb-true n m h in (
              rw e (word-length (2 ^ 256 - 1 - n)),
              rw (e, word_read (2 ^ 256 - 1 - n) (negative-below (2 ^ 256) m n less small), le-leb _ _ (negative-high (2 ^ 256) m n less small)) (or-true (ltb (2 ^ 256 - 1 - n) m)),
            )
        go (text s) h e = absurd (false≢true h)
        go (members vs) h e = absurd (false≢true h)

    signed-to : (w : List ℕ) → length w ≡ 32 → all is_byte w ≡ true → is_signed w ≡ true → SignedWord w
    signed-to w long b t = go (ltb (be_value w) m) refl t
      where
        go : (c : Bool) → ltb (be_value w) m ≡ c → (c || leb (2 ^ 256 - m) (be_value w)) ≡ true → SignedWord w
        go true e h = (natural (be_value w), e, sym (word-written w long b))
        go false e h =
            let under = word_below w long b in
            (negative (2 ^ 256 - 1 - be_value w), lt-ltb _ _ (negative-small (2 ^ 256) m (be_value w) under (leb-true _ _ h)), sym (word-written w long b) ∙ ap word (negative_back (2 ^ 256) (be_value w) under))

    signed-exact : Exact d (tested d is_signed) SignedWord
    signed-exact = tested-exact d all-bytes is_signed SignedWord signed-to signed-from

  -- strings of bytes
  abbrev TextWord : (ℕ → Bool) → (List ℕ → List ℕ) → List ℕ → Type 0
  TextWord p E u = (v : Value) × (text_of p v ≡ true) × (u ≡ E (bytes_in v))

  -- m bytes of a word, and zeros behind them
  module _ (m : ℕ) (low : 1 ≤ m) (high : m ≤ 32) where
    zeros_behind : (s : List ℕ) → length s ≡ m → padded s ≡ s ++ replicate (32 - m) 0
    unfolding padded
    zeros_behind s e = let f : whole_words (length s) - length s ≡ 32 - m = omega arith in rw f

    fixed-to : (w : List ℕ) → length w ≡ 32 → all is_byte w ≡ true → all_are 0 (drop m w) ≡ true → TextWord (λ n. eqb n m) padded w
    fixed-to w long b t =
        let size : length (take m w) ≡ m = length-take-le m w (omega arith) in
        let left_over : length (drop m w) ≡ 32 - m = omega (arith, length-drop m w) in
        let behind : drop m w ≡ replicate (32 - m) 0 = zeros_only (drop m w) t ∙ ap (λ n. replicate n 0) left_over in
        (text (take m w), both (part_bytes m w b).0 (eq-eqb _ _ size), sym (take-append-drop m w) ∙ ap (λ x. take m w ++ x) behind ∙ sym (zeros_behind (take m w) size))

    fixed_from : (u : List ℕ) → TextWord (λ n. eqb n m) padded u → (length u ≡ 32) × (all_are 0 (drop m u) ≡ true)
    fixed_from u x = text-only (λ n. eqb n m) x.0 x.1 (λ s e b t.
        let size : length s ≡ m = eqb-true _ _ t in
        let shape : u ≡ s ++ replicate (32 - m) 0 = x.2 ∙ ap (λ v. padded (bytes_in v)) e ∙ zeros_behind s size in
        (rw shape (simp (length-append, length-replicate) (omega arith)), rw (shape, drop_at s (replicate (32 - m) 0) m size) (zeros_zero (32 - m))))

    fixed-exact : Exact d (tested d (λ w. all_are 0 (drop m w))) (TextWord (λ n. eqb n m) padded)
    fixed-exact = tested-exact d all-bytes (λ w. all_are 0 (drop m w)) (TextWord (λ n. eqb n m) padded) fixed-to fixed_from

  -- a length, and so many bytes
  abbrev is_long : ℕ → Bool
  is_long n = ltb n (2 ^ 256)

  counted-read : (at e : ℕ) → at + 32 ≤ length d → (u s : List ℕ) → length s ≡ be_value (word_at d at) → all is_byte s ≡ true → u ≡ padded s → Stands d (at + 32) u e
      → (x : List ℕ) × TextWord is_long counted x × Stands d at x e
  counted-read at e room u s long b same_text st =
      let w : List ℕ = word_at d at in
      let size : length w ≡ 32 = long-at d all-bytes 32 at room in
      let back : word (length s) ≡ w = ap word long ∙ word-written w size (bytes-at d all-bytes 32 at) in
      (w ++ u, (text s, both b (lt-ltb (length s) (2 ^ 256) (rw long (word_below w size (bytes-at d all-bytes 32 at)))), rw (back, same_text)), stands_join d at w (at + 32) u e (stands-take d at 32 room) st)

  counted-exact : Exact d (string_at d) (TextWord is_long counted)
  unfolding string_at
  counted-exact = record {
    sound = λ at e h z.
        when-some (has_word d at) _ z (λ g y.
        let room : at + 32 ≤ length d = leb-true _ _ g in
        let (u, p, st) = (filled-exact d all-bytes (be_value (word_at d at))).sound (at + 32) e room y in
        counted-read at e room u p.0 p.1 p.2 p.3 st);
    complete = λ u at e x st.
        text-only is_long x.0 x.1 (λ s e₁ b t.
        let same_text : u ≡ word (length s) ++ padded s = x.2 ∙ ap (λ v. word (length (bytes_in v)) ++ padded (bytes_in v)) e₁ in
        let st₁ : Stands d at (word (length s) ++ padded s) e = rw same_text at st in
        let front = stands-front d at (word (length s)) (padded s) e st₁ in
        let here : word_at d at ≡ word (length s) = rw word-length at (taken d at (word (length s)) _ front) in
        let room : at + 32 ≤ length d = omega (arith, front.inside, word-length (length s)) in
        let n : be_value (word (length s)) ≡ length s = word_read (length s) (ltb-true _ _ t) in
        let back : Stands d (at + 32) (padded s) e = rw word-length at (stands-rest d at (word (length s)) (padded s) e st₁) in
        rw (le-leb _ _ room, here, n) ((filled-exact d all-bytes (length s)).complete (padded s) (at + 32) e (s, refl, b, refl) back));
  }

  -- a test by the number, and one by the bytes
  words-alike : (p q : List ℕ → Bool) → ((w : List ℕ) → length w ≡ 32 → all is_byte w ≡ true → p w ≡ q w) → (at : ℕ) → tested d p at ≡ tested d q at
  unfolding tested
  words-alike p q f at = go (has_word d at) refl
    where
      go : (t : Bool) → has_word d at ≡ t → when (t && p (word_at d at)) (Some (at + 32)) ≡ when (t && q (word_at d at)) (Some (at + 32))
      go true e = ap (λ x. when x (Some (at + 32))) (f (word_at d at) (long-at d all-bytes 32 at (leb-true _ _ e)) (bytes-at d all-bytes 32 at))
      go false e = refl

  by_bytes : (p q : List ℕ → Bool) (P : List ℕ → Type 0) → ((w : List ℕ) → length w ≡ 32 → all is_byte w ≡ true → p w ≡ q w) → Exact d (tested d p) P → Exact d (tested d q) P
  by_bytes p q P f x = record {
    sound = λ at e h z. x.sound at e h (words-alike p q f at ∙ z);
    complete = λ u at e g s. sym (words-alike p q f at) ∙ x.complete u at e g s;
  }

  power_small : (m : ℕ) → m ≤ 256 → 2 ^ m ≤ 2 ^ 256
  power_small m h = pow-le-pow_right {n = 2} (omega arith) {i = m} {j = 256} h

  below_power : (m n k : ℕ) → n + k ≡ 32 → 2 ^ m ≡ 256 ^ k → (w : List ℕ) → length w ≡ 32 → all is_byte w ≡ true → ltb (be_value w) (2 ^ m) ≡ all_are 0 (take n w)
  below_power m n k e f w long b = rw f (zeros_below w b n k (omega arith))

  int-bytes : (m : ℕ) → is_bit_width m ≡ true → (w : List ℕ) → length w ≡ 32 → all is_byte w ≡ true → (ltb (be_value w) (2 ^ (m - 1)) || leb (2 ^ 256 - 2 ^ (m - 1)) (be_value w)) ≡ is_word_of (int (bits m)) w
  unfolding is_word_of
  int-bytes m h w long b =
      let o = octets-of m h in
      let small : 128 * 256 ^ o.k ≤ 2 ^ 256 = rw o.half at (power_small (m - 1) (omega (arith, width-most m h))) in
      rw (o.half, o.bytes) (sign_repeated w b long (32 - suc o.k) o.k (omega (arith, o.most)) small)

  uint-bytes : (m : ℕ) → is_bit_width m ≡ true → (w : List ℕ) → length w ≡ 32 → all is_byte w ≡ true → ltb (be_value w) (2 ^ m) ≡ is_word_of (uint (bits m)) w
  unfolding is_word_of
  uint-bytes m h w long b =
      let o = octets-of m h in
      rw o.bytes (below_power m (32 - suc o.k) (suc o.k) (omega (arith, o.most)) o.whole w long b)

  bool_bytes : (w : List ℕ) → length w ≡ 32 → all is_byte w ≡ true → ltb (be_value w) 2 ≡ is_word_of bool w
  unfolding is_word_of
  bool_bytes w long b = front_below w b 31 0 2 (omega arith) (omega arith) ∙ and_comm (all_are 0 (take 31 w)) (ltb (get_or w 31 0) 2)

  address_bytes : (w : List ℕ) → length w ≡ 32 → all is_byte w ≡ true → ltb (be_value w) (2 ^ 160) ≡ is_word_of address w
  unfolding is_word_of
  address_bytes w long b = zeros_below w b 12 20 (omega arith)

  fixed_word : (m : ℕ) → is_byte_length m ≡ true → Exact d (tested d (λ w. is_word_of (fixed_bytes (octets m)) w)) (TextWord (λ n. eqb n m) padded)
  unfolding is_word_of
  fixed_word m h = fixed-exact m (leb-true 1 m (left _ h)) (leb-true m 32 (right (leb 1 m) h))

  function-word : Exact d (tested d (λ w. is_word_of function w)) (TextWord (λ n. eqb n 24) padded)
  unfolding is_word_of
  function-word = fixed-exact 24 (omega arith) (omega arith)

  pub leaf-exact : (e : Elementary) → is_elementary e ≡ true → Exact d (λ at. leaf d e at) (ElementaryEncoding e)
  unfolding leaf is_elementary is_elementary_value enc_elementary
  leaf-exact (int (bits m)) h = by_bytes _ _ _ (int-bytes m h) (signed-exact (2 ^ (m - 1)) (power_small (m - 1) (omega (arith, width-most m h))))
  leaf-exact (uint (bits m)) h = by_bytes _ _ _ (uint-bytes m h) (natural-exact (2 ^ m) (power_small m (width-most m h)))
  leaf-exact (fixed_bytes (octets m)) h = fixed_word m h
  leaf-exact address h = by_bytes _ _ _ address_bytes (natural-exact (2 ^ 160) (power_small 160 (omega arith)))
  leaf-exact bool h = by_bytes _ _ _ bool_bytes (natural-exact 2 (power_small 1 (omega arith)))
  leaf-exact function h = function-word
  leaf-exact bytes h = counted-exact
  leaf-exact string h = counted-exact
