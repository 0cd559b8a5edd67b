-- Suffixes one behind the other, taken off from the left and written.
-- Assumes nothing.
use Rattle.std.proofs.Common.{◌≡◌, refl, sym, ◌∙◌, ap, subst, true, false, List, [], ◌∷◌, ◌++◌, append_assoc, append-nil, add-zero, take-append-drop, ℕ, ◌+◌, ◌≤◌, ◌<◌, arith, length, length-append, take, drop, nat_eq, position, None, Some, ◌==◌}
use Rattle.std.specs.Cmp.Lexicographic.{pointwise}
use Rattle.std.specs.List.{between, position_or_len}
use Rattle.std.proofs.Math.Seq.{take-append_seam, drop-append-add}
use Rattle.std.proofs.lemmas.Bool.{true≢false, lt-ltb}
use Rattle.std.proofs.lemmas.Option.{none-some, same_Some}
use Rattle.std.proofs.lemmas.Slice.{between_to_end}
use borrow.Author.Tests.{ne_eqb}
use Rattle.kinds.specs.Bytes.{lbracket, rbracket, all, is_digit}
use Rattle.kinds.specs.Kind.{Suffix}
use Rattle.kinds.proofs.Logic.{left, right}
use Rattle.model.specs.KindText.{inside}
use Rattle.model.proofs.Scans.{between-both}
use Rattle.model.proofs.InBrackets.{inside-exactly}
use Rattle.model.proofs.KindBack.{inner-digits}
use Rattle.model.specs.Record.{encode_suffix, encode_suffixes}
use Rattle.layout.specs.Buffer.{put}
use Rattle.layout.proofs.Puts.{put_then, length-put}
use Rattle.value.specs.Run.{Suffixed, SuffixesAt, SuffixesPut}

-- the first `]` ends the first suffix, which has digits alone before it
digits-first : (m u : List ℕ) → all is_digit m ≡ true → position_or_len (λ c. c == rbracket) (m ++ (rbracket ∷ u)) ≡ length m
digits-first [] u h = refl
digits-first (c ∷ m) u h =
    let b = between-both 48 57 c (left (all is_digit m) h) in
    rw (ne_eqb c rbracket (λ q. omega arith), digits-first m u (right (is_digit c) h)) (omega arith)

shut_at : (m u : List ℕ) (s : Suffix) → inside m ≡ Some s → position (λ c. c == rbracket) (m ++ (rbracket ∷ u)) ≡ Some (length m)
shut_at m u s i =
    let d : all is_digit m ≡ true = rw ((inside-exactly m s).0 i).0 (inner-digits s) in
    let l : length m < length (m ++ (rbracket ∷ u)) = simp length-append (omega arith) in
    rw (digits-first m u d, lt-ltb (length m) (length (m ++ (rbracket ∷ u))) l)

-- a text that is suffixes is none, if it begins with none
no-suffix : (ss : List Suffix) (t : List ℕ) → Suffixed ss t → ((s : Suffix) (m u : List ℕ) → t ≡ lbracket ∷ (m ++ (rbracket ∷ u)) → inside m ≡ Some s → ⊥) → ss ≡ []
no-suffix [] t i n = refl
no-suffix (s ∷ os) t i n = let (m, u, e, f, r) = i in absurd (n s m u e f)

pub first-open : (t : List ℕ) → pointwise nat_eq (take 1 t) (lbracket ∷ []) ≡ false → (ss : List Suffix) → Suffixed ss t → ss ≡ []
first-open t b ss i = no-suffix ss t i (λ s m u e f. true≢false (rw e at b))

module _ (t behind : List ℕ) (b : pointwise nat_eq (take 1 t) (lbracket ∷ []) ≡ true) (o : behind ≡ drop 1 t) where
  behind-is : (m u : List ℕ) → t ≡ lbracket ∷ (m ++ (rbracket ∷ u)) → behind ≡ m ++ (rbracket ∷ u)
  behind-is m u e = o ∙ ap (drop 1) e

  pub first-end : None ≡ position (λ c. c == rbracket) behind → (ss : List Suffix) → Suffixed ss t → ss ≡ []
  first-end n ss i = no-suffix ss t i (λ s m u e f. none-some (length m) (n ∙ rw (behind-is m u e) (shut_at m u s f)))

  module _ (end : ℕ) (p : Some end ≡ position (λ c. c == rbracket) behind) where
    end-is : (s : Suffix) (m u : List ℕ) → t ≡ lbracket ∷ (m ++ (rbracket ∷ u)) → inside m ≡ Some s → end ≡ length m
    end-is s m u e f = same_Some end (length m) (p ∙ rw (behind-is m u e) (shut_at m u s f))

    inner_is : (s : Suffix) (m u : List ℕ) → t ≡ lbracket ∷ (m ++ (rbracket ∷ u)) → inside m ≡ Some s → take end behind ≡ m
    inner_is s m u e f = rw (behind-is m u e, end-is s m u e f) (take-append_seam m (rbracket ∷ u))

    pub first-wrong : None ≡ inside (take end behind) → (ss : List Suffix) → Suffixed ss t → ss ≡ []
    first-wrong n ss i = no-suffix ss t i (λ s m u e f. none-some s (n ∙ rw (inner_is s m u e f) f))

    pub first-is : (s : Suffix) → Some s ≡ inside (take end behind) → (ss : List Suffix) → Suffixed ss t → (os : List Suffix) × (ss ≡ s ∷ os) × Suffixed os (between (end + 1) (length behind) behind)
    first-is s n [] i = absurd (true≢false (sym b ∙ rw i))
    first-is s n (k ∷ os) i =
        let (m, u, e, f, r) = i in
        let q : k ≡ s = same_Some k s (sym f ∙ rw (← inner_is k m u e f) (sym n)) in
        let d : between (end + 1) (length behind) behind ≡ u = between_to_end behind (end + 1) (length behind) (omega arith) ∙ rw (behind-is m u e, end-is k m u e f) (drop-append-add m (rbracket ∷ u) 1) in
        (os, ap (λ x. x ∷ os) q, subst (Suffixed os) (sym d) r)

-- a text is suffixes in one way
pub suffixed_unique : (ss os : List Suffix) (t : List ℕ) → Suffixed ss t → Suffixed os t → ss ≡ os
suffixed_unique [] os t i j = sym (no-suffix os t j (λ s m u e f. let z : [] ≡ lbracket ∷ (m ++ (rbracket ∷ u)) = sym i ∙ e in cc))
suffixed_unique (s ∷ ss) [] t i j = let (m, u, e, f, r) = i in let z : [] ≡ lbracket ∷ (m ++ (rbracket ∷ u)) = sym j ∙ e in cc
suffixed_unique (s ∷ ss) (k ∷ os) t i j =
    let (m, u, e, f, r) = i in
    let p : Some (length m) ≡ position (λ c. c == rbracket) (drop 1 t) = rw e (sym (shut_at m u s f)) in
    let n : Some s ≡ inside (take (length m) (drop 1 t)) = rw (e, take-append_seam m (rbracket ∷ u)) (sym f) in
    let X : List ℕ = between (length m + 1) (length (drop 1 t)) (drop 1 t) in
    let (ss₁, x, v) = first-is t (drop 1 t) (rw e refl) refl (length m) p s n (s ∷ ss) i in
    let (os₁, y, w) = first-is t (drop 1 t) (rw e refl) refl (length m) p s n (k ∷ os) j in
    let a : ss₁ ≡ ss = cc in
    let b : os₁ ≡ os = cc in
    let c : k ≡ s = cc in
    rw (c, suffixed_unique ss os X (subst (λ l. Suffixed l X) a v) (subst (λ l. Suffixed l X) b w)) refl

pub encodes_last : (ss : List Suffix) (s : Suffix) → encode_suffixes 4 (ss ++ (s ∷ [])) ≡ encode_suffixes 4 ss ++ encode_suffix 4 s
unfolding encode_suffixes
encodes_last [] s = append-nil (encode_suffix 4 s)
encodes_last (o ∷ ss) s = ap (encode_suffix 4 o ++◌) (encodes_last ss s) ∙ sym (append_assoc (encode_suffix 4 o) (encode_suffixes 4 ss) (encode_suffix 4 s))

-- the loop: some suffixes are written, up to e, and those of a text are left
pub record Writing (t : List ℕ) (o : ℕ) (b₀ text : List ℕ) (e : ℕ) (b : List ℕ) : Type 0 where
  pub done : List Suffix
  pub left_over : List Suffix
  pub whole : Suffixed (done ++ left_over) t
  pub rest : Suffixed left_over text
  pub wrote : b ≡ put o (encode_suffixes 4 done) b₀
  pub size : length b ≡ length b₀
  pub place : e ≡ o + length (encode_suffixes 4 done)
  pub room : e + length (encode_suffixes 4 left_over) ≤ length b₀

put-none : (o : ℕ) (b : List ℕ) → b ≡ put o [] b
unfolding put
put-none o b = rw add-zero (sym (take-append-drop o b))

pub writing_start : (t : List ℕ) (o : ℕ) (b : List ℕ) → SuffixesAt t o b → Writing t o b t o b
unfolding encode_suffixes
writing_start t o b a = record {
  done = [];
  left_over = a.suffixes;
  whole = a.suffixed;
  rest = a.suffixed;
  wrote = put-none o b;
  size = refl;
  place = sym (add-zero o);
  room = a.room;
}

module _ (t : List ℕ) (o : ℕ) (b₀ text : List ℕ) (e : ℕ) (b : List ℕ) (w : Writing t o b₀ text e b) where
  module _ (s : Suffix) (behind : List ℕ) (f : (ss : List Suffix) → Suffixed ss text → (os : List Suffix) × (ss ≡ s ∷ os) × Suffixed os behind) where
    pub writing-room : e + length (encode_suffix 4 s) ≤ length b
    unfolding encode_suffixes
    writing-room =
        let (os, q, r) = f w.left_over w.rest in
        omega (arith, w.size, w.room, ap (λ l. length (encode_suffixes 4 l)) q, length-append (encode_suffix 4 s) (encode_suffixes 4 os))

    pub writing-next : (b₁ : List ℕ) (n : ℕ) → b₁ ≡ put e (encode_suffix 4 s) b → n ≡ length (encode_suffix 4 s) → Writing t o b₀ behind (e + n) b₁
    unfolding encode_suffixes
    writing-next b₁ n p m =
        let (os, q, r) = f w.left_over w.rest in
        let k = encodes_last w.done s in
        let l : length (encode_suffixes 4 (w.done ++ (s ∷ []))) ≡ length (encode_suffixes 4 w.done) + length (encode_suffix 4 s) = ap length k ∙ length-append (encode_suffixes 4 w.done) (encode_suffix 4 s) in
        let z : e + length (encode_suffix 4 s) + length (encode_suffixes 4 os) ≤ length b₀
        = omega (arith, w.room, ap (λ l. length (encode_suffixes 4 l)) q, length-append (encode_suffix 4 s) (encode_suffixes 4 os)) in
        let j : b₁ ≡ put o (encode_suffixes 4 w.done ++ encode_suffix 4 s) b₀ = put_then o e (encode_suffixes 4 w.done) (encode_suffix 4 s) b₀ b b₁ w.wrote p w.place (omega (arith, w.place, z)) in
        record {
          done = w.done ++ (s ∷ []);
          left_over = os;
          whole = rw append_assoc (subst (λ l. Suffixed (w.done ++ l) t) q w.whole);
          rest = r;
          wrote = j ∙ ap (λ x. put o x b₀) (sym k);
          size = ap length p ∙ length-put e (encode_suffix 4 s) b writing-room ∙ w.size;
          place = omega (arith, w.place, l, m);
          room = omega (arith, z, m);
        }

  pub writing-end : ((ss : List Suffix) → Suffixed ss text → ss ≡ []) → SuffixesPut t o b₀ b
  writing-end f ss i =
      let q : w.done ++ w.left_over ≡ ss = suffixed_unique (w.done ++ w.left_over) ss t w.whole i in
      w.wrote ∙ ap (λ l. put o (encode_suffixes 4 l) b₀) (sym (append-nil w.done) ∙ rw (← f w.left_over w.rest) q)
