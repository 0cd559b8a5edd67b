-- A spelling of a kind, as the kind call scans it where it begins with `(`: it has no blank and no name, and no more tuples open than the kind has.
-- Assumes nothing.
use mathlib.Core.Path.{◌≡◌, refl, sym, ◌∙◌, ap}
use mathlib.Core.Bool.{Bool, true, false, ◌&&◌, not, and-false, false≢true}
use mathlib.Core.List.{List, [], ◌∷◌, ◌++◌, append_assoc, append-nil}
use Rattle.std.specs.Prelude.{None}
use Prim.Native.Nat.{ℕ, zero, suc, ◌+◌, ◌≤◌, ◌<◌}
use native.Mathlib.Omega.{arith}
use lib.Dec.{eqb}
use lib.ListN.{length, length-append}
use borrow.Author.Tests.{ne_eqb, not-true}
use Rattle.kinds.specs.Bytes.{comma, lparen, rparen, lbracket, rbracket, all, is_letter, is_word_byte}
use Rattle.kinds.specs.Kind.{Suffix, Kind, Kinds, no_kind, more_kinds, suffix_text}
use Rattle.kinds.proofs.Logic.{both, left, right, all_append, all_weaken, word-all}
use Rattle.model.specs.Text.{first}
use Rattle.model.specs.Reading.{deepest}
use Rattle.model.specs.Calls.{crowded, closes, is_bare}
use Rattle.model.specs.Written.{SpellsKind, SpellsList, SpellsRest, fits, all_fit}
use Rattle.model.proofs.Scans.{blank-plain, word_range}
use Rattle.model.proofs.InBrackets.{inner, suffix-inner}
use Rattle.model.proofs.KindBack.{inner-word, spelled-word}

-- Tuples that open.

-- bytes that are no brackets of tuples open and close none
abbrev is_flat : ℕ → Bool
is_flat c = not (eqb c lparen) && not (eqb c rparen)

crowded_flat : (t r : List ℕ) (l p : ℕ) → all is_flat t ≡ true → crowded l p (t ++ r) ≡ crowded l (p + length t) r
unfolding crowded
crowded_flat [] r l p h = ap (λ n. crowded l n r) (omega arith)
crowded_flat (c ∷ t) r l p h =
    let f : is_flat c ≡ true = left _ h in
    rw (not-true (eqb c lparen) (left _ f), not-true (eqb c rparen) (right (not (eqb c lparen)) f))
    (crowded_flat t r l (suc p) (right (is_flat c) h) ∙ ap (λ n. crowded l n r) (omega arith))

word_flat : (t : List ℕ) → all is_word_byte t ≡ true → all is_flat t ≡ true
word_flat = all_weaken is_word_byte is_flat (λ c h. rw (ne_eqb c lparen (λ q. false≢true (ap is_word_byte (sym q) ∙ h)), ne_eqb c rparen (λ q. false≢true (ap is_word_byte (sym q) ∙ h))))

suffix_flat : (o : Suffix) → all is_flat (suffix_text o) ≡ true
suffix_flat o = rw (suffix-inner o, all_append is_flat (inner o) (rbracket ∷ [])) (both (word_flat (inner o) (inner-word o)) refl)

mutual
  unfolding crowded fits

  crowded-kind : (k : Kind) (t : List ℕ) → SpellsKind k t → (d : ℕ) → fits d k ≡ true → (l p : ℕ) (r : List ℕ) → d ≤ l → crowded l p (t ++ r) ≡ crowded l (p + length t) r
  crowded-kind (Kind.elementary e) t w d f l p r h = crowded_flat t r l p (word_flat t (word-all t (spelled-word w)))
  crowded-kind (Kind.tuple ks) t w zero f l p r h = absurd (false≢true f)
  crowded-kind (Kind.tuple ks) t w (suc d) f zero p r h = absurd (omega arith)
  crowded-kind (Kind.tuple ks) t w (suc d) f (suc l) p r h =
      rw w.1 (crowded-list ks w.0 w.2 d f l (suc p) r (omega arith) ∙ ap (λ n. crowded (suc l) n r) (omega arith))
  crowded-kind (Kind.array k s) t w d f l p r h =
      rw (w.1, append_assoc) (crowded-kind k w.0 w.2 d (left _ f) l p (suffix_text s ++ r) h ∙ crowded_flat (suffix_text s) r l (p + length w.0) (suffix_flat s)
      ∙ ap (λ n. crowded l n r) (omega (arith, length-append w.0 (suffix_text s))))

  crowded-list : (ks : Kinds) (t : List ℕ) → SpellsList ks t → (d : ℕ) → all_fit d ks ≡ true → (l p : ℕ) (r : List ℕ) → d ≤ l → crowded l p (t ++ r) ≡ crowded (suc l) (p + length t) r
  crowded-list no_kind t w d f l p r h = rw w (ap (λ n. crowded (suc l) n r) (omega arith))
  crowded-list (more_kinds k ks) t w d f l p r h =
      rw (w.2, append_assoc) (crowded-kind k w.0 w.3 d (left _ f) l p (w.1 ++ r) h ∙ crowded-rest ks w.1 w.4 d (right (fits d k) f) l (p + length w.0) r h
      ∙ ap (λ n. crowded (suc l) n r) (omega (arith, length-append w.0 w.1)))

  crowded-rest : (ks : Kinds) (t : List ℕ) → SpellsRest ks t → (d : ℕ) → all_fit d ks ≡ true → (l p : ℕ) (r : List ℕ) → d ≤ l → crowded l p (t ++ r) ≡ crowded (suc l) (p + length t) r
  crowded-rest no_kind t w d f l p r h = rw w (ap (λ n. crowded (suc l) n r) (omega arith))
  crowded-rest (more_kinds k ks) t w d f l p r h =
      rw w.2 (ap (crowded l (suc p)) (append_assoc w.0 w.1 r) ∙ crowded-kind k w.0 w.3 d (left _ f) l (suc p) (w.1 ++ r) h ∙ crowded-rest ks w.1 w.4 d (right (fits d k) f) l (suc p + length w.0) r h
      ∙ ap (λ n. crowded (suc l) n r) (omega (arith, length-append w.0 w.1)))

-- Blanks and names: behind a bracket that closes stands no letter.

abbrev unlettered : List ℕ → Bool
unlettered r = not (is_letter (first r))

bare-either : (b c : Bool) (r : List ℕ) → unlettered r ≡ true → is_bare b r ≡ is_bare c r
unfolding is_bare
bare-either b c [] h = refl
bare-either b c (x ∷ r) h = let n : is_letter x ≡ false = not-true (is_letter x) h in rw (n, and-false b, and-false c)

bare-byte : (b : Bool) (c : ℕ) (t : List ℕ) → 33 ≤ c → c < 128 → (b && is_letter c) ≡ false → is_bare b (c ∷ t) ≡ is_bare (closes c) t
unfolding is_bare
bare-byte b c t low high e = rw (is_bare, blank-plain c t low high, e)

bare-word : (w r : List ℕ) → all is_word_byte w ≡ true → is_bare false (w ++ r) ≡ is_bare false r
bare-word [] r h = refl
bare-word (c ∷ w) r h =
    let (low, high) = word_range c (left _ h) in
    let n : closes c ≡ false = rw (ne_eqb c rparen (λ q. false≢true (ap is_word_byte (sym q) ∙ left _ h)), ne_eqb c rbracket (λ q. false≢true (ap is_word_byte (sym q) ∙ left _ h))) in
    bare-byte false c (w ++ r) (omega arith) (omega arith) refl ∙ rw n (bare-word w r (right (is_word_byte c) h))

bare-suffix : (o : Suffix) (r : List ℕ) → unlettered r ≡ true → is_bare false (suffix_text o ++ r) ≡ is_bare false r
bare-suffix o r h =
    rw (suffix-inner o, append_assoc)
    (bare-byte false lbracket (inner o ++ (rbracket ∷ r)) (omega arith) (omega arith) refl ∙ bare-word (inner o) (rbracket ∷ r) (inner-word o)
    ∙ bare-byte false rbracket r (omega arith) (omega arith) refl ∙ bare-either true false r h)

suffix-unlettered : (o : Suffix) (r : List ℕ) → unlettered (suffix_text o ++ r) ≡ true
suffix-unlettered o r = rw (suffix-inner o)

rest-unlettered : (ks : Kinds) (t r : List ℕ) → SpellsRest ks t → unlettered (t ++ r) ≡ true
rest-unlettered no_kind t r w = rw w
rest-unlettered (more_kinds k ks) t r w = rw w.2

mutual
  bare-kind : (k : Kind) (t : List ℕ) → SpellsKind k t → (r : List ℕ) → unlettered r ≡ true → is_bare false (t ++ r) ≡ is_bare false r
  bare-kind (Kind.elementary e) t w r h = bare-word t r (word-all t (spelled-word w))
  bare-kind (Kind.tuple ks) t w r h = rw w.1 (bare-byte false lparen (w.0 ++ r) (omega arith) (omega arith) refl ∙ bare-list ks w.0 w.2 r h)
  bare-kind (Kind.array k s) t w r h = rw (w.1, append_assoc) (bare-kind k w.0 w.2 (suffix_text s ++ r) (suffix-unlettered s r) ∙ bare-suffix s r h)

  bare-list : (ks : Kinds) (t : List ℕ) → SpellsList ks t → (r : List ℕ) → unlettered r ≡ true → is_bare false (t ++ r) ≡ is_bare false r
  bare-list no_kind t w r h = rw w (bare-byte false rparen r (omega arith) (omega arith) refl ∙ bare-either true false r h)
  bare-list (more_kinds k ks) t w r h = rw (w.2, append_assoc) (bare-kind k w.0 w.3 (w.1 ++ r) (rest-unlettered ks w.1 r w.4) ∙ bare-rest ks w.1 w.4 r h)

  bare-rest : (ks : Kinds) (t : List ℕ) → SpellsRest ks t → (r : List ℕ) → unlettered r ≡ true → is_bare false (t ++ r) ≡ is_bare false r
  bare-rest no_kind t w r h = rw w (bare-byte false rparen r (omega arith) (omega arith) refl ∙ bare-either true false r h)
  bare-rest (more_kinds k ks) t w r h =
      rw (w.2, append_assoc) (bare-byte false comma (w.0 ++ (w.1 ++ r)) (omega arith) (omega arith) refl
      ∙ bare-kind k w.0 w.3 (w.1 ++ r) (rest-unlettered ks w.1 r w.4) ∙ bare-rest ks w.1 w.4 r h)

-- Both, of a whole text.

pub uncrowded : (k : Kind) (t : List ℕ) → SpellsKind k t → fits deepest k ≡ true → crowded deepest 0 t ≡ None
unfolding crowded
uncrowded k t w f = ap (crowded deepest 0) (sym (append-nil t)) ∙ crowded-kind k t w deepest f deepest 0 [] (omega arith)

pub all-bare : (k : Kind) (t : List ℕ) → SpellsKind k t → is_bare false t ≡ true
unfolding is_bare
all-bare k t w = ap (is_bare false) (sym (append-nil t)) ∙ bare-kind k t w [] refl
