-- A run is read as a kind only where it is a spelling of that kind in the ABI Specification.
-- Assumes nothing.
use mathlib.Core.Path.{◌≡◌, refl, sym, ◌∙◌, ap, subst}
use mathlib.Core.Bool.{true}
use mathlib.Core.List.{List, [], ◌∷◌, ◌++◌}
use Rattle.std.specs.Prelude.{Option, None, Some}
use Prim.Native.Nat.{ℕ, zero, suc}
use lib.ListN.{length, take, drop, take-append-drop}
use Rattle.kinds.specs.Bytes.{ascii, lbracket, rbracket}
use Rattle.kinds.specs.Decimal.{decimal, number}
use Rattle.kinds.specs.Kind.{BitWidth, bits, octets, is_bit_width, is_byte_length, Elementary, int, uint, fixed_bytes, address, bool, bytes, string, elementary_text, Suffix, suffix_text, Kind}
use Rattle.kinds.proofs.Logic.{same_equal}
use Rattle.kinds.proofs.Decimal.{number-exact}
use Rattle.model.specs.Tree.{arrays}
use Rattle.model.specs.KindText.{Result, ok, err, on_result, lookup, inside, Peeled, peeled, bare, peel, Spelled, add_suffix, unsuffixed, from_str_by, from_str_in, from_str, kind_words, starts, width, byte_length, with_number, or_number, elementary_of}
use Rattle.model.specs.Written.{SpellsElementary, itself, short_int, short_uint, SpellsKind}
use Rattle.model.proofs.InBrackets.{suffix-inner, inside-exactly}
use Rattle.model.proofs.Bounds.{tested, In, Right, lookup-of}
use Rattle.model.proofs.Suffixes.{peel-split}
use Rattle.model.proofs.Spelling.{arrays-last}

-- a word and what follows it
parted : (w t : List ℕ) → starts w t ≡ true → t ≡ w ++ drop (length w) t
parted w t e = sym (take-append-drop (length w) t) ∙ ap (λ x. x ++ drop (length w) t) (sym ((same_equal w (take (length w) t)).0 e))

module _ (t : List ℕ) where
  abbrev Spelt : Result Elementary → Type 0
  Spelt r = Right (λ e. SpellsElementary e t) r

  -- a word with a number of at most m behind it is the text of the kind that it names
  numbered : (w : List ℕ) (m : ℕ) (f : ℕ → Elementary) → ((n : ℕ) → elementary_text (f n) ≡ w ++ decimal n) → starts w t ≡ true → In (λ n. SpellsElementary (f n) t) (number m (drop (length w) t))
  numbered w m f x e = go (number m (drop (length w) t)) refl
    where
      go : (o : Option ℕ) → number m (drop (length w) t) ≡ o → In (λ n. SpellsElementary (f n) t) o
      go None q = tt
      go (Some n) q = subst (SpellsElementary (f n)) (x n ∙ ap (λ u. w ++ u) (sym (number-exact m (drop (length w) t) n q)) ∙ sym (parted w t e)) (itself (f n))

  width-spelled : (f : BitWidth → Elementary) (o : Option ℕ) → In (λ n. SpellsElementary (f (bits n)) t) o → Spelt (width f o)
  width-spelled f None h = tt
  width-spelled f (Some n) h = tested Spelt (is_bit_width n) (λ _. h) (λ _. tt)

  length-spelled : (o : Option ℕ) → In (λ n. SpellsElementary (fixed_bytes (octets n)) t) o → Spelt (byte_length o)
  length-spelled None h = tt
  length-spelled (Some n) h = tested Spelt (is_byte_length n) (λ _. h) (λ _. tt)

  with_number_lem : Spelt (with_number t)
  unfolding with_number elementary_text
  with_number_lem = tested Spelt (starts (ascii "int") t)
      (λ e. width-spelled int (number 256 (drop 3 t)) (numbered (ascii "int") 256 (λ n. int (bits n)) (λ n. refl) e))
      (λ _. tested Spelt (starts (ascii "uint") t)
      (λ e. width-spelled uint (number 256 (drop 4 t)) (numbered (ascii "uint") 256 (λ n. uint (bits n)) (λ n. refl) e))
      (λ _. tested Spelt (starts (ascii "bytes") t)
      (λ e. length-spelled (number 32 (drop 5 t)) (numbered (ascii "bytes") 32 (λ n. fixed_bytes (octets n)) (λ n. refl) e))
      (λ _. tt)))

  words : In (λ e. SpellsElementary e t) (lookup kind_words t)
  unfolding elementary_text
  words = lookup-of (λ w e. SpellsElementary e w) kind_words t (short_int, (short_uint, (itself address, (itself bool, (itself Elementary.function, (itself bytes, (itself string, tt)))))))

  spelt : Spelt (elementary_of t)
  unfolding elementary_of
  spelt = go (lookup kind_words t) words
    where
      go : (o : Option Elementary) → In (λ e. SpellsElementary e t) o → Spelt (or_number t o)
      go (Some e) h = h
      go None h = with_number_lem

-- every text that is read as an elementary kind is one of its spellings
pub elementary-spelled : (t : List ℕ) (e : Elementary) → elementary_of t ≡ ok e → SpellsElementary e t
elementary-spelled t e q = subst (Right (λ x. SpellsElementary x t)) q (spelt t)

-- what is read as a suffix is its text
pub suffix-exact : (m : List ℕ) (o : Suffix) → inside m ≡ Some o → lbracket ∷ (m ++ (rbracket ∷ [])) ≡ suffix_text o
suffix-exact m o e = ap (λ u. lbracket ∷ (u ++ (rbracket ∷ []))) ((inside-exactly m o).0 e).0 ∙ sym (suffix-inner o)

-- every run that is read is a spelling of its kind, suffixes included
abbrev SpellsRun : List ℕ → Spelled → Type 0
SpellsRun t s = SpellsKind (arrays (Kind.elementary s.kind) s.suffixes) t

run_in : (k : ℕ) (t : List ℕ) → Right (SpellsRun t) (from_str_in k t)
unfolding from_str_in arrays
run_in zero t = tt
run_in (suc k) t = go (lookup kind_words t) (words t) (peel t) refl (λ a. run_in k a)
  where
    alone : (r : Result Elementary) → Right (λ e. SpellsElementary e t) r → Right (SpellsRun t) (on_result unsuffixed r)
    alone (ok e) h = h
    alone (err w) h = tt

    suffixed : (a : List ℕ) (o : Suffix) → t ≡ a ++ suffix_text o → (r : Result Spelled) → Right (SpellsRun a) r → Right (SpellsRun t) (on_result (add_suffix o) r)
    suffixed a o e (ok s) h = rw (arrays-last s.suffixes (Kind.elementary s.kind) o) (a, e, h)
    suffixed a o e (err w) h = tt

    go : (l : Option Elementary) → In (λ e. SpellsElementary e t) l → (p : Peeled) → peel t ≡ p → ((a : List ℕ) → Right (SpellsRun a) (from_str_in k a)) → Right (SpellsRun t) (from_str_by (λ a. from_str_in k a) t l p)
    go (Some e) h p q ih = h
    go None h (peeled a o) q ih =
        let (m, f, i) = peel-split t a o q in
        suffixed a o (f ∙ ap (λ u. a ++ u) (suffix-exact m o i)) (from_str_in k a) (ih a)
    go None h bare q ih = alone (with_number t) (with_number_lem t)

pub run-spelled : (t : List ℕ) (s : Spelled) → from_str t ≡ ok s → SpellsKind (arrays (Kind.elementary s.kind) s.suffixes) t
unfolding from_str
run-spelled t s q = subst (Right (SpellsRun t)) q (run_in (suc (length t)) t)
