-- Fingerprints: how they are made, and that declarations that repeat each other have the same.
-- Assumes nothing.
use mathlib.Core.Path.{◌≡◌, refl, sym, ◌∙◌, ap}
use mathlib.Core.Bool.{Bool, true, false, ◌||◌, or-false}
use mathlib.Core.List.{List, [], ◌∷◌}
use Rattle.std.specs.Prelude.{Option, None, Some, Ok}
use Rattle.std.specs.List.{fold, list_any}
use Prim.Native.Nat.{ℕ, suc, ◌+◌, ◌*◌, ◌-◌, ◌≤◌, ◌<◌}
use native.Mathlib.Omega.{arith}
use native.Mathlib.Numerals.{add-one}
use lib.Dec.{ltb}
use lib.ListN.{length, take, drop, get_or, length-drop, drop_of_length-le}
use lib.Seq.{drop-cons, take_at}
use borrow.Author.Tests.{le-ltb}
use Rattle.kinds.specs.Kind.{canonical}
use Rattle.model.specs.declared.Refusal.{Refusal}
use Rattle.model.specs.Layout.{le_value}
use Rattle.model.specs.Tree.{kinds_of}
use Rattle.model.specs.Reading.{deepest}
use Rattle.model.specs.Record.{encode, decode}
use Rattle.model.specs.Line.{canonical_text}
use Rattle.model.specs.Answer.{accepted, refused, number, writes, said, outcome, after, Answer, refusing}
use Rattle.model.specs.Calls.{canonical_output, of_record, or_wrong_sort}
use Rattle.model.proofs.Records.{decode-exactly, encode-bytes}
use Rattle.model.proofs.Lengths.{line-short}
use Rattle.model.proofs.Scans.{part-rest}
use Rattle.layout.proofs.Answers.{keeps_length, accepted-is, after-written}
use Rattle.abi.specs.Writes.{Put, LineRoom, LineWrote}
use Rattle.repeat.specs.declared.Line.{Line}
use Rattle.repeat.specs.Prints.{mixed, print, print_text, print_in, OneRecord, PrintIs}
use Rattle.repeat.specs.Said.{LineIs}

-- four bytes more, where there are so many; one byte more, where there are not; and none
four-first : (h : ℕ) (u : List ℕ) → 4 ≤ length u → print h u ≡ print (mixed h (le_value (take 4 u))) (drop 4 u)
unfolding print
four-first h (a ∷ b ∷ c ∷ d ∷ t) l = refl
four-first h (a ∷ b ∷ c ∷ []) l = absurd (omega arith)
four-first h (a ∷ b ∷ []) l = absurd (omega arith)
four-first h (a ∷ []) l = absurd (omega arith)
four-first h [] l = absurd (omega arith)

one-first : (h c : ℕ) (u : List ℕ) → length u < 3 → print h (c ∷ u) ≡ print (mixed h c) u
unfolding print
one-first h c [] l = refl
one-first h c (a ∷ []) l = refl
one-first h c (a ∷ b ∷ []) l = refl
one-first h c (a ∷ b ∷ d ∷ u) l = absurd (omega arith)

module _ (t : List ℕ) (h r g : ℕ) where
  pub print-four : (v : ℕ) → g ≡ print h t → r ≡ mixed h v → v ≡ le_value (take 4 (drop 0 t)) → 4 ≤ length t → g ≡ print r (take (length t - 4) (drop 4 t))
  print-four v q m e l = q ∙ four-first h t l ∙ rw (part-rest, m, e)

  pub print-one : (i : ℕ) → g ≡ print h (drop i t) → r ≡ mixed h (get_or t i 0) → i < length t → length t < 4 → g ≡ print r (drop (i + 1) t)
  print-one i q m l k = q ∙ ap (print h) (drop-cons t i 0 l) ∙ one-first h (get_or t i 0) (drop (suc i) t) (rw length-drop (omega arith)) ∙ rw (m, add-one)

pub print-end : (t : List ℕ) (h i g : ℕ) → g ≡ print h (drop i t) → length t ≤ i → h ≡ g
unfolding print
print-end t h i g q l = sym (q ∙ ap (print h) (drop_of_length-le t l))

pub ruleset stepping = (print-four, print-one, print-end)

-- a test of each, without an early exit
folded : (f : ℕ → Bool) (b : Bool) (xs : List ℕ) → fold (λ a x. a || f x) b xs ≡ (b || list_any f xs)
folded f b [] = sym (or-false b)
folded f true (x ∷ xs) = folded f true xs
folded f false (x ∷ xs) = folded f (f x) xs

pub any_folded : (f : ℕ → Bool) (xs : List ℕ) (r : Bool) → r ≡ fold (λ a x. a || f x) false xs → r ≡ list_any f xs
any_folded f xs r e = e ∙ folded f false xs

-- what is written of a record
module _ (t : List ℕ) (p : OneRecord t) where
  pub output-is : canonical_output t ≡ or_wrong_sort (canonical_text p.declaration)
  unfolding canonical_output
  output-is =
      let b = p.one.bytes in
      let w = p.one.well in
      let e : decode t ≡ Some p.declaration = ap decode b ∙ (decode-exactly (encode 4 p.declaration) p.declaration (encode-bytes p.declaration w)).1 (w, refl) in
      ap (λ o. of_record o (λ d. or_wrong_sort (canonical_text d))) e

  -- where there is room for twice the record, its whole text has a fingerprint
  pub text-short : (u : List ℕ) → canonical_text p.declaration ≡ Some u → length u < 2 * length t
  text-short u e = line-short t u (rw p.one.bytes (encode-bytes p.declaration p.one.well)) (output-is ∙ ap or_wrong_sort e)

  pub print-is : (n : ℕ) → 2 * length t ≤ n → (u : List ℕ) → canonical_text p.declaration ≡ Some u → print_in n p.declaration ≡ print 0 u
  unfolding print_in
  print-is n l u e = rw (e, print_text, le-ltb n (length u) (omega (arith, text-short u e))) refl

  pub print-room : (n m : ℕ) → 2 * length t ≤ n → 2 * length t ≤ m → print_in n p.declaration ≡ print_in m p.declaration
  unfolding print_in
  print-room n m k l = go (canonical_text p.declaration) refl
    where
      go : (o : Option (List ℕ)) → canonical_text p.declaration ≡ o → print_in n p.declaration ≡ print_in m p.declaration
      go None e = ap (print_text n) e ∙ sym (ap (print_text m) e)
      go (Some u) e = print-is n k u e ∙ sym (print-is m l u e)

-- the lent scratch
module _ (t b b₁ : List ℕ) (a : Answer) (says : said a ≡ outcome (length b) (canonical_output t)) (leaves : b₁ ≡ after b (canonical_output t)) where
  scratch-length : length b₁ ≡ length b
  scratch-length = ap length leaves ∙ keeps_length b (canonical_output t)

  pub print-fits : (n : ℕ) → a ≡ Ok n → n ≤ length b₁
  unfolding said
  print-fits n e =
      let (u, o, x, y) = accepted-is (canonical_output t) (length b) n (sym (ap said e) ∙ says) in
      omega (arith, x, y, scratch-length)

  print-of : (u : List ℕ) (o : Option (List ℕ)) → or_wrong_sort o ≡ writes u → length u ≤ length b → print_text (length b) o ≡ print 0 u
  print-of u None e l = absurd (let z : ◌≡◌ {A = ℕ} 0 1 = cc in omega arith)
  print-of u (Some v) e l = let z : v ≡ u = cc in rw (← z) (rw (print_text, le-ltb (length b) (length v) (rw z l)) refl)

  pub print-written : (n r : ℕ) → a ≡ Ok n → r ≡ print 0 (take n b₁) → PrintIs t b b₁ r
  unfolding said print_in
  print-written n r e q =
      let (u, o, x, y) = accepted-is (canonical_output t) (length b) n (sym (ap said e) ∙ says) in
      let same-part : take n b₁ ≡ u = ap (take n) (leaves ∙ after-written b u (canonical_output t) o y) ∙ take_at u (drop (length u) b) n (sym x) in
      record {
        size = scratch-length;
        same = λ p. q ∙ ap (print 0) same-part ∙ sym (print-of u (canonical_text p.declaration) (sym (output-is t p) ∙ o) y);
      }

  print-long : (w : Refusal) (x : ℕ) (o : Option (List ℕ)) → refused (number w) x ≡ outcome (length b) (or_wrong_sort o) → 0 ≡ print_text (length b) o
  unfolding outcome number
  print-long w x None e = refl
  print-long w x (Some v) e = go (ltb (length b) (length v)) refl e
    where
      go : (c : Bool) → ltb (length b) (length v) ≡ c → refused (number w) x ≡ elim c [ true ↦ refused 20 0 | false ↦ accepted (length v) ] → ◌≡◌ {A = ℕ} 0 (elim c [ true ↦ 0 | false ↦ print 0 v ])
      go true q f = refl
      go false q f = absurd (let z : ◌≡◌ {A = ℕ} 0 1 = cc in omega arith)

  pub print-refused : (w : Refusal) (x : ℕ) → a ≡ refusing w x → PrintIs t b b₁ 0
  unfolding said print_in number
  print-refused w x e = record {
    size = scratch-length;
    same = λ p. print-long w x (canonical_text p.declaration) (sym (ap said e) ∙ says ∙ ap (outcome (length b)) (output-is t p));
  }

-- the fingerprint of a record that is not checked again
module _ (t b : List ℕ) where
  pub print-none : LineIs t None → PrintIs t b b 0
  unfolding print_in
  print-none h = record { size = refl; same = λ p. ap (print_text (length b)) (sym (h p)) }

  module _ (l : Line) (h : LineIs t (Some l)) (room : 2 * length t ≤ length b) where
    pub print-asks : OneRecord t → LineRoom l.name.now l.fields.now b
    print-asks p = let s = h p in record { sort = s.sort; d = deepest; at = record { text = _; same = s.same ∙ s.text; room = omega (arith, text-short t p _ s.text) } }

    module _ (b₁ : List ℕ) (n : ℕ) (w : LineWrote l.name.now l.fields.now b b₁ n) where
      its-line : (p : OneRecord t) → Put (canonical (record { name = l.name.now; kinds = kinds_of (h p).fields })) b b₁ n
      unfolding print-asks
      its-line p = let s = h p in w s.sort deepest (print-asks p).at _ (s.same ∙ s.text)

      pub print-inside : OneRecord t → length b₁ ≡ length b → n ≤ length b₁
      print-inside p e = omega (arith, (its-line p).long, text-short t p _ (h p).text)

      pub print-line : length b₁ ≡ length b → (r : ℕ) → r ≡ print 0 (take n b₁) → PrintIs t b b₁ r
      print-line e r q = record {
        size = e;
        same = λ p.
            let s = its-line p in
            let u = canonical (record { name = l.name.now; kinds = kinds_of (h p).fields }) in
            q ∙ ap (print 0) (ap (take n) s.same ∙ take_at u (drop (length u) b) n (sym s.long)) ∙ sym (print-is t p (length b) room u (h p).text);
      }
