-- Elementary kinds and suffixes: what the text is, where there is one.
-- Assumes nothing.
use mathlib.Core.Path.{◌≡◌, refl, sym, ◌∙◌, ap}
use mathlib.Core.Bool.{Bool, true, false}
use mathlib.Core.List.{List, [], ◌∷◌, ◌++◌}
use Rattle.std.specs.Prelude.{Option, None, Some}
use Rattle.std.proofs.lemmas.Option.{none-some, same_Some}
use Prim.Native.Nat.{ℕ, ◌+◌, ◌-◌, ◌≤◌, ◌<◌}
use native.Mathlib.Omega.{arith}
use lib.Dec.{eqb}
use lib.ListN.{length, take, drop, set, length-append}
use borrow.Rule.Slice.PartMut.{put_mid}
use lib.Seq.{take_all}
use borrow.Author.Tests.{eqb-true}
use Rattle.kinds.specs.Decimal.{decimal}
use Rattle.kinds.specs.Kind.{bits, octets, is_bit_width, is_byte_length, Elementary, int, uint, fixed_bytes, address, bool, bytes, string, elementary_text, sized, unsized, suffix_text}
use Rattle.model.specs.Layout.{le_value}
use Rattle.model.specs.Record.{when, ended, wholly, Case, case, select, elementary_cases, decode_elementary, suffix_cases, decode_suffix}
use Rattle.model.proofs.Decoding.{when-some, on_some, ended_some}
use Rattle.record.specs.Texts.{elementary_from, suffix_from}
use Rattle.abi.specs.Writes.{number_word, lone_word, Put, Room}
use Rattle.abi.proofs.Puts.{put_none, put-both, behind-room, behind-byte, put-byte}

-- what is read by cases says what each of them says
module _ {A : Type 0} (body : List ℕ) (a : A) (P : ℕ → Type 0) where
  abbrev Tells : List (Case (List ℕ → Option A)) → Type 0
  Tells [] = Unit {0}
  Tells (case n T ∷ cs) = (T body ≡ Some a → P n) × Tells cs

  tells : (cs : List (Case (List ℕ → Option A))) → Tells cs → (k : ℕ) → select cs (λ _. None) k body ≡ Some a → P k
  tells [] h k q = absurd (none-some a q)
  tells (case n T ∷ cs) h k q = go (eqb n k) refl q (tells cs h.1 k)
    where
      go : (t : Bool) → eqb n k ≡ t → (elim t as (λ _. List ℕ → Option A) [ true ↦ T | false ↦ select cs (λ _. None) k ]) body ≡ Some a → (select cs (λ _. None) k body ≡ Some a → P k) → P k
      go true p r later = rw (← (eqb-true n k p)) (h.0 r)
      go false p r later = later r

  -- a number that takes the whole of a body
  wholly-tells : (n k : ℕ) (f : ℕ → Option A) → (length body ≡ n → f (le_value body) ≡ Some a → P k) → wholly n body f ≡ Some a → P k
  wholly-tells n k f h q = go (eqb (length body) n) refl q
    where
      go : (t : Bool) → eqb (length body) n ≡ t → elim t as (λ _. Option A) [ true ↦ f (le_value body) | false ↦ None ] ≡ Some a → P k
      go true p r = h (eqb-true _ _ p) r
      go false p r = absurd (none-some a r)

-- an elementary kind with a number, or one of the others
record Spelled (body u : List ℕ) (k : ℕ) : Type 0 where
  numbered : length body ≡ 2 → u ≡ number_word k ++ decimal (le_value body)
  lone : (length body ≡ 2 → ⊥) → u ≡ lone_word k

module _ (body : List ℕ) (e : Elementary) where
  abbrev Is : ℕ → Type 0
  Is k = Spelled body (elementary_text e) k

  numbered : (k : ℕ) (t : ℕ → Bool) (f : ℕ → Elementary) → ((v : ℕ) → elementary_text (f v) ≡ number_word k ++ decimal v) → wholly 2 body (λ v. when (t v) (Some (f v))) ≡ Some e → Is k
  numbered k t f h =
      wholly-tells body e Is 2 k (λ v. when (t v) (Some (f v))) (λ l r.
      when-some (t (le_value body)) (Some (f (le_value body))) r (λ _ s.
      record { numbered = λ _. ap elementary_text (sym (same_Some _ _ s)) ∙ h (le_value body); lone = λ z. absurd (z l) }))

  lone : (k : ℕ) (x : Elementary) → elementary_text x ≡ lone_word k → ended body (Some x) ≡ Some e → Is k
  lone k x h r = ended_some body (Some x) r (λ l s. record { numbered = λ z. absurd (omega (arith, ap length l)); lone = λ _. ap elementary_text (sym (same_Some _ _ s)) ∙ h })

  spelled : (k : ℕ) → decode_elementary k body ≡ Some e → Is k
  unfolding decode_elementary elementary_text number_word lone_word
  spelled =
      tells body e Is elementary_cases (
        numbered 1 is_bit_width (λ v. int (bits v)) (λ v. refl),
        (
          numbered 2 is_bit_width (λ v. uint (bits v)) (λ v. refl),
          (
            lone 3 address refl,
            (
              lone 4 bool refl,
              (numbered 5 is_byte_length (λ v. fixed_bytes (octets v)) (λ v. refl), (lone 6 Elementary.function refl, (lone 7 bytes refl, (lone 8 string refl, tt)))),
            ),
          ),
        ),
      )

module _ (k : ℕ) (body b : List ℕ) (q : Room (elementary_from k body) b) where
  text-is : Spelled body q.text k
  unfolding elementary_from
  text-is = on_some elementary_text (decode_elementary k body) q.same (λ e p h. rw (← h) (spelled body e k p))

  pub numbered-text : length body ≡ 2 → elementary_from k body ≡ Some (number_word k ++ decimal (le_value body))
  numbered-text l = q.same ∙ ap Some (text-is.numbered l)

  pub lone-text : (length body ≡ 2 → ⊥) → elementary_from k body ≡ Some (lone_word k)
  lone-text z = q.same ∙ ap Some (text-is.lone z)

-- a suffix with a number, or the other
record SuffixIs (body u : List ℕ) (k : ℕ) : Type 0 where
  sized : k ≡ 10 → (length body ≡ 8) × (u ≡ 91 ∷ (decimal (le_value body) ++ (93 ∷ [])))
  bare : (k ≡ 10 → ⊥) → u ≡ 91 ∷ 93 ∷ []

module _ (k : ℕ) (body b : List ℕ) (q : Room (suffix_from k body) b) where
  suffix-is : SuffixIs body q.text k
  unfolding suffix_from decode_suffix suffix_text
  suffix-is =
      on_some suffix_text (decode_suffix k body) q.same (λ s p h.
      tells body s (SuffixIs body q.text) suffix_cases (
        wholly-tells body s (SuffixIs body q.text) 8 10 (λ v. Some (sized v)) (λ l r. record { sized = λ _. (l, sym h ∙ ap suffix_text (sym (same_Some _ _ r))); bare = λ z. absurd (z refl) }),
        ((λ r. ended_some body (Some unsized) r (λ _ t. record { sized = λ z. absurd (omega arith); bare = λ _. sym h ∙ ap suffix_text (sym (same_Some _ _ t)) })), tt),
      ) k p)

  module _ (e : k ≡ 10) where
    pub sized-long : length body ≡ 8
    sized-long = (suffix-is.sized e).0

    pub sized-least : 2 ≤ length b
    sized-least = omega (arith, ap length (suffix-is.sized e).1, length-append (decimal (le_value body)) (93 ∷ []), q.room)

    pub sized-text : (v : ℕ) → v ≡ le_value (take 8 body) → suffix_from k body ≡ Some (91 ∷ (decimal v ++ (93 ∷ [])))
    sized-text v f = let g : v ≡ le_value body = f ∙ ap le_value (take_all 8 body (omega (arith, sized-long))) in q.same ∙ ap Some (rw g (suffix-is.sized e).1)

  pub bare-text : (k ≡ 10 → ⊥) → suffix_from k body ≡ Some (91 ∷ 93 ∷ [])
  bare-text z = q.same ∙ ap Some (suffix-is.bare z)

-- a number in brackets
module _ (d b : List ℕ) (h : length (91 ∷ (d ++ (93 ∷ []))) ≤ length b) where
  opened : Put (91 ∷ []) b (set b 0 91) 1
  opened = put-byte [] b b 0 (put_none b) 91 (omega arith)

  less : length ((91 ∷ []) ++ d) < length b
  less = omega (arith, h, length-append d (93 ∷ []))

  pub number-room : length d ≤ length (take (length (set b 0 91) - 1) (drop 1 (set b 0 91)))
  number-room = behind-room _ _ _ _ opened d (omega (arith, less))

  module _ (c : List ℕ) (m : ℕ) (p : Put d (take (length (set b 0 91) - 1) (drop 1 (set b 0 91))) c m) where
    abbrev both : List ℕ
    both = put_mid 1 (length (set b 0 91) - 1) (set b 0 91) c

    numbered-put : Put ((91 ∷ []) ++ d) b both (1 + m)
    numbered-put = put-both _ _ _ _ opened d c m p

    pub closing : 1 + m < length both
    closing = behind-byte _ _ _ _ numbered-put less

    pub sized-put : Put (91 ∷ (d ++ (93 ∷ []))) b (set both (1 + m) 93) (1 + m + 1)
    sized-put = put-byte _ _ _ _ numbered-put 93 less
