-- A declaration from its stages.
-- Assumes nothing.
use Rattle.std.proofs.Common.{◌≡◌, refl, sym, ◌∙◌, ap, subst, ℕ, ◌+◌, ◌*◌, ◌≤◌, Bool, true, false, not, List, [], ◌++◌, length, length-append, append_assoc, append-nil, arith}
use Rattle.std.proofs.lemmas.Bool.{false≢true}
use Rattle.std.specs.Prelude.{Result, Ok, Err}
use Rattle.std.specs.Result.{IsErrAnd}
use mathlib.Core.Logic.{◌⊎◌, inl, inr}
use borrow.Rule.Slice.PartMut.{put_mid}
use denote.Enum.Bare.{sameb}
use Rattle.model.specs.contracts.Keyword.{the_type}
use Rattle.model.specs.declared.Keyword.{Keyword}
use Rattle.model.specs.declared.Keyword.TheVariants as key
use Rattle.model.specs.declared.Refused.{Refused}
use Rattle.model.specs.declared.Sort.{Sort}
use Rattle.model.specs.Parser.{Ans, got, bad, deep, on_ans, then, keyword, end}
use Rattle.model.specs.Reading.{keyword_text, parser_of, exec}
use Rattle.model.specs.Record.{encode}
use Rattle.model.specs.Layout.{little_endian}
use Rattle.layout.specs.Buffer.{put, head}
use Rattle.layout.proofs.Puts.{put_then, length-head, headed}
use Rattle.fields.specs.declared.Failed.{Failed}
use Rattle.fields.specs.declared.Failed.TheVariants.{Bad, Deep}
use Rattle.fields.specs.declared.Got.{Got}
use Rattle.fields.specs.Words.{to_taken}
use Rattle.fields.specs.Scratch.{Read, read_to, failed, to_read, bytes_of, Begins, Room}
use Rattle.parser.specs.declared.Stated.{Stated}
use Rattle.parser.specs.declared.Written.{Written}
use Rattle.parser.specs.Stages.{Did, ident_of, list_in, returns_of, sort_of, name_of, StatedIs, outputs_of, code_of, number_of, front_length, front_of, Content, parts_of, to_parts, parts_bytes, PartsAre, Took, declaration_of, body_of, Whole}
use Rattle.parser.proofs.Stepwise.{exec-is}
use Rattle.fields.proofs.Begins.{begins-mid, begins-part, begins-under}
use Rattle.fields.proofs.Family.{is-got, is-failed, then-failed, on-failed, read-failed, bytes-failed}

-- names and outputs, by the keyword
pub name-ident : (s : List ℕ) (at : ℕ) (k : Keyword) (b : List ℕ) (r : Read) → (k ≡ key.Function) ⊎ ((k ≡ key.Event) ⊎ (k ≡ key.Error)) → Did 0 s at b (ident_of s at) r → Did 0 s at b (name_of k s at) r
unfolding name_of
name-ident s at k b r (inl e) d = rw e d
name-ident s at k b r (inr (inl e)) d = rw e d
name-ident s at k b r (inr (inr e)) d = rw e d

nothing : (x : ℕ) (s : List ℕ) (at : ℕ) (b : List ℕ) → at ≤ length s → Did x s at b (got [] at) (read_to at 0)
unfolding to_read bytes_of
nothing x s at b h = record { same = refl; within = omega arith; wrote = refl }

pub name-none : (s : List ℕ) (at : ℕ) (k : Keyword) (b : List ℕ) → at ≤ length s → k ≡ key.Constructor → Did 0 s at b (name_of k s at) (read_to at 0)
unfolding name_of
name-none s at k b h e = rw e (nothing 0 s at b h)

pub outputs-returns : (s : List ℕ) (at : ℕ) (k : Keyword) (b : List ℕ) (r : Read) → k ≡ key.Function → Did 6 s at b (returns_of s at) r → Did 6 s at b (outputs_of k s at) r
unfolding outputs_of
outputs-returns s at k b r e d = rw e d

pub outputs-none : (s : List ℕ) (at : ℕ) (k : Keyword) (b : List ℕ) → at ≤ length s → (k ≡ key.Constructor) ⊎ ((k ≡ key.Event) ⊎ (k ≡ key.Error)) → Did 6 s at b (outputs_of k s at) (read_to at 0)
unfolding outputs_of
outputs-none s at k b h (inl e) = rw e (nothing 6 s at b h)
outputs-none s at k b h (inr (inl e)) = rw e (nothing 6 s at b h)
outputs-none s at k b h (inr (inr e)) = rw e (nothing 6 s at b h)

-- fronts, where x is the code's test
module _ (k : Keyword) (c n m : ℕ) (b b₁ : List ℕ) (x : Bool) (e : c ≡ code_of k) (f : b₁ ≡ put 0 (head n c) b) (q : x ≡ not (sameb the_type k key.Error)) where
  numbered : (b₂ : List ℕ) → 8 ≤ length b → b₂ ≡ put 6 (little_endian 2 m) b₁ → number_of k m ≡ little_endian 2 m → b₂ ≡ put 0 (front_of k n m) b
  unfolding front_of little_endian
  numbered b₂ h g i = rw (← e, i) (put_then 0 6 (head n c) (little_endian 2 m) b b₁ b₂ f g (omega (arith, length-head n c)) (omega (arith, length-head n c)))

  pub front-numbered : (b₂ : List ℕ) → 8 ≤ length b → b₂ ≡ put 6 (little_endian 2 m) b₁ → x ≡ true → b₂ ≡ put 0 (front_of k n m) b
  unfolding number_of
  front-numbered b₂ h g t = numbered b₂ h g (go k (sym q ∙ t))
    where
      go : (j : Keyword) → not (sameb the_type j key.Error) ≡ true → number_of j m ≡ little_endian 2 m
      go key.Function u = refl
      go key.Constructor u = refl
      go key.Event u = refl
      go key.Error u = absurd (false≢true u)

  pub front-bare : x ≡ false → b₁ ≡ put 0 (front_of k n m) b
  unfolding front_of number_of
  front-bare t = f ∙ ap (λ (u : List ℕ). put 0 u b) (ap (head n) e ∙ sym (append-nil (head n (code_of k))) ∙ ap (λ (u : List ℕ). head n (code_of k) ++ u) (go k (sym q ∙ t)))
    where
      go : (j : Keyword) → not (sameb the_type j key.Error) ≡ false → [] ≡ number_of j m
      go key.Function u = absurd (false≢true (sym u))
      go key.Constructor u = absurd (false≢true (sym u))
      go key.Event u = absurd (false≢true (sym u))
      go key.Error u = refl

length-number : (k : Keyword) (m : ℕ) → 6 + length (number_of k m) ≡ front_length k
unfolding number_of front_length little_endian
length-number key.Function m = refl
length-number key.Constructor m = refl
length-number key.Event m = refl
length-number key.Error m = refl

length_front : (k : Keyword) (n m : ℕ) → length (front_of k n m) ≡ front_length k
unfolding front_of
length_front k n m = omega (arith, length-append (head n (code_of k)) (number_of k m), length-head n (code_of k), length-number k m)

-- the parts
parts-failed : (f : Failed) → to_parts (failed f) ≡ Err f
unfolding to_parts failed
parts-failed (Bad r) = refl
parts-failed (Deep p) = refl

no_parts : (f : Failed) → parts_bytes (failed f) ≡ []
unfolding parts_bytes failed
no_parts (Bad r) = refl
no_parts (Deep p) = refl

pub parts-exit : (s : List ℕ) (at : ℕ) (k : Keyword) (b : List ℕ) (f : Failed) (r : Result Written Failed) → IsErrAnd r (λ y. y ≡ f) → parts_of k s at ≡ failed f → PartsAre s at k b r
parts-exit s at k b f (Ok g) h e = absurd h
parts-exit s at k b f (Err y) h e = record { same = ap Err h ∙ sym (parts-failed f) ∙ ap to_parts (sym e); within = tt; wrote = rw (e, no_parts) refl }

module _ (s : List ℕ) (at : ℕ) (k : Keyword) (b₁ : List ℕ) (r₁ : Read) (d₁ : Did 0 s at b₁ (name_of k s at) r₁) where
  pub name-fails : (f : Failed) → r₁ ≡ Err f → parts_of k s at ≡ failed f
  unfolding parts_of
  name-fails f e = rw (is-failed (name_of k s at) f (sym e ∙ d₁.same)) (then-failed f _)

  module _ (g₁ : Got) (e₁ : r₁ ≡ Ok g₁) where
    pub name-paid : (at ≤ g₁.next) × (g₁.next ≤ length s) × (g₁.len + 10 * at ≤ 10 * g₁.next + 0)
    name-paid = rw e₁ at d₁.within

    u : List ℕ
    u = bytes_of (name_of k s at)

    named : (name_of k s at ≡ got u g₁.next) × (g₁.len ≡ length u)
    unfolding u
    named = is-got (name_of k s at) g₁ (sym e₁ ∙ d₁.same)

    module _ (sort : Sort) (y : sort ≡ sort_of k) (b₂ : List ℕ) (r₂ : Read) (d₂ : Did 0 s g₁.next b₂ (list_in sort s g₁.next) r₂) where
      abbrev L : Ans (List ℕ)
      L = list_in (sort_of k) s g₁.next

      ins : Did 0 s g₁.next b₂ L r₂
      ins = subst (λ (t : Sort). Did 0 s g₁.next b₂ (list_in t s g₁.next) r₂) y d₂

      pub inputs-fail : (f : Failed) → r₂ ≡ Err f → parts_of k s at ≡ failed f
      unfolding parts_of then
      inputs-fail f e = rw (named.0, is-failed L f (sym e ∙ ins.same)) (then-failed f _)

      module _ (g₂ : Got) (e₂ : r₂ ≡ Ok g₂) where
        pub inputs-paid : (g₁.next ≤ g₂.next) × (g₂.next ≤ length s) × (g₂.len + 10 * g₁.next ≤ 10 * g₂.next + 0)
        inputs-paid = rw e₂ at ins.within

        v : List ℕ
        v = bytes_of L

        listed : (L ≡ got v g₂.next) × (g₂.len ≡ length v)
        unfolding v
        listed = is-got L g₂ (sym e₂ ∙ ins.same)

        module _ (t : Stated) (j : StatedIs s g₂.next k t) (b₃ : List ℕ) (r₃ : Read) (d₃ : Did 6 s t.next b₃ (outputs_of k s t.next) r₃) where
          abbrev O : Ans (List ℕ)
          O = outputs_of k s t.next

          parts-by : parts_of k s at ≡ on_ans (λ w. record { number = t.number; bytes = (u ++ v) ++ w }) O
          unfolding parts_of then
          parts-by = rw (named.0, listed.0, j.same)

          pub outputs-fail : (f : Failed) → r₃ ≡ Err f → parts_of k s at ≡ failed f
          outputs-fail f e = parts-by ∙ rw (is-failed O f (sym e ∙ d₃.same)) (on-failed _ f)

          pub parts-got : (l₁ l₂ : ℕ) (g₃ : Got) → r₃ ≡ Ok g₃
              → PartsAre s at k (put_mid (g₁.len + g₂.len) l₂ (put_mid g₁.len l₁ b₁ b₂) b₃) (Ok (record { number = t.number; next = g₃.next; len = g₁.len + g₂.len + g₃.len }))
          unfolding to_parts parts_bytes on_ans u v
          parts-got l₁ l₂ g₃ e₃ =
              let w : List ℕ = bytes_of O in
              let p : (t.next ≤ g₃.next) × (g₃.next ≤ length s) × (g₃.len + 10 * t.next ≤ 10 * g₃.next + 6) = rw e₃ at d₃.within in
              let q = is-got O g₃ (sym e₃ ∙ d₃.same) in
              let same : parts_of k s at ≡ got (record { number = t.number; bytes = (u ++ v) ++ w }) g₃.next
              = parts-by ∙ ap (on_ans (λ (x : List ℕ). record { number = t.number; bytes = (u ++ v) ++ x })) q.0 in
              let l : g₁.len + g₂.len + g₃.len ≡ length ((u ++ v) ++ w) = omega (arith, length-append (u ++ v) w, length-append u v, named.1, listed.1, q.1) in
              let m : g₁.len + g₂.len ≡ length (u ++ v) = omega (arith, length-append u v, named.1, listed.1) in
              record {
                same = rw (same, l);
                within = omega (arith, name-paid, inputs-paid, j.low, p);
                wrote = rw same (begins-part w (put_mid g₁.len l₁ b₁ b₂) b₃ (g₁.len + g₂.len) l₂ d₃.wrote (u ++ v) (begins-part v b₁ b₂ g₁.len l₁ ins.wrote u d₁.wrote named.1) m);
              }

-- what follows the keyword
pub whole-exit : (b : List ℕ) (a : Ans (List ℕ)) (f : Failed) (r : Read) → IsErrAnd r (λ y. y ≡ f) → a ≡ failed f → Whole b a r
whole-exit b a f (Ok g) h e = absurd h
whole-exit b a f (Err y) h e = record { same = ap Err h ∙ sym (read-failed f) ∙ ap to_read (sym e); wrote = rw (e, bytes-failed) refl }

-- the parts that were read
record Had (a : Ans Content) (w : Written) : Type 0 where
  content : Content
  same : a ≡ got content w.next
  number : w.number ≡ content.number
  size : w.len ≡ length content.bytes

had : (a : Ans Content) (w : Written) → Ok w ≡ to_parts a → Had a w
unfolding to_parts
had (got c n) w e =
    let q : w ≡ record { number = c.number; next = n; len = length c.bytes } = cc in
    record { content = c; same = ap (got c) (sym (ap (λ (x : Written). x.next) q)); number = ap (λ (x : Written). x.number) q; size = ap (λ (x : Written). x.len) q }
had (bad v p) w e = cc
had (deep p) w e = cc

not-had : (a : Ans Content) (f : Failed) → Err f ≡ to_parts a → a ≡ failed f
unfolding to_parts failed
not-had (got c n) f e = cc
not-had (bad v p) (Bad r) e = cc
not-had (bad v p) (Deep q) e = cc
not-had (deep p) (Bad r) e = cc
not-had (deep p) (Deep q) e = cc

module _ (s : List ℕ) (at : ℕ) (k : Keyword) (b₁ : List ℕ) (r : Result Written Failed) (i : PartsAre s at k b₁ r) where
  pub parts-fail : (f : Failed) → r ≡ Err f → body_of k s at ≡ failed f
  unfolding body_of
  parts-fail f e = rw (not-had (parts_of k s at) f (sym e ∙ i.same)) (then-failed f _)

  module _ (w : Written) (e : r ≡ Ok w) where
    pub parts-paid : (at ≤ w.next) × (w.next ≤ length s) × (w.len + 10 * at ≤ 10 * w.next + 6)
    parts-paid = rw e at i.within

    h : Had (parts_of k s at) w
    h = had (parts_of k s at) w (sym e ∙ i.same)

    body-by : body_of k s at ≡ on_ans (λ _. declaration_of k h.content.number h.content.bytes) (end s w.next)
    unfolding body_of then
    body-by = rw h.same

    module _ (x : Result ℕ Refused) (t : Took s w.next (end s w.next) x) where
      pub unended : (y : Refused) → x ≡ Err y → body_of k s at ≡ failed (Bad y)
      unfolding failed on_ans
      unended y f = body-by ∙ ap (on_ans (λ _. declaration_of k h.content.number h.content.bytes)) (sym t.same ∙ ap to_taken f)

      pub body-got : (b b₂ : List ℕ) (o l n : ℕ) → o ≡ front_length k → o ≤ length b → x ≡ Ok n → b₂ ≡ put 0 (front_of k (o + w.len) w.number) (put_mid o l b b₁)
          → Whole b₂ (body_of k s at) (read_to n (o + w.len))
      unfolding on_ans to_read bytes_of declaration_of front_of h parts_bytes
      body-got b b₂ o l n z m f g =
          let c : Content = h.content in
          let u : List ℕ = number_of k c.number ++ c.bytes in
          let same : body_of k s at ≡ got (declaration_of k c.number c.bytes) n = body-by ∙ ap (on_ans (λ _. declaration_of k c.number c.bytes)) (sym t.same ∙ ap to_taken f) in
          let q : o + w.len ≡ 6 + length u = omega (arith, z, h.size, length-append (number_of k c.number) c.bytes, length-number k c.number) in
          let hd : head (o + w.len) (code_of k) ++ u ≡ declaration_of k c.number c.bytes = headed (code_of k) (o + w.len) u q in
          let j : length (declaration_of k c.number c.bytes) ≡ o + w.len = ap length (sym hd) ∙ omega (arith, length-append (head (o + w.len) (code_of k)) u, length-head (o + w.len) (code_of k), q) in
          let a : Begins b₁ c.bytes = rw h.same at i.wrote in
          let d : Begins b₂ (front_of k (o + w.len) w.number ++ c.bytes)
          = begins-under (front_of k (o + w.len) w.number) c.bytes (put_mid o l b b₁) b₂ o (begins-mid c.bytes b b₁ o l a m) (z ∙ sym (length_front k (o + w.len) w.number)) g in
          let x : front_of k (o + w.len) w.number ++ c.bytes ≡ declaration_of k c.number c.bytes
          = ap (λ (y : ℕ). front_of k (o + w.len) y ++ c.bytes) h.number ∙ append_assoc (head (o + w.len) (code_of k)) (number_of k c.number) c.bytes ∙ hd in
          record { same = rw same (ap (read_to n) (sym j)); wrote = rw same (subst (Begins b₂) x d) }

-- a whole text
module _ (s : List ℕ) (k : Keyword) (x : Result ℕ Refused) (t : Took s 5 (keyword (keyword_text k) s 0) x) where
  pub unopened : (y : Refused) → x ≡ Err y → on_ans (encode 4) (exec (parser_of k) s) ≡ failed (Bad y)
  unfolding failed then
  unopened y e = exec-is s k ∙ ap (λ (a : Ans (Unit {0})). then a (λ _ n. body_of k s n)) (sym t.same ∙ ap to_taken e)

  module _ (n : ℕ) (e : x ≡ Ok n) where
    pub keyword-within : (5 ≤ n) × (n ≤ length s)
    keyword-within = rw e at t.within

    pub exec-body : (b : List ℕ) (r : Read) → Whole b (body_of k s n) r → Whole b (on_ans (encode 4) (exec (parser_of k) s)) r
    unfolding then
    exec-body b r w = rw (exec-is s k ∙ ap (λ (a : Ans (Unit {0})). then a (λ _ m. body_of k s m)) (sym t.same ∙ ap to_taken e)) w

pub room_behind : (s : List ℕ) (n : ℕ) (b : List ℕ) → Room 0 32 s 0 b → (5 ≤ n) × (n ≤ length s) → Room 0 36 s n b
room_behind s n b h p = record { inside = p.1; small = h.small; room = omega (arith, h.room, p); short = h.short }

pub ruleset wholes = (name-ident, name-none, outputs-returns, outputs-none, parts-got)
