-- Lists in brackets, the outputs and the end.
-- Assumes nothing.
use Rattle.std.proofs.Common.{◌≡◌, refl, sym, ◌∙◌, ap, subst, ℕ, ◌+◌, ◌*◌, ◌-◌, ◌≤◌, ◌<◌, Bool, true, false, List, [], length, take, drop, length-append, length-drop, append-nil, arith, eqb}
use borrow.Author.Tests.{ne_eqb}
use Rattle.std.proofs.lemmas.Option.{none-some}
use Rattle.std.proofs.lemmas.Bool.{false≢true}
use Rattle.std.specs.Option.{is_some}
use Rattle.fields.proofs.Begins.{begins-put, begins-mid, begins-under}
use Rattle.fields.proofs.Spots.{behind-inside, taken-inside}
use Rattle.model.specs.Answer.{refusal_at}
use Rattle.std.proofs.lemmas.List.{take_rest}
use Rattle.std.specs.Prelude.{Option, None, Some, Result, Ok, Err}
use Rattle.std.specs.Result.{IsErrAnd}
use borrow.Rule.Slice.PartMut.{put_mid}
use Rattle.kinds.specs.Bytes.{ascii, same, lparen}
use Rattle.model.specs.declared.Refusal.TheVariants.{ExpectOpen, ExpectEnd}
use Rattle.model.specs.declared.Refused.{Refused}
use Rattle.model.specs.declared.Sort.{Sort}
use Rattle.model.specs.declared.Sort.TheVariants.{Parameter}
use Rattle.model.specs.Text.{skip, peek}
use Rattle.model.specs.Tree.{Fields}
use Rattle.model.specs.Parser.{Ans, got, bad, Found, found, missing, on_ans, then, or_else, take_char, at_end, end}
use Rattle.model.specs.Reading.{list, field_by, tuple_kind, deepest, fields, returns}
use Rattle.model.specs.Layout.{record_of}
use Rattle.model.specs.Record.{encode_fields, encode_list}
use Rattle.layout.specs.Buffer.{put, head}
use Rattle.layout.proofs.Puts.{length-head, headed}
use Rattle.fields.specs.declared.Failed.{Failed}
use Rattle.fields.specs.declared.Failed.TheVariants.{Bad}
use Rattle.fields.specs.declared.Got.{Got}
use Rattle.fields.specs.declared.Seen.{Seen}
use Rattle.text.specs.Found.{byte_or_end}
use Rattle.fields.specs.Words.{WordIs, Looked, BehindIs, to_place, TakenIs, to_taken}
use Rattle.fields.specs.Scratch.{Read, read_to, failed, to_read, bytes_of, Begins, Room, Put, list_of}
use Rattle.fields.proofs.Family.{is-got, is-failed, of-got, of-failed, then-failed, on-failed, read-failed, bytes-failed}
use Rattle.parser.specs.Stages.{Paid, Did, Took, list_in, returns_of}
use Rattle.parser.proofs.Wording.{word-found, word-missing}

-- a stage that fails: nothing is told of what it leaves
pub did-failed : (x : ℕ) (s : List ℕ) (at : ℕ) (b : List ℕ) (a : Ans (List ℕ)) (f : Failed) → a ≡ failed f → Did x s at b a (Err f)
did-failed x s at b a f e = rw e (record { same = sym (read-failed f); within = tt; wrote = rw bytes-failed refl })

-- the same where a `?` hands a failure on
pub did-exit : (x : ℕ) (s : List ℕ) (at : ℕ) (b : List ℕ) (a : Ans (List ℕ)) (f : Failed) (r : Read) → IsErrAnd r (λ y. y ≡ f) → a ≡ failed f → Did x s at b a r
did-exit x s at b a f (Ok g) h e = absurd h
did-exit x s at b a f (Err y) h e = rw h (did-failed x s at b a f e)

-- room in a part that is lent from m on, where what was read so far is paid for
pub room_part : (d e m : ℕ) (s : List ℕ) (at from : ℕ) (b : List ℕ) → Room 0 d s at b → at ≤ from → from ≤ length s → m + 10 * e + 10 * at ≤ 10 * d + 10 * from → Room 0 e s from (take (length b - m) (drop m b))
room_part d e m s at from b h i j p = rw (take_rest b m) (record {
  inside = j;
  small = h.small;
  room = omega (arith, length-drop m b, h.room);
  short = omega (arith, length-drop m b, h.short);
})

-- a list from its `(`
module _ (s : List ℕ) (at : ℕ) (sort : Sort) (v : Seen) (o : Result ℕ Refused) (l : Looked s at v) (t : TakenIs v 40 ExpectOpen o) where
  pub list-unopened : (r : Refused) → o ≡ Err r → list_in sort s at ≡ failed (Bad r)
  unfolding list_in fields failed
  list-unopened r e =
      let x : take_char lparen ExpectOpen s at ≡ failed (Bad r) = sym (t.same s at l) ∙ ap to_taken e in
      rw (list_in, fields, x) (rw then-failed (on-failed (encode_list 4) (Bad r)))

  module _ (from : ℕ) (e : o ≡ Ok from) where
    pub list-from : (at < from) × (from ≤ length s)
    list-from = taken-inside s at v l 40 from (omega arith) ExpectOpen (rw e at t)

    opened : Ans Fields
    opened = list (field_by sort (tuple_kind deepest)) s from

    list-opened : fields sort s at ≡ opened
    unfolding fields opened then
    list-opened = let x : take_char lparen ExpectOpen s at ≡ got tt from = sym (t.same s at l) ∙ ap to_taken e in rw x

    module _ (b₁ : List ℕ) (r : Read) (i : Put 10 s from b₁ (list_of sort 32 s from) r) where
      pub list-failed : (f : Failed) → r ≡ Err f → list_in sort s at ≡ failed f
      unfolding list_in opened
      list-failed f g =
          let x : opened ≡ failed f = of-failed (encode_fields 4) opened f (is-failed (list_of sort 32 s from) f (sym g ∙ i.same)) in
          rw (list_in, list-opened, x) (on-failed (encode_list 4) f)

      pub list-got : (b b₂ : List ℕ) (k : ℕ) (g : Got) → 6 ≤ length b → r ≡ Ok g → b₂ ≡ put 0 (head (6 + g.len) 18) (put_mid 6 k b b₁) → Did 0 s at b₂ (list_in sort s at) (read_to g.next (6 + g.len))
      unfolding list_in on_ans to_read bytes_of encode_list opened
      list-got b b₂ k g m q x =
          let y = is-got (list_of sort 32 s from) g (sym q ∙ i.same) in
          let a = of-got (encode_fields 4) opened (bytes_of (list_of sort 32 s from)) g.next y.0 in
          let u : List ℕ = encode_fields 4 a.what in
          let h : List ℕ = head (6 + g.len) 18 in
          let z : 6 + g.len ≡ 6 + length u = omega (arith, y.1, ap length a.bytes) in
          let w : Begins b₁ u = subst (Begins b₁) (sym a.bytes) i.wrote in
          let c : length (record_of 4 18 u) ≡ 6 + g.len = ap length (sym (headed 18 (6 + g.len) u z)) ∙ omega (arith, length-append h u, length-head (6 + g.len) 18, z) in
          let p : (from < g.next) × (g.next ≤ length s) × (g.len + 10 + 10 * from ≤ 10 * g.next) = rw q at i.within in
          rw (list_in, list-opened, a.same) (record {
            same = ap (read_to g.next) (sym c);
            within = omega (arith, p, list-from);
            wrote = subst (Begins b₂) (headed 18 (6 + g.len) u z) (begins-under h u (put_mid 6 k b b₁) b₂ 6 (begins-mid u b b₁ 6 k w m) (sym (length-head (6 + g.len) 18)) x);
          })

-- outputs
module _ (s : List ℕ) (at n : ℕ) (w : List ℕ) (r : Bool) (i : WordIs s at w n) (q : r ≡ same (ascii "returns") w) where
  paid-later : (x : Read) → Paid 0 s n x → Paid 6 s at x
  paid-later (Ok g) h = omega (arith, i.low)
  paid-later (Err f) h = tt

  pub returns-list : (b : List ℕ) (x : Read) → r ≡ true → Did 0 s n b (list_in Parameter s n) x → Did 6 s at b (returns_of s at) x
  unfolding returns_of returns list_in
  returns-list b x f d = rw (returns, word-found s at n w i (ascii "returns") r q f (omega arith)) (record { same = d.same; within = paid-later x d.within; wrote = d.wrote })

  pub returns-none : (b b₁ : List ℕ) → r ≡ false → at ≤ length s → b₁ ≡ put 0 (head 6 18) b → Did 6 s at b₁ (returns_of s at) (read_to at 6)
  unfolding returns_of returns on_ans to_read bytes_of encode_list encode_fields
  returns-none b b₁ f h g =
      let x : head 6 18 ≡ record_of 4 18 [] = sym (append-nil (head 6 18)) ∙ headed 18 6 [] refl in
      rw (returns, word-missing s at n w i (ascii "returns") r q f) (record {
        same = ap (read_to at) (sym (length-head 6 18) ∙ ap length x);
        within = omega (arith, h);
        wrote = subst (Begins b₁) x (begins-put [] (head 6 18) b b₁ 0 refl refl g);
      })

-- the end, where u is what stands behind a `;`, or in the place of one
pub record Last (s : List ℕ) (at : ℕ) (u : Seen) : Type 0 where
  pub from : ℕ
  pub low : at ≤ from
  pub looked : Looked s from u
  pub same : end s at ≡ at_end (skip s from) s

module _ (s : List ℕ) (at : ℕ) (v : Seen) (l : Looked s at v) (o : Option ℕ) (b : BehindIs v 59 o) where
  end-by : (f : Found (Unit {0})) → to_place o ≡ f → end s at ≡ then (or_else tt at f) (λ _ n. at_end (skip s n) s)
  unfolding end
  end-by f e = ap (λ (g : Found (Unit {0})). then (or_else tt at g) (λ _ n. at_end (skip s n) s)) (sym (b.same s at l) ∙ e)

  module _ (n : ℕ) (e : o ≡ Some n) where
    pub end-from : (at < n) × (n ≤ length s)
    end-from = behind-inside s at v l 59 n (omega arith) (rw e at b)

    pub last-behind : (u x : Seen) → Looked s n u → x ≡ u → Last s at x
    unfolding then
    last-behind u x k f = rw f (record { from = n; low = omega (arith, end-from); looked = k; same = end-by (found tt n) (ap to_place e) })

  pub last-here : (x : Seen) → o ≡ None → x ≡ v → Last s at x
  unfolding then
  last-here x e f = rw f (record { from = at; low = omega arith; looked = l; same = end-by missing (ap to_place e) })

module _ (s : List ℕ) (at : ℕ) (u : Seen) (k : Last s at u) (x : Bool) (q : x ≡ is_some u.byte) where
  pub end-here : x ≡ false → Took s at (end s at) (Ok u.at)
  unfolding byte_or_end
  end-here e =
      let f : byte_or_end u.byte ≡ 256 = go u.byte (sym q ∙ e) in
      let g : peek s (skip s k.from) ≡ 256 = ap (peek s) (sym k.looked.place) ∙ sym k.looked.byte ∙ f in
      record { same = sym (k.same ∙ rw (at_end, g) (ap (got tt) (sym k.looked.place))); within = omega (arith, k.low, k.looked.low, k.looked.inside) }
    where
      go : (o : Option ℕ) → is_some o ≡ false → byte_or_end o ≡ 256
      go None f = refl
      go (Some c) f = absurd (false≢true (sym f))

  pub end-more : x ≡ true → Took s at (end s at) (Err (refusal_at ExpectEnd u.at))
  end-more e =
      let g : eqb (peek s (skip s k.from)) 256 ≡ false
      = ne_eqb _ 256 (λ z. go u.byte (sym q ∙ e) (k.looked.none (k.looked.byte ∙ ap (peek s) k.looked.place ∙ z))) in
      record { same = sym (k.same ∙ rw (at_end, g) (ap (bad ExpectEnd) (sym k.looked.place))); within = tt }
    where
      go : (o : Option ℕ) → is_some o ≡ true → o ≡ None → ⊥
      go None f g = false≢true f
      go (Some c) f g = none-some c (sym g)

pub ruleset listing = (did-exit, room_part, list-unopened, list-from, list-failed, list-got, returns-list, returns-none)
