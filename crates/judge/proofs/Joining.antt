-- Tuples, one member after the other.
-- Assumes nothing.
use mathlib.Core.Path.{◌≡◌, refl, sym, ◌∙◌, ap, subst}
use mathlib.Core.Bool.{Bool, true, false, not, ◌&&◌, and-eq-true_iff}
use mathlib.Core.List.{List, [], ◌∷◌}
use Rattle.std.specs.Prelude.{Option, None, Some}
use Rattle.std.specs.Borrow.{Bor}
use Rattle.std.proofs.Common.{Fits, w8}
use Rattle.std.proofs.lemmas.Option.{same_Some}
use Prim.Native.Nat.{ℕ, suc, ◌+◌, ◌≤◌, ◌<◌}
use native.Mathlib.Omega.{arith}
use lib.Dec.{leb, eqb}
use lib.ListN.{length, drop, get_or}
use borrow.Author.Tests.{leb-true, le-leb, lt-leb, lt-ltb, eq-eqb}
use Rattle.kinds.specs.Bytes.{all, same}
use Rattle.kinds.specs.Kind.{Kind, Kinds}
use Rattle.kinds.proofs.Logic.{both}
use Rattle.model.specs.Tree.{Fields, kinds_of}
use Rattle.model.specs.Reading.{FieldKind}
use Rattle.record.specs.declared.Piece.{Piece}
use Rattle.record.specs.Parts.{PieceIs, Headed}
use Rattle.record.specs.Encoded.{FieldsAre, KindIs, SomeFields}
use Rattle.record.proofs.Standing.{fields-headed}
use Rattle.encoding.specs.Dynamic.{is_dynamic, heads_length}
use Rattle.encoding.specs.Words.{is_byte, word}
use Rattle.encoding.specs.Judge.{given, repeated, Slot, slot, word_at, has_word, follow, group, end_of, slots, ends_at, is_encoding}
use Rattle.encoding.proofs.Runs.{static-end}
use Rattle.extent.specs.declared.Extent.{Extent}
use Rattle.extent.specs.Walks.{tree_of}
use Rattle.extent.specs.Extents.{ExtentOf, ExtentsOf}
use Rattle.extent.proofs.Reaches.{some, none, no_fields, Ahead, ahead-named, ahead, ahead-less}
use Rattle.static_kinds.specs.Places.{Place, SomeStatic, ManyEnd}
use Rattle.judge.specs.declared.Open.{Open}
use Rattle.judge.specs.Fits.{fits, Data, SomeDynamic, FitsKind, FitsFields, Encoded}
use Rattle.judge.specs.Steps.{HeadSays, OpenIs, open_length, ended, OpenAt, Closes, tuple_left, member_slot, MemberStep, MemberAt}
use Rattle.judge.proofs.Parts.{part, part_data, kind-valid, end-inside, part_fits, dynamic-as}
use Rattle.judge.proofs.Saying.{judged, goes_on, given-same, when-ends}

-- A member that is open.

-- where it ends is inside
ended-inside : (d : List ℕ) (t : Option (Bor (List ℕ))) (m : Option Kind) → OpenIs t m → Data d → (at e : ℕ) → at ≤ length d → ended d m at ≡ Some e
    → (at ≤ e) × (e ≤ length d)
ended-inside d None m x q at e h f = let z : at ≡ e = same_Some at e (rw x at f) in omega arith
ended-inside d (Some t) m (k, i, x) q at e h f = end-inside (tree_of k) (kind-valid _ k i.is) d q at e h (rw x at f)

module _ (d : List ℕ) (o : Open) (end : ℕ) (a : OpenAt d o) (q : Data d) (h : o.tail ≤ end) (l : end ≤ length d) where
  pub closes-none : o.kind ≡ None → Closes d o end (eqb o.tail end)
  closes-none e m x = let z : m ≡ None = subst (λ t. OpenIs t m) e x in rw z

  module _ (t : Bor (List ℕ)) (e : o.kind ≡ Some t) where
    begun : (m : Option Kind) → OpenIs o.kind m → OpenIs (Some t) m
    begun m x = subst (λ t. OpenIs t m) e x

    pub closes-asks : SomeDynamic t.now
    closes-asks = let (m, x) = a.some in let (k, i, z) = begun m x in (k, i)

    pub closes_data : Data (part d o.tail end)
    closes_data = part_data d o.tail end h l q

    pub closes-member : (r : Bool) → FitsKind t.now (part d o.tail end) r → Closes d o end r
    closes-member r y m x =
        let (k, i, z) = begun m x in
        y k i ∙ sym (part_fits (tree_of k) (kind-valid _ k i.is) d q o.tail end h l) ∙ ap (λ m. ends_at end (ended d m o.tail)) (sym z)

pub ruleset closing = (closes-none, closes-asks, closes_data, closes-member)

-- One member more.

module _ (t : Bor (List ℕ)) (d : List ℕ) (o : Open) (w : MemberAt t.now d o) (e : Extent) (x : ExtentOf t.now e) where
  -- a dynamic one
  module _ (v : not e.dynamic ≡ false) where
    goes : FieldKind → List Slot → ℕ → Option ℕ
    goes k ss c = given (end_of d (tree_of k) c) (λ a. follow d ss 0 (o.head + 32) a)

    opened : (r : Option ℕ) → HeadSays d o.tail o.head r → (k : FieldKind) (m : Option Kind) → KindIs t.now k → OpenIs o.kind m → (ss : List Slot)
        → tuple_left d m o (member_slot d k ∷ ss) ≡ judged r (ended d m o.tail) (λ c. ends_at (length d) (goes k ss c))
    unfolding follow goes
    opened r y k m i z ss =
        ap (λ b. tuple_left d m o (slot b (λ a. end_of d (tree_of k) a) ∷ ss)) (dynamic-as t.now e x false v k i)
        ∙ goes_on d o.tail o.head (goes k ss) r (ended d m o.tail) y (λ c f. ended-inside d o.kind m z w.ready o.tail c w.before.tail f)

    pub member_open : HeadSays d o.tail o.head None → MemberStep t.now d o None
    member_open y k m i z ss = opened None y k m i z ss

    module _ (c : ℕ) (y : HeadSays d o.tail o.head (Some c)) (r : Bool) (g : Closes d o c r) where
      closed : (k : FieldKind) (m : Option Kind) → KindIs t.now k → OpenIs o.kind m → (ss : List Slot)
          → tuple_left d m o (member_slot d k ∷ ss) ≡ (r && ends_at (length d) (goes k ss c))
      closed k m i z ss = opened (Some c) y k m i z ss ∙ ap (λ b. b && ends_at (length d) (goes k ss c)) (sym (g m z))

      pub member-bad : r ≡ false → MemberStep t.now d o None
      member-bad f k m i z ss = closed k m i z ss ∙ ap (λ b. b && ends_at (length d) (goes k ss c)) f

      head-here : o.head + 32 ≤ length d
      head-here = leb-true (o.head + 32) (length d) ((and-eq-true_iff (has_word d o.head) (same (word_at d o.head) (word c))).0 (y.2 c y.1 ∙ eq-eqb c c refl)).0

      pub member-next : r ≡ true → MemberStep t.now d o (Some (record { head = o.head + 32; tail = c; kind = Some t }))
      unfolding goes
      member-next f =
          let is : (k : FieldKind) → KindIs t.now k → OpenIs (Some t) (Some (tree_of k))
          = λ k i. (k, record { is = i; dynamic = dynamic-as t.now e x false v k i }, refl) in
          record {
            place = record { some = (Some (tree_of w.some.0), is w.some.0 w.some.1); head = head-here; tail = y.1 };
            small = λ n a b. a;
            all = λ k m i z.
                record { begun = Some (tree_of k); is = is k i; same = λ ss. closed k m i z ss ∙ ap (λ b. b && ends_at (length d) (goes k ss c)) f };
          }

  -- a static one
  module _ (v : not e.dynamic ≡ true) where
    static : (k : FieldKind) → KindIs t.now k → is_dynamic (tree_of k) ≡ false
    static = dynamic-as t.now e x true v

    pub static-asks : SomeStatic t.now × Place d o.head
    static-asks = ((w.some.0, record { is = w.some.1; static = static w.some.0 w.some.1 }), record { inside = w.before.head; small = w.ready.small })

    module _ (r : Option ℕ) (y : ManyEnd t.now d o.head 1 r) where
      answer : (k : FieldKind) → KindIs t.now k → end_of d (tree_of k) o.head ≡ r
      unfolding repeated
      answer k i = sym (y k (record { is = i; static = static k i }) ∙ given-same (end_of d (tree_of k) o.head))

      stands : Option Kind → List Slot → Option ℕ → Bool
      stands m ss u = ends_at (length d) (given (ended d m o.tail) (λ a. given u (λ h. follow d ss 0 h a)))

      stood : (u : Option ℕ) → r ≡ u → (k : FieldKind) (m : Option Kind) → KindIs t.now k → (ss : List Slot)
          → tuple_left d m o (member_slot d k ∷ ss) ≡ stands m ss u
      unfolding follow stands
      stood u f k m i ss = ap (λ b. tuple_left d m o (slot b (λ a. end_of d (tree_of k) a) ∷ ss)) (static k i) ∙ ap (stands m ss) (answer k i ∙ f)

      nowhere : (u : Option ℕ) → ends_at (length d) (given u (λ a. None)) ≡ false
      nowhere None = refl
      nowhere (Some a) = refl

      pub static-bad : r ≡ None → MemberStep t.now d o None
      unfolding stands
      static-bad f k m i z ss = stood None f k m i ss ∙ nowhere (ended d m o.tail)

      pub static-next : (c : ℕ) → r ≡ Some c → MemberStep t.now d o (Some (record { head = c; tail = o.tail; kind = o.kind }))
      unfolding stands
      static-next c f =
          let (k, i) = w.some in
          record {
            place = record { some = w.before.some; head = (static-end d (tree_of k) (static k i) o.head c (answer k i ∙ f)).1; tail = w.before.tail };
            small = λ n a b. b;
            all = λ k m i z. record { begun = m; is = z; same = λ ss. stood (Some c) f k m i ss };
          }

pub ruleset joins = (member_open, member-bad, member-next, static-asks, static-bad, static-next)

-- All members.

-- their heads take n bytes
heads-fit : Kinds → List ℕ → ℕ → Bool
heads-fit ks d n = leb n (length d) && ends_at (length d) (follow d (slots d ks) 0 0 n)

tuple-fits : (ks : Kinds) (d : List ℕ) → fits (Kind.tuple ks) d ≡ heads-fit ks d (0 + heads_length ks)
unfolding fits end_of group heads-fit
tuple-fits ks d = when-ends (length d) (leb (0 + heads_length ks) (length d)) (follow d (slots d ks) 0 0 (0 + heads_length ks))

-- the members behind a place of the records b are still to be judged
pub record Judging (b d rest : List ℕ) (o : Open) : Type 0 where
  pub bound : length rest ≤ length b
  pub small : open_length o.kind ≤ length b
  pub ready : Data d
  pub place : OpenAt d o
  pub ask : SomeFields rest
  all : (fs : Fields) → FieldsAre b fs
      → (gs : Fields) × (m : Option Kind) × FieldsAre rest gs × OpenIs o.kind m × (fits (Kind.tuple (kinds_of fs)) d ≡ tuple_left d m o (slots d (kinds_of gs)))

module _ (b d : List ℕ) (e : Extent) (x : ExtentsOf b e) (q : Data d) where
  pub tuple-short : length d < e.head → FitsFields b d false
  unfolding heads-fit
  tuple-short h fs i =
      let n = 0 + heads_length (kinds_of fs) in
      let over = lt-leb n (length d) (omega (arith, (x.all fs i).head)) in
      sym (tuple-fits (kinds_of fs) d ∙ ap (λ t. t && ends_at (length d) (follow d (slots d (kinds_of fs)) 0 0 n)) over)

  pub judge_start : SomeFields b → e.head ≤ length d → Judging b d b (record { head = 0; tail = e.head; kind = None })
  unfolding heads-fit
  judge_start s h = record {
    bound = omega arith;
    small = omega arith;
    ready = q;
    place = record { some = (None, refl); head = omega arith; tail = h };
    ask = s;
    all = λ fs i.
        let z : 0 + heads_length (kinds_of fs) ≡ e.head = omega (arith, (x.all fs i).head, q.small) in
        let room = le-leb e.head (length d) h in
        let F : Bool → Bool = λ t. t && ends_at (length d) (follow d (slots d (kinds_of fs)) 0 0 e.head) in
        (fs, None, i, refl, tuple-fits (kinds_of fs) d ∙ ap (heads-fit (kinds_of fs) d) z ∙ ap F room);
  }

module _ {b d rest : List ℕ} {o : Open} (w : Judging b d rest o) where
  pub judge_end : true ≡ eqb (length rest) 0 → (r : Bool) → Closes d o (length d) r → FitsFields b d r
  unfolding follow slots
  judge_end h r y fs a =
      let (gs, m, j, u, f) = w.all fs a in
      y m u ∙ sym (f ∙ ap (λ ks. tuple_left d m o (slots d ks)) (no_fields rest gs j (none rest h)) ∙ ap (ends_at (length d)) (given-same (ended d m o.tail)))

  module _ (h : false ≡ eqb (length rest) 0) where
    pub judge-headed : Headed rest
    judge-headed = fields-headed rest w.ask (some rest h)

    module _ {p : Piece} (j : PieceIs rest (Some p)) where
      pub judge-named : (2 ≤ length p.body.now) × Headed (drop 2 p.body.now)
      judge-named = ahead-named rest (some rest h) p j w.ask

      module _ {n : Piece} (g : PieceIs (drop 2 p.body.now) (Some n)) where
        first : (gs : Fields) → FieldsAre rest gs → Ahead p n gs
        first = ahead rest (some rest h) p j n g

        pub judge_asks : MemberAt n.rest.now d o
        judge_asks = let x = first w.ask.0 w.ask.1 in record { some = (x.kind, x.is); ready = w.ready; before = w.place }

        here : (fs : Fields) → FieldsAre b fs → (gs : Fields) × (m : Option Kind) × (i : FieldsAre rest gs) × OpenIs o.kind m
            × (fits (Kind.tuple (kinds_of fs)) d ≡ tuple_left d m o (member_slot d (first gs i).kind ∷ slots d (kinds_of (first gs i).fields)))
        unfolding slots
        here fs a = let (gs, m, i, u, f) = w.all fs a in (gs, m, i, u, f ∙ ap (λ ks. tuple_left d m o (slots d ks)) (first gs i).kinds)

        pub judge_stop : MemberStep n.rest.now d o None → FitsFields b d false
        judge_stop y fs a = let (gs, m, i, u, f) = here fs a in let x = first gs i in sym (f ∙ y x.kind m x.is u (slots d (kinds_of x.fields)))

        pub judge_next : {q : Open} → MemberStep n.rest.now d o (Some q) → Judging b d p.rest.now q
        judge_next y = record {
          bound = omega (arith, j.covers, w.bound);
          small = y.small (length b) (omega (arith, ahead-less rest (some rest h) p j n g, w.bound)) w.small;
          ready = w.ready;
          place = y.place;
          ask = let x = first w.ask.0 w.ask.1 in (x.fields, x.rest);
          all = λ fs a.
              let (gs, m, i, u, f) = here fs a in
              let x = first gs i in
              let v = y.all x.kind m x.is u in
              (x.fields, v.begun, x.rest, v.is, f ∙ v.same (slots d (kinds_of x.fields)));
        }

pub ruleset tuples = (tuple-short, judge_start, judge_end, judge-headed, judge-named, judge_asks, judge_stop, judge_next)

-- The values of a call.

-- a slice is of bytes
all-bytes : (s : List ℕ) → ((i : ℕ) → Fits w8 (get_or s i 0)) → all is_byte s ≡ true
all-bytes [] f = refl
all-bytes (c ∷ s) f = let byte = f 0 in both (lt-ltb c 256 (omega arith)) (all-bytes s (λ i. f (suc i)))

pub call-data : {d : List ℕ} → ((i : ℕ) → Fits w8 (get_or d i 0)) → length d ≤ 65536 → Data d
call-data {d} f h = record { small = h; bytes = all-bytes d f }

pub all_encoded : (b d : List ℕ) (r : Bool) → FitsFields b d r → Encoded b d r
unfolding fits is_encoding
all_encoded b d r y fs i = y fs i

pub ruleset call = (call-data, all_encoded)
