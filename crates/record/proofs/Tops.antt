-- Lists and declarations, and a field by itself, by how the check of each ends.
-- Assumes nothing.
use mathlib.Core.Path.{◌≡◌, refl, sym, ◌∙◌, ap}
use mathlib.Core.Bool.{Bool, true, false}
use mathlib.Core.List.{List, [], ◌∷◌}
use Rattle.std.specs.Prelude.{Option, None, Some}
use Rattle.std.proofs.lemmas.Option.{none-some, same_Some}
use Prim.Native.Nat.{ℕ, ◌+◌, ◌*◌, ◌≤◌, ◌<◌}
use native.Mathlib.Omega.{arith}
use lib.Dec.{leb, eqb}
use lib.ListN.{length, length-drop}
use borrow.Author.Tests.{le-leb, lt-leb, ne_eqb}
use Rattle.kinds.specs.Bytes.{between, is_word}
use Rattle.kinds.specs.Kind.{Kind, kind_text}
use Rattle.model.specs.declared.Sort.{Sort}
use Rattle.model.specs.declared.Sort.TheVariants.{Plain, Parameter, Event}
use Rattle.model.specs.Tree.{Field, Fields, kinds_of, Declaration}
use Rattle.model.specs.Layout.{Piece as Taken, piece, no_piece, piece_of}
use Rattle.model.specs.Record.{given, on_option, when, ended, on_piece, of_kind, fronted, decode_field, decode_fields, list_from, name_from, function_from, constructor_from, event_from, error_from, longest_record}
use Rattle.record.specs.declared.Piece.{Piece}
use Rattle.record.specs.declared.Fronted.{Fronted}
use Rattle.record.specs.declared.Listed.{Listed}
use Rattle.record.specs.declared.Checked.{Checked}
use Rattle.record.specs.Parts.{taken, PieceIs, FrontedIs}
use Rattle.record.specs.Says.{Says, FunctionSaid, ConstructorSaid, EventSaid, ErrorSaid, NameIs, ListIs, ListPlaced}
use Rattle.record.specs.Texts.{size, fields_from, tuple_text_from}
use Rattle.record.proofs.Places.{piece-stands, rest-stands}

-- a list
pub fields-decode : (sort : Sort) (body : List ℕ) → fields_from sort 32 body ≡ decode_fields 4 sort body
unfolding fields_from decode_fields decode_field
fields-decode sort body = refl

module _ (sort : Sort) (b : List ℕ) where
  pub list-none : (r : Option Listed) → r ≡ None → PieceIs b None → ListIs sort b r
  unfolding taken
  list-none r e p = rw e (λ f. rw (← p.same))

  module _ (n : Piece) (p : PieceIs b (Some n)) where
    there : (f : Fields → List ℕ → Option Declaration) → list_from 4 sort b f ≡ of_kind 0x12 (piece n.kind n.body.now n.rest.now) (λ body r. given (decode_fields 4 sort body) (λ fs. f fs r))
    unfolding taken
    there f = rw (← p.same)

    pub list-other : (n.kind ≡ 0x12 → ⊥) → ListIs sort b None
    list-other y f = there f ∙ rw (on_piece, ne_eqb n.kind 0x12 y)

    module _ (y : n.kind ≡ 0x12) where
      listed : (f : Fields → List ℕ → Option Declaration) → list_from 4 sort b f ≡ given (decode_fields 4 sort n.body.now) (λ fs. f fs n.rest.now)
      listed f = there f ∙ rw y

      pub list-bad : (r : Option Listed) → r ≡ None → None ≡ size (tuple_text_from sort 32 n.body.now) → ListIs sort b r
      unfolding tuple_text_from
      list-bad r e h = rw e (λ f. listed f ∙ go f (decode_fields 4 sort n.body.now) (rw fields-decode at h))
        where
          go : (f : Fields → List ℕ → Option Declaration) (o : Option Fields) → None ≡ size (on_option (λ fs. kind_text (Kind.tuple (kinds_of fs))) o) → given o (λ fs. f fs n.rest.now) ≡ None
          go f None q = refl
          go f (Some fs) q = absurd (none-some _ q)

      pub list-is : (l : Listed) → l.fields.bytes.now ≡ n.body.now → l.rest.now ≡ n.rest.now → Some l.fields.text ≡ size (tuple_text_from sort 32 n.body.now) → l.fields.text ≤ 2 * length n.body.now + 2 → ListIs sort b (Some l)
      unfolding tuple_text_from
      list-is l u v h m = go (decode_fields 4 sort n.body.now) refl (rw fields-decode at h)
        where
          go : (o : Option Fields) → decode_fields 4 sort n.body.now ≡ o → Some l.fields.text ≡ size (on_option (λ fs. kind_text (Kind.tuple (kinds_of fs))) o) → ListIs sort b (Some l)
          go None e q = absurd (none-some _ (sym q))
          go (Some fs) e q = record {
            fs = fs;
            goes = λ f. listed f ∙ rw (e, v);
            said = λ s. record { same = rw u e; long = same_Some _ _ q; small = rw u m; short = rw u (omega (arith, p.covers, s)) };
            less = rw v (omega (arith, p.covers));
          }

      pub list-placed : (l : Listed) → l.fields.bytes.now ≡ n.body.now → l.rest.now ≡ n.rest.now → Some l.fields.text ≡ size (tuple_text_from sort 32 n.body.now) → l.fields.text ≤ 2 * length n.body.now + 2 → ListPlaced sort b (Some l)
      list-placed l u v h m = (list-is l u v h m, rw u (piece-stands b n p), rw v (rest-stands b n p))

-- a number in front, and the end
module _ (b : List ℕ) (f : ℕ → List ℕ → Option Declaration) where
  fronted-none : FrontedIs b None → fronted b f ≡ None
  fronted-none h = rw (fronted, lt-leb 2 (length b) h)

  fronted-is : (t : Fronted) → FrontedIs b (Some t) → fronted b f ≡ f t.number t.rest.now
  fronted-is t h = rw (fronted, le-leb 2 (length b) h.0, h.1, h.2)

module _ {A : Type 0} where
  ended-none : (t : List ℕ) → ended {A = A} t None ≡ None
  ended-none [] = refl
  ended-none (c ∷ t) = refl

  ended-all : (t : List ℕ) (o : Option A) → length t ≡ 0 → ended t o ≡ o
  ended-all [] o h = refl
  ended-all (c ∷ t) o h = absurd (omega arith)

  ended-more : (t : List ℕ) (o : Option A) → (length t ≡ 0 → ⊥) → ended t o ≡ None
  ended-more [] o h = absurd (h refl)
  ended-more (c ∷ t) o h = refl

-- a name or a list behind which nothing follows
name_dead : (b : List ℕ) (f : List ℕ → List ℕ → Option Declaration) → ((nm r : List ℕ) → f nm r ≡ None) → name_from 4 b f ≡ None
name_dead b f h = go (piece_of 4 b)
  where
    word : (t : Bool) (nm r : List ℕ) → when t (f nm r) ≡ None
    word true nm r = h nm r
    word false nm r = refl

    kind : (t : Bool) (nm r : List ℕ) → ◌≡◌ {A = Option Declaration} (elim t as (λ _. Option Declaration) [ true ↦ when (is_word nm) (f nm r) | false ↦ None ]) None
    kind true nm r = word (is_word nm) nm r
    kind false nm r = refl

    go : (p : Taken) → of_kind 0x11 p (λ nm r. when (is_word nm) (f nm r)) ≡ None
    go no_piece = refl
    go (piece k nm r) = kind (eqb k 0x11) nm r

list_dead : (sort : Sort) (b : List ℕ) (f : Fields → List ℕ → Option Declaration) → ((fs : Fields) (r : List ℕ) → f fs r ≡ None) → list_from 4 sort b f ≡ None
list_dead sort b f h = go (piece_of 4 b)
  where
    fields : (o : Option Fields) (r : List ℕ) → given o (λ fs. f fs r) ≡ None
    fields None r = refl
    fields (Some fs) r = h fs r

    kind : (t : Bool) (body r : List ℕ) → ◌≡◌ {A = Option Declaration} (elim t as (λ _. Option Declaration) [ true ↦ given (decode_fields 4 sort body) (λ fs. f fs r) | false ↦ None ]) None
    kind true body r = fields (decode_fields 4 sort body) r
    kind false body r = refl

    go : (p : Taken) → of_kind 0x12 p (λ body r. given (decode_fields 4 sort body) (λ fs. f fs r)) ≡ None
    go no_piece = refl
    go (piece k body r) = kind (eqb k 0x12) body r

-- nothing is said
nothing : (o : Option Declaration) (r : Option Checked) → r ≡ None → o ≡ None → Says o None r
nothing o r e h = rw e (h, refl)

-- a function
abbrev function_end : ℕ → List ℕ → Fields → Fields → List ℕ → Option Declaration
function_end m nm ins outs r = ended r (when (leb m 3) (Some (Declaration.function m nm ins outs)))

abbrev function_out : ℕ → List ℕ → Fields → List ℕ → Option Declaration
function_out m nm ins r = list_from 4 Parameter r (function_end m nm ins)

abbrev function_in : ℕ → List ℕ → List ℕ → Option Declaration
function_in m nm r = list_from 4 Parameter r (function_out m nm)

module _ (b : List ℕ) where
  pub function-short : (r : Option Checked) → r ≡ None → FrontedIs b None → Says (function_from 4 b) None r
  function-short r e h = nothing (function_from 4 b) r e (fronted-none b (λ m r. name_from 4 r (function_in m)) h)

  module _ (t : Fronted) (h : FrontedIs b (Some t)) where
    function-front : function_from 4 b ≡ name_from 4 t.rest.now (function_in t.number)
    function-front = fronted-is b (λ m r. name_from 4 r (function_in m)) t h

    pub function-mutability : 3 < t.number → (function_from 4 b ≡ None) × (◌≡◌ {A = Option Field} None None)
    function-mutability z =
        let last : (nm : List ℕ) (ins outs : Fields) (r : List ℕ) → function_end t.number nm ins outs r ≡ None = λ nm ins outs r. rw (lt-leb t.number 3 z) (ended-none r) in
        (function-front ∙ name_dead t.rest.now _ (λ nm r. list_dead Parameter r _ (λ ins s. list_dead Parameter s _ (λ outs q. last nm ins outs q))), refl)

    pub function-unnamed : (r : Option Checked) → r ≡ None → NameIs t.rest.now None → Says (function_from 4 b) None r
    function-unnamed r e i = nothing _ r e (function-front ∙ i _)

    module _ (n : Piece) (i : NameIs t.rest.now (Some n)) where
      function-named : function_from 4 b ≡ function_in t.number n.body.now n.rest.now
      function-named = function-front ∙ i.0 _

      pub function_no_inputs : (r : Option Checked) → r ≡ None → ListIs Parameter n.rest.now None → Says (function_from 4 b) None r
      function_no_inputs r e j = nothing _ r e (function-named ∙ j _)

      module _ (l : Listed) (j : ListIs Parameter n.rest.now (Some l)) where
        function-inputs : function_from 4 b ≡ function_out t.number n.body.now j.fs l.rest.now
        function-inputs = function-named ∙ j.goes _

        pub function_no_outputs : (r : Option Checked) → r ≡ None → ListIs Parameter l.rest.now None → Says (function_from 4 b) None r
        function_no_outputs r e k = nothing _ r e (function-inputs ∙ k _)

        module _ (u : Listed) (k : ListIs Parameter l.rest.now (Some u)) where
          function-outputs : function_from 4 b ≡ function_end t.number n.body.now j.fs k.fs u.rest.now
          function-outputs = function-inputs ∙ k.goes _

          pub function-more : (length u.rest.now ≡ 0 → ⊥) → (function_from 4 b ≡ None) × (◌≡◌ {A = Option Field} None None)
          function-more z = (function-outputs ∙ ended-more u.rest.now _ z, refl)

          pub function-is : length b ≤ longest_record → t.number ≤ 3 → length u.rest.now ≡ 0 → FunctionSaid (function_from 4 b) n.body.now l.fields (Some u.fields)
          function-is s g z =
              let rest : length t.rest.now ≤ length b = omega (arith, ap length h.2, length-drop 2 b) in
              let name : 6 + length n.body.now + length n.rest.now ≡ length t.rest.now = i.1 in
              record {
                mutability = t.number;
                name = n.body.now;
                ins = j.fs;
                outs = k.fs;
                returned = u.fields;
                same = function-outputs ∙ ended-all u.rest.now _ z ∙ rw (le-leb t.number 3 g);
                named = record { same = refl; small = omega arith };
                inputs = j.said (omega arith);
                some = refl;
                outputs = k.said (omega (arith, j.less));
              }

-- a constructor
abbrev constructor_end : ℕ → Fields → List ℕ → Option Declaration
constructor_end m ins r = ended r (when (between 2 3 m) (Some (Declaration.constructor m ins)))

module _ (b : List ℕ) where
  pub constructor-short : (r : Option Checked) → r ≡ None → FrontedIs b None → Says (constructor_from 4 b) None r
  constructor-short r e h = nothing (constructor_from 4 b) r e (fronted-none b (λ m r. list_from 4 Parameter r (constructor_end m)) h)

  module _ (t : Fronted) (h : FrontedIs b (Some t)) where
    constructor-front : constructor_from 4 b ≡ list_from 4 Parameter t.rest.now (constructor_end t.number)
    constructor-front = fronted-is b (λ m r. list_from 4 Parameter r (constructor_end m)) t h

    constructor-not : between 2 3 t.number ≡ false → (constructor_from 4 b ≡ None) × (◌≡◌ {A = Option Field} None None)
    constructor-not z = (constructor-front ∙ list_dead Parameter t.rest.now _ (λ ins r. rw z (ended-none r)), refl)

    pub constructor-low : t.number < 2 → (constructor_from 4 b ≡ None) × (◌≡◌ {A = Option Field} None None)
    constructor-low z = constructor-not (rw (lt-leb 2 t.number z))

    pub constructor-high : 3 < t.number → (constructor_from 4 b ≡ None) × (◌≡◌ {A = Option Field} None None)
    constructor-high z = constructor-not (rw (le-leb 2 t.number (omega arith), lt-leb t.number 3 z))

    pub constructor_no_inputs : (r : Option Checked) → r ≡ None → ListIs Parameter t.rest.now None → Says (constructor_from 4 b) None r
    constructor_no_inputs r e j = nothing _ r e (constructor-front ∙ j _)

    module _ (l : Listed) (j : ListIs Parameter t.rest.now (Some l)) where
      constructor-inputs : constructor_from 4 b ≡ constructor_end t.number j.fs l.rest.now
      constructor-inputs = constructor-front ∙ j.goes _

      pub constructor-more : (length l.rest.now ≡ 0 → ⊥) → (constructor_from 4 b ≡ None) × (◌≡◌ {A = Option Field} None None)
      constructor-more z = (constructor-inputs ∙ ended-more l.rest.now _ z, refl)

      pub constructor-is : length b ≤ longest_record → 2 ≤ t.number → t.number ≤ 3 → length l.rest.now ≡ 0 → ConstructorSaid (constructor_from 4 b) l.fields
      constructor-is s g f z =
          let rest : length t.rest.now ≤ length b = omega (arith, ap length h.2, length-drop 2 b) in
          record { mutability = t.number; ins = j.fs; same = constructor-inputs ∙ ended-all l.rest.now _ z ∙ rw (le-leb 2 t.number g, le-leb t.number 3 f); inputs = j.said (omega arith) }

-- an event
abbrev event_end : ℕ → List ℕ → Fields → List ℕ → Option Declaration
event_end a nm ins r = ended r (when (leb a 1) (Some (Declaration.event a nm ins)))

abbrev event_in : ℕ → List ℕ → List ℕ → Option Declaration
event_in a nm r = list_from 4 Event r (event_end a nm)

module _ (b : List ℕ) where
  pub event-short : (r : Option Checked) → r ≡ None → FrontedIs b None → Says (event_from 4 b) None r
  event-short r e h = nothing (event_from 4 b) r e (fronted-none b (λ a r. name_from 4 r (event_in a)) h)

  module _ (t : Fronted) (h : FrontedIs b (Some t)) where
    event-front : event_from 4 b ≡ name_from 4 t.rest.now (event_in t.number)
    event-front = fronted-is b (λ a r. name_from 4 r (event_in a)) t h

    pub event-high : 1 < t.number → (event_from 4 b ≡ None) × (◌≡◌ {A = Option Field} None None)
    event-high z = (event-front ∙ name_dead t.rest.now _ (λ nm r. list_dead Event r _ (λ ins s. rw (lt-leb t.number 1 z) (ended-none s))), refl)

    pub event-unnamed : (r : Option Checked) → r ≡ None → NameIs t.rest.now None → Says (event_from 4 b) None r
    event-unnamed r e i = nothing _ r e (event-front ∙ i _)

    module _ (n : Piece) (i : NameIs t.rest.now (Some n)) where
      event-named : event_from 4 b ≡ event_in t.number n.body.now n.rest.now
      event-named = event-front ∙ i.0 _

      pub event_no_inputs : (r : Option Checked) → r ≡ None → ListIs Event n.rest.now None → Says (event_from 4 b) None r
      event_no_inputs r e j = nothing _ r e (event-named ∙ j _)

      module _ (l : Listed) (j : ListIs Event n.rest.now (Some l)) where
        event-inputs : event_from 4 b ≡ event_end t.number n.body.now j.fs l.rest.now
        event-inputs = event-named ∙ j.goes _

        pub event-more : (length l.rest.now ≡ 0 → ⊥) → (event_from 4 b ≡ None) × (◌≡◌ {A = Option Field} None None)
        event-more z = (event-inputs ∙ ended-more l.rest.now _ z, refl)

        pub event-is : length b ≤ longest_record → t.number ≤ 1 → length l.rest.now ≡ 0 → EventSaid (event_from 4 b) n.body.now l.fields None
        event-is s g z =
            let rest : length t.rest.now ≤ length b = omega (arith, ap length h.2, length-drop 2 b) in
            let name : 6 + length n.body.now + length n.rest.now ≡ length t.rest.now = i.1 in
            record {
              anonymous = t.number;
              name = n.body.now;
              ins = j.fs;
              same = event-inputs ∙ ended-all l.rest.now _ z ∙ rw (le-leb t.number 1 g);
              named = record { same = refl; small = omega arith };
              inputs = j.said (omega arith);
              none = refl;
            }

-- an error
abbrev error_in : List ℕ → List ℕ → Option Declaration
error_in nm r = list_from 4 Plain r (λ ins s. ended s (Some (Declaration.error nm ins)))

module _ (b : List ℕ) where
  pub error-unnamed : (r : Option Checked) → r ≡ None → NameIs b None → Says (error_from 4 b) None r
  error-unnamed r e i = nothing _ r e (i error_in)

  module _ (n : Piece) (i : NameIs b (Some n)) where
    error-named : error_from 4 b ≡ error_in n.body.now n.rest.now
    error-named = i.0 error_in

    pub error_no_inputs : (r : Option Checked) → r ≡ None → ListIs Plain n.rest.now None → Says (error_from 4 b) None r
    error_no_inputs r e j = nothing _ r e (error-named ∙ j _)

    module _ (l : Listed) (j : ListIs Plain n.rest.now (Some l)) where
      error-inputs : error_from 4 b ≡ ended l.rest.now (Some (Declaration.error n.body.now j.fs))
      error-inputs = error-named ∙ j.goes _

      pub error-more : (length l.rest.now ≡ 0 → ⊥) → (error_from 4 b ≡ None) × (◌≡◌ {A = Option Field} None None)
      error-more z = (error-inputs ∙ ended-more l.rest.now _ z, refl)

      pub error-is : length b ≤ longest_record → length l.rest.now ≡ 0 → ErrorSaid (error_from 4 b) n.body.now l.fields None
      error-is s z =
          let name : 6 + length n.body.now + length n.rest.now ≡ length b = i.1 in
          record {
            name = n.body.now;
            ins = j.fs;
            same = error-inputs ∙ ended-all l.rest.now _ z;
            named = record { same = refl; small = omega arith };
            inputs = j.said (omega arith);
            none = refl;
          }

pub ruleset tops =
    (function-short, function-unnamed, function_no_inputs, function_no_outputs, function-mutability, function-more, function-is, constructor-short, constructor_no_inputs, constructor-low, constructor-high, constructor-more, constructor-is, event-short, event-unnamed, event_no_inputs, event-high, event-more, event-is, error-unnamed, error_no_inputs, error-more, error-is)
