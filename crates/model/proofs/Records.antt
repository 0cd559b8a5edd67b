-- The decoder gives a tree exactly where that tree is well formed and the bytes are its encoding; so no two trees share an encoding.
-- Assumes nothing.
use mathlib.Core.Path.{◌≡◌, refl, sym, ◌∙◌, ap}
use mathlib.Core.Logic.{◌↔◌}
use mathlib.Core.Bool.{Bool, true, false, ◌&&◌, false≢true, and-eq-true_iff}
use mathlib.Core.List.{List, [], ◌∷◌, ◌++◌, append-nil}
use Rattle.std.specs.Prelude.{Option, None, Some}
use Rattle.std.proofs.lemmas.Option.{none-some, same_Some}
use Prim.Native.Nat.{ℕ, zero, suc, ◌^◌, ◌<◌}
use native.Mathlib.Omega.{arith}
use lib.Dec.{leb, eqb, lit<}
use lib.ListN.{length, take, drop, length-append}
use borrow.Author.Tests.{leb-true, le-leb, eqb-true}
use Rattle.kinds.specs.Bytes.{all, between, is_digit, is_word_byte, is_word}
use Rattle.kinds.specs.Kind.{bits, octets, is_bit_width, is_byte_length, is_elementary, Elementary, int, uint, fixed_bytes, address, bool, bytes, string, Suffix, sized, unsized}
use Rattle.kinds.proofs.Logic.{both, left, right, word-all, width-most, byte-length-most}
use Rattle.model.specs.declared.Sort.{Sort}
use Rattle.model.specs.declared.Sort.TheVariants.{Plain, Parameter, Event}
use Rattle.model.specs.Tree.{Base, elementary, tuple, Field, field, Fields, no_field, more_fields, Declaration}
use Rattle.model.specs.KindText.{longest}
use Rattle.model.specs.Reading.{can_specify_location, marks, deepest}
use Rattle.model.specs.Layout.{little_endian, le_value, record_of, Piece, piece, no_piece, piece_of, Bytes}
use Rattle.model.specs.Record.{encode_elementary, encode_suffix, encode_suffixes, encode_name, encode_base, encode_field, encode_fields, encode_list, encode, is_field_name, is_suffix, is_mark, is_base, is_field, are_fields, is_declaration, longest_record, well_formed, well_formed_field, on_option, when, ended, on_piece, case, elementary_cases, decode_elementary, suffix_cases, decode_suffix, base_from, each, decode_suffixes, field_from, tuple_from, decode_field, decode_fields, list_from, name_from, function_from, constructor_from, event_from, error_from, decode_declaration, whole, decode, decode_lone}
use Rattle.model.proofs.Marks.{either, mark-fits}
use Rattle.model.proofs.Pieces.{bytes_nil, bytes_cons, bytes_append, le_length, le_bytes, record_length, record_bytes}
use Rattle.model.proofs.Decoding.{Sound, Written, Reads, Spells, Part, when-some, given-some, on_some, ended_some, fronted-some, kind-some, number-to, fronted-to, kind-to, reads-part, Lists, each_spells, Sounds, select-sound, number-sound, bare-sound, alone-to, alone-exactly, alone_injective}

-- widths and byte lengths fit two bytes
width_fits : (n : ℕ) → is_bit_width n ≡ true → n < 256 ^ 2
width_fits n h = omega (arith, width-most n h)

byte-length-fits : (n : ℕ) → is_byte_length n ≡ true → n < 256 ^ 2
byte-length-fits n h = omega (arith, byte-length-most n h)

-- for lengths of any width
module _ (w : ℕ) where
  elementary-from : Sounds w is_elementary (encode_elementary w) elementary_cases
  unfolding is_elementary encode_elementary
  elementary-from =
      let number = number-sound w is_elementary (encode_elementary w) in
      let bare = bare-sound w is_elementary (encode_elementary w) in
      let ints = number 0x1 2 is_bit_width (λ v. int (bits v)) (λ v h t. t) (λ v. refl) in
      let uints = number 0x2 2 is_bit_width (λ v. uint (bits v)) (λ v h t. t) (λ v. refl) in
      let fixed = number 0x5 2 is_byte_length (λ v. fixed_bytes (octets v)) (λ v h t. t) (λ v. refl) in
      (ints, (uints, (bare 0x3 address refl refl, (bare 0x4 bool refl refl, (fixed, (bare 0x6 Elementary.function refl refl, (bare 0x7 bytes refl refl, (bare 0x8 string refl refl, tt))))))))

  pub elementary-to : (e : Elementary) → is_elementary e ≡ true → Written w decode_elementary (encode_elementary w e) e
  unfolding decode_elementary is_elementary encode_elementary
  elementary-to (int (bits n)) g = (0x1, little_endian 2 n, lit< tt, refl, number-to 2 n is_bit_width (λ v. int (bits v)) (width_fits n g) g)
  elementary-to (uint (bits n)) g = (0x2, little_endian 2 n, lit< tt, refl, number-to 2 n is_bit_width (λ v. uint (bits v)) (width_fits n g) g)
  elementary-to (fixed_bytes (octets n)) g = (0x5, little_endian 2 n, lit< tt, refl, number-to 2 n is_byte_length (λ v. fixed_bytes (octets v)) (byte-length-fits n g) g)
  elementary-to address g = (0x3, [], lit< tt, refl, refl)
  elementary-to bool g = (0x4, [], lit< tt, refl, refl)
  elementary-to Elementary.function g = (0x6, [], lit< tt, refl, refl)
  elementary-to bytes g = (0x7, [], lit< tt, refl, refl)
  elementary-to string g = (0x8, [], lit< tt, refl, refl)

  suffix-from : Sounds w is_suffix (encode_suffix w) suffix_cases
  unfolding encode_suffix
  suffix-from =
      let fixed = number-sound w is_suffix (encode_suffix w) 0xA 8 (λ _. true) sized (λ v h t. le-leb v longest (omega arith)) (λ v. refl) in
      (fixed, (bare-sound w is_suffix (encode_suffix w) 0xB unsized refl refl, tt))

  suffix-to : (s : Suffix) → is_suffix s ≡ true → Written w decode_suffix (encode_suffix w s) s
  unfolding decode_suffix encode_suffix
  suffix-to (sized n) g = (0xA, little_endian 8 n, lit< tt, refl, number-to 8 n (λ _. true) sized (omega (arith, leb-true n longest g)) refl)
  suffix-to unsized g = (0xB, [], lit< tt, refl, refl)

  suffix-reads : Reads w decode_suffix is_suffix (encode_suffix w)
  unfolding decode_suffix
  suffix-reads = record { from = select-sound w is_suffix (encode_suffix w) suffix_cases suffix-from; to = λ s g f. suffix-to s g }

  suffix_lists : Lists [] ◌∷◌ is_suffix (encode_suffix w) (all is_suffix) (encode_suffixes w)
  unfolding encode_suffixes
  suffix_lists = record { induction = go; good_nil = refl; good_cons = λ s ss. refl; enc_nil = refl; enc_cons = λ s ss. refl }
    where
      go : (P : List Suffix → Type 0) → P [] → ((s : Suffix) (ss : List Suffix) → P ss → P (s ∷ ss)) → (ss : List Suffix) → P ss
      go P n c [] = n
      go P n c (s ∷ ss) = c s ss (go P n c ss)

  pub suffixes_spells : Spells w (decode_suffixes w) (all is_suffix) (encode_suffixes w)
  unfolding decode_suffixes
  suffixes_spells = each_spells w [] ◌∷◌ decode_suffix is_suffix (encode_suffix w) (all is_suffix) (encode_suffixes w) suffix_lists suffix-reads

  -- a base, where T reads the fields of a tuple
  module _ (T : List ℕ → Option Fields) (d : ℕ) (S : Spells w T (λ fs. is_base d (tuple fs)) (encode_fields w)) where
    abbrev chosen : Bool → ℕ → List ℕ → Option Base
    chosen t k body = elim t [ true ↦ on_option tuple (T body) | false ↦ on_option elementary (decode_elementary k body) ]

    base-from : (k : ℕ) (body : List ℕ) (b : Base) → Bytes body → (t : Bool) → eqb k 0x9 ≡ t → chosen t k body ≡ Some b → (is_base d b ≡ true) × (encode_base w b ≡ record_of w k body)
    unfolding is_base encode_base decode_elementary
    base-from k body b h true p e = on_some tuple (T body) e (λ fs q same. let (g, u) = S.from body fs h q in rw (← same, eqb-true k 0x9 p) (g, ap (record_of w 0x9) (sym u)))
    base-from k body b h false p e =
        on_some elementary (decode_elementary k body) e (λ x q same. rw (← same) (select-sound w is_elementary (encode_elementary w) elementary_cases elementary-from k body x h q))

    -- no elementary kind has the number of a tuple
    not-tuple : (k : ℕ) (body : List ℕ) (x : Elementary) → decode_elementary k body ≡ Some x → (t : Bool) → eqb k 0x9 ≡ t → chosen t k body ≡ Some (elementary x)
    unfolding decode_elementary
    not-tuple k body x e true p = absurd (none-some x (rw (eqb-true k 0x9 p) at e))
    not-tuple k body x e false p = ap (on_option elementary) e

    base-to : (b : Base) → is_base d b ≡ true → length (encode_base w b) < 256 ^ w → Written w (base_from T) (encode_base w b) b
    unfolding base_from is_base encode_base
    base-to (elementary x) g f = let (k, body, small, u, e) = elementary-to x g in (k, body, small, u, not-tuple k body x e (eqb k 0x9) refl)
    base-to (tuple fs) g f = (0x9, encode_fields w fs, lit< tt, refl, ap (on_option tuple) (S.to fs g (omega (arith, rw record_length at f))))

    pub base-reads : Reads w (base_from T) (is_base d) (encode_base w)
    unfolding base_from
    base-reads = record { from = λ k body b h e. base-from k body b h (eqb k 0x9) refl e; to = base-to }

  -- a field, where B reads its base
  module _ (sort : Sort) (d : ℕ) (B : ℕ → List ℕ → Option Base) (R : Reads w B (is_base d) (encode_base w)) where
    field-from : (k : ℕ) → Sound w (is_field sort d) (encode_field w) k (field_from w sort B k)
    unfolding field_from is_field encode_field encode_name
    field-from k body a h e =
        when-some (eqb k 0x10) _ e (λ p e₁.
        fronted-some body _ h e₁ (λ u₁ h₁ e₂.
        kind-some w 0x11 (drop 2 body) _ h₁ e₂ (λ nm r₂ c₂ e₃.
        (reads-part w B (is_base d) (encode_base w) R).from r₂ _ a c₂.rest e₃ (λ b r₃ g₃ u₃ h₃ e₄.
        given-some (decode_suffixes w r₃) _ e₄ (λ ss q e₅.
        when-some (is_mark (marks sort (record { base = b; suffixes = ss })) (le_value (take 2 body)) nm && is_field_name nm) _ e₅ (λ g₅ e₆.
        let (g₁, g₂) = (and-eq-true_iff (is_mark (marks sort (record { base = b; suffixes = ss })) (le_value (take 2 body)) nm) (is_field_name nm)).0 g₅ in
        let (g₄, u₄) = suffixes_spells.from r₃ ss h₃ q in
        rw (← (same_Some _ _ e₆)) (both g₁ (both g₂ (both g₃ g₄)), cc (eqb-true k 0x10 p))))))))

    field-to : (a : Field) → is_field sort d a ≡ true → length (encode_field w a) < 256 ^ w → Written w (field_from w sort B) (encode_field w a) a
    unfolding field_from is_field marks encode_field encode_name
    field-to (field m nm b ss) g f =
        let (g₁, i) = (and-eq-true_iff (is_mark (marks sort (record { base = b; suffixes = ss })) m nm) _).0 g in
        let (g₂, j) = (and-eq-true_iff (is_field_name nm) _).0 i in
        let (g₃, g₄) = (and-eq-true_iff (is_base d b) _).0 j in
        let small : m < 256 ^ 2 = mark-fits sort (can_specify_location b ss) m nm g₁ in
        let sizes = simp (record_length, length-append, le_length) at f in
        (0x10, _, lit< tt, refl, rw (fronted-to m) (kind-to w 0x11 nm _ _ (lit< tt) (rw record_length (omega arith)) ∙ (reads-part w B (is_base d) (encode_base w) R).to b _ _ g₃ (omega arith) ∙ (rw (suffixes_spells.to ss g₄ (omega arith), g₁, g₂))))

    field-reads : Reads w (field_from w sort B) (is_field sort d) (encode_field w)
    field-reads = record { from = field-from; to = field-to }

  field_lists : (sort : Sort) (d : ℕ) → Lists no_field more_fields (is_field sort d) (encode_field w) (are_fields sort d) (encode_fields w)
  unfolding are_fields encode_fields
  field_lists sort d = record { induction = go; good_nil = refl; good_cons = λ f fs. refl; enc_nil = refl; enc_cons = λ f fs. refl }
    where
      go : (P : Fields → Type 0) → P no_field → ((f : Field) (fs : Fields) → P fs → P (more_fields f fs)) → (fs : Fields) → P fs
      go P n c no_field = n
      go P n c (more_fields f fs) = c f fs (go P n c fs)

  fields_spells : (sort : Sort) (d : ℕ) (B : ℕ → List ℕ → Option Base) → Reads w B (is_base d) (encode_base w) → Spells w (each w no_field more_fields (field_from w sort B)) (are_fields sort d) (encode_fields w)
  fields_spells sort d B R = each_spells w no_field more_fields (field_from w sort B) (is_field sort d) (encode_field w) (are_fields sort d) (encode_fields w) (field_lists sort d) (field-reads sort d B R)

  pub tuple_spells : (d : ℕ) → Spells w (tuple_from w d) (λ fs. is_base d (tuple fs)) (encode_fields w)
  unfolding tuple_from is_base
  tuple_spells zero = record { from = λ b fs h e. absurd (none-some fs e); to = λ fs g f. absurd (false≢true g) }
  tuple_spells (suc d) = fields_spells Plain d (base_from (tuple_from w d)) (base-reads (tuple_from w d) d (tuple_spells d))

  outer_reads : Reads w (base_from (tuple_from w deepest)) (is_base deepest) (encode_base w)
  outer_reads = base-reads (tuple_from w deepest) deepest (tuple_spells deepest)

  lone-reads : (sort : Sort) → Reads w (decode_field w sort) (is_field sort deepest) (encode_field w)
  unfolding decode_field
  lone-reads sort = field-reads sort deepest (base_from (tuple_from w deepest)) outer_reads

  pub inputs_spells : (sort : Sort) → Spells w (decode_fields w sort) (are_fields sort deepest) (encode_fields w)
  unfolding decode_fields decode_field
  inputs_spells sort = fields_spells sort deepest (base_from (tuple_from w deepest)) outer_reads

  -- a declaration's name, a list, and the last list
  module _ {A : Type 0} where
    name-part : Part w {A = A} (name_from w) is_word (encode_name w)
    unfolding encode_name
    name-part = record {
      from = λ b f a h e next. kind-some w 0x11 b _ h e (λ nm r c q. when-some (is_word nm) (f nm r) q (λ t s. next nm r t c.parts c.rest s));
      to = λ nm r f g l. kind-to w 0x11 nm r _ (lit< tt) l ∙ (rw g);
    }

    list-part : (sort : Sort) → Part w {A = A} (list_from w sort) (are_fields sort deepest) (encode_list w)
    unfolding encode_list
    list-part sort = record {
      from = λ b f a h e next.
          kind-some w 0x12 b _ h e (λ body r c q. given-some (decode_fields w sort body) _ q (λ fs t s.
          let (g, u) = (inputs_spells sort).from body fs c.bytes t in
          next fs r g (rw u at c.parts) c.rest s));
      to = λ fs r f g l. kind-to w 0x12 (encode_fields w fs) r _ (lit< tt) l ∙ (rw ((inputs_spells sort).to fs g (omega (arith, rw record_length at l))));
    }

    last-from : {Q : Type 0} (sort : Sort) (b : List ℕ) (f : Fields → Option A) (a : A) → Bytes b → list_from w sort b (λ fs r. ended r (f fs)) ≡ Some a → ((fs : Fields) → are_fields sort deepest fs ≡ true → b ≡ encode_list w fs → f fs ≡ Some a → Q) → Q
    last-from sort b f a h e next =
        (list-part sort).from b _ a h e (λ fs r g u k q. ended_some r _ q (λ t s. next fs g (u ∙ ap (λ y. encode_list w fs ++ y) t ∙ append-nil _) s))

    last-to : (sort : Sort) (fs : Fields) (f : Fields → Option A) → are_fields sort deepest fs ≡ true → length (encode_list w fs) < 256 ^ w → list_from w sort (encode_list w fs) (λ fs r. ended r (f fs)) ≡ f fs
    last-to sort fs f g l = ap (λ b. list_from w sort b (λ fs r. ended r (f fs))) (sym (append-nil _)) ∙ (list-part sort).to fs [] _ g l

  function-from : Sound w is_declaration (encode w) 0x20 (function_from w)
  unfolding is_declaration encode
  function-from body d h e =
      fronted-some body _ h e (λ u₁ h₁ e₁.
      name-part.from (drop 2 body) _ d h₁ e₁ (λ nm r₂ g₂ u₂ h₂ e₂.
      (list-part Parameter).from r₂ _ d h₂ e₂ (λ ins r₃ g₃ u₃ h₃ e₃.
      last-from Parameter r₃ _ d h₃ e₃ (λ outs g₄ u₄ e₄.
      when-some (leb (le_value (take 2 body)) 3) _ e₄ (λ g₁ e₅.
      rw (← (same_Some _ _ e₅)) (both g₁ (both g₂ (both g₃ g₄)), cc))))))

  constructor-from : Sound w is_declaration (encode w) 0x21 (constructor_from w)
  unfolding is_declaration encode
  constructor-from body d h e =
      fronted-some body _ h e (λ u₁ h₁ e₁.
      last-from Parameter (drop 2 body) _ d h₁ e₁ (λ ins g₂ u₂ e₂.
      when-some (between 2 3 (le_value (take 2 body))) _ e₂ (λ g₁ e₃.
      rw (← (same_Some _ _ e₃)) (both g₁ g₂, cc))))

  event-from : Sound w is_declaration (encode w) 0x22 (event_from w)
  unfolding is_declaration encode
  event-from body d h e =
      fronted-some body _ h e (λ u₁ h₁ e₁.
      name-part.from (drop 2 body) _ d h₁ e₁ (λ nm r₂ g₂ u₂ h₂ e₂.
      last-from Event r₂ _ d h₂ e₂ (λ ins g₃ u₃ e₃.
      when-some (leb (le_value (take 2 body)) 1) _ e₃ (λ g₁ e₄.
      rw (← (same_Some _ _ e₄)) (both g₁ (both g₂ g₃), cc)))))

  error-from : Sound w is_declaration (encode w) 0x23 (error_from w)
  unfolding is_declaration encode
  error-from body d h e =
      name-part.from body _ d h e (λ nm r₁ g₁ u₁ h₁ e₁.
      last-from Plain r₁ _ d h₁ e₁ (λ ins g₂ u₂ e₂.
      rw (← (same_Some _ _ e₂)) (both g₁ g₂, cc)))

  declaration-to : (d : Declaration) → is_declaration d ≡ true → length (encode w d) < 256 ^ w → Written w (decode_declaration w) (encode w d) d
  unfolding is_declaration encode decode_declaration
  declaration-to (Declaration.function m nm ins outs) g f =
      let (g₁, i) = (and-eq-true_iff (leb m 3) _).0 g in
      let (g₂, j) = (and-eq-true_iff (is_word nm) _).0 i in
      let (g₃, g₄) = (and-eq-true_iff (are_fields Parameter deepest ins) _).0 j in
      let small : m < 256 ^ 2 = omega (arith, leb-true m 3 g₁) in
      let sizes = simp (record_length, length-append, le_length) at f in
      (0x20, _, lit< tt, refl, rw (fronted-to m) (name-part.to nm _ _ g₂ (omega arith) ∙ (list-part Parameter).to ins _ _ g₃ (omega arith) ∙ last-to Parameter outs _ g₄ (omega arith) ∙ (rw g₁)))
  declaration-to (Declaration.constructor m ins) g f =
      let (g₁, g₂) = (and-eq-true_iff (between 2 3 m) _).0 g in
      let small : m < 256 ^ 2 = omega (arith, leb-true m 3 (right (leb 2 m) g₁)) in
      let sizes = simp (record_length, length-append, le_length) at f in
      (0x21, _, lit< tt, refl, rw (fronted-to m) (last-to Parameter ins _ g₂ (omega arith) ∙ (rw g₁)))
  declaration-to (Declaration.event a nm ins) g f =
      let (g₁, i) = (and-eq-true_iff (leb a 1) _).0 g in
      let (g₂, g₃) = (and-eq-true_iff (is_word nm) _).0 i in
      let small : a < 256 ^ 2 = omega (arith, leb-true a 1 g₁) in
      let sizes = simp (record_length, length-append, le_length) at f in
      (0x22, _, lit< tt, refl, rw (fronted-to a) (name-part.to nm _ _ g₂ (omega arith) ∙ last-to Event ins _ g₃ (omega arith) ∙ (rw g₁)))
  declaration-to (Declaration.error nm ins) g f =
      let (g₁, g₂) = (and-eq-true_iff (is_word nm) _).0 g in
      let sizes = simp (record_length, length-append) at f in
      (0x23, _, lit< tt, refl, name-part.to nm _ _ g₁ (omega arith) ∙ last-to Plain ins _ g₂ (omega arith))

  pub declaration-reads : Reads w (decode_declaration w) is_declaration (encode w)
  unfolding decode_declaration
  declaration-reads = record {
    from = select-sound w is_declaration (encode w) (case 0x20 (function_from w) ∷ case 0x21 (constructor_from w) ∷ case 0x22 (event_from w) ∷ case 0x23 (error_from w) ∷ []) (function-from, (constructor-from, (event-from, (error-from, tt))));
    to = declaration-to;
  }

-- the record of document 01
module _ {A : Type 0} (D : ℕ → List ℕ → Option A) (good : A → Bool) (enc : A → List ℕ) (R : Reads 4 D good enc) where
  fits : (b : List ℕ) → leb (length b) longest_record ≡ true → length b < 256 ^ 4
  fits b h = omega (arith, leb-true (length b) longest_record h)

  whole_from_lem : (b : List ℕ) (a : A) → Bytes b → whole D b ≡ Some a → ((good a && leb (length (enc a)) longest_record) ≡ true) × (b ≡ enc a)
  whole_from_lem b a h e =
      when-some (leb (length b) longest_record) _ e (λ l q.
      let (g, u) = (alone-exactly 4 D good enc R b a h (fits b l)).0 q in
      (both g (rw u at l), u))

  whole_to_lem : (a : A) → (good a && leb (length (enc a)) longest_record) ≡ true → whole D (enc a) ≡ Some a
  whole_to_lem a h = let (g, l) = (and-eq-true_iff (good a) _).0 h in rw l (alone-to 4 D good enc R a g (fits (enc a) l))

  whole-exactly : (b : List ℕ) (a : A) → Bytes b → (whole D b ≡ Some a) ↔ (((good a && leb (length (enc a)) longest_record) ≡ true) × (b ≡ enc a))
  whole-exactly b a h = (whole_from_lem b a h, λ p. rw p.1 (whole_to_lem a p.0))

  whole_injective : (a b : A) → (good a && leb (length (enc a)) longest_record) ≡ true → (good b && leb (length (enc b)) longest_record) ≡ true → enc a ≡ enc b → a ≡ b
  whole_injective a b h k u = let (g, l) = (and-eq-true_iff (good a) _).0 h in alone_injective 4 D good enc R a b g (left _ k) (fits (enc a) l) u

pub decode-exactly : (b : List ℕ) (d : Declaration) → Bytes b → (decode b ≡ Some d) ↔ ((well_formed d ≡ true) × (b ≡ encode 4 d))
unfolding decode well_formed
decode-exactly = whole-exactly (decode_declaration 4) is_declaration (encode 4) (declaration-reads 4)

pub decode-lone-exactly : (b : List ℕ) (f : Field) → Bytes b → (decode_lone b ≡ Some f) ↔ ((well_formed_field f ≡ true) × (b ≡ encode_field 4 f))
unfolding decode_lone well_formed_field
decode-lone-exactly = whole-exactly (decode_field 4 Plain) (is_field Plain deepest) (encode_field 4) (lone-reads 4 Plain)

pub encode_injective : (d e : Declaration) → well_formed d ≡ true → well_formed e ≡ true → encode 4 d ≡ encode 4 e → d ≡ e
unfolding well_formed
encode_injective = whole_injective (decode_declaration 4) is_declaration (encode 4) (declaration-reads 4)

pub encode-field_injective : (f g : Field) → well_formed_field f ≡ true → well_formed_field g ≡ true → encode_field 4 f ≡ encode_field 4 g → f ≡ g
unfolding well_formed_field
encode-field_injective = whole_injective (decode_field 4 Plain) (is_field Plain deepest) (encode_field 4) (lone-reads 4 Plain)

-- a field record is never a declaration's
not-field : (k : ℕ) (body : List ℕ) (d : Declaration) → decode_declaration 4 k body ≡ Some d → decode_field 4 Plain k body ≡ None
unfolding decode_declaration decode_field field_from
not-field k body d e = go (eqb k 0x10) refl
  where
    go : (t : Bool) → eqb k 0x10 ≡ t → decode_field 4 Plain k body ≡ None
    go true p = absurd (none-some d (rw (eqb-true k 0x10 p) at e))
    go false p = rw p

apart : (t : Bool) (p : Piece) (d : Declaration) → when t (on_piece p (λ k body r. ended r (decode_declaration 4 k body))) ≡ Some d → when t (on_piece p (λ k body r. ended r (decode_field 4 Plain k body))) ≡ None
apart false p d e = refl
apart true no_piece d e = refl
apart true (piece k body []) d e = not-field k body d e
apart true (piece k body (c ∷ r)) d e = refl

pub decode-not-lone : (b : List ℕ) (d : Declaration) → decode b ≡ Some d → decode_lone b ≡ None
unfolding decode decode_lone
decode-not-lone b d e = apart (leb (length b) longest_record) (piece_of 4 b) d e

-- encodings are bytes
between-byte : (high low c : ℕ) → high < 256 → between low high c ≡ true → c < 256
between-byte high low c l h = omega (arith, leb-true c high (right (leb low c) h))

word_byte : (c : ℕ) → is_word_byte c ≡ true → c < 256
word_byte c h =
    either (is_digit c) _ h (between-byte 57 48 c (lit< tt)) (λ h₁.
    either (between 97 122 c) _ h₁ (between-byte 122 97 c (lit< tt)) (λ h₂.
    either (between 65 90 c) _ h₂ (between-byte 90 65 c (lit< tt)) (λ h₃.
    either (eqb c 36) _ h₃ (λ p. omega (arith, eqb-true c 36 p)) (λ p. omega (arith, eqb-true c 95 p)))))

all-bytes : (t : List ℕ) → all is_word_byte t ≡ true → Bytes t
all-bytes [] h = bytes_nil
all-bytes (c ∷ t) h = bytes_cons c t (word_byte c (left _ h)) (all-bytes t (right (is_word_byte c) h))

word_bytes : (nm : List ℕ) → is_word nm ≡ true → Bytes nm
word_bytes nm h = all-bytes nm (word-all nm h)

field-name-bytes : (nm : List ℕ) → is_field_name nm ≡ true → Bytes nm
field-name-bytes [] h = bytes_nil
field-name-bytes (c ∷ t) h = word_bytes (c ∷ t) h

module _ (w : ℕ) where
  elementary-bytes : (e : Elementary) → Bytes (encode_elementary w e)
  unfolding encode_elementary
  elementary-bytes (int (bits n)) = record_bytes w 0x1 _ (le_bytes 2 n)
  elementary-bytes (uint (bits n)) = record_bytes w 0x2 _ (le_bytes 2 n)
  elementary-bytes (fixed_bytes (octets n)) = record_bytes w 0x5 _ (le_bytes 2 n)
  elementary-bytes address = record_bytes w 0x3 [] bytes_nil
  elementary-bytes bool = record_bytes w 0x4 [] bytes_nil
  elementary-bytes Elementary.function = record_bytes w 0x6 [] bytes_nil
  elementary-bytes bytes = record_bytes w 0x7 [] bytes_nil
  elementary-bytes string = record_bytes w 0x8 [] bytes_nil

  suffixes-bytes : (ss : List Suffix) → Bytes (encode_suffixes w ss)
  unfolding encode_suffixes encode_suffix
  suffixes-bytes [] = bytes_nil
  suffixes-bytes (sized n ∷ ss) = bytes_append _ _ (record_bytes w 0xA _ (le_bytes 8 n)) (suffixes-bytes ss)
  suffixes-bytes (unsized ∷ ss) = bytes_append _ _ (record_bytes w 0xB [] bytes_nil) (suffixes-bytes ss)

  name-bytes : (nm : List ℕ) → Bytes nm → Bytes (encode_name w nm)
  unfolding encode_name
  name-bytes nm h = record_bytes w 0x11 nm h

  mutual
    unfolding is_base encode_base

    base-bytes : (b : Base) (d : ℕ) → is_base d b ≡ true → Bytes (encode_base w b)
    base-bytes (elementary e) d g = elementary-bytes e
    base-bytes (tuple fs) zero g = absurd (false≢true g)
    base-bytes (tuple fs) (suc d) g = record_bytes w 0x9 _ (fields-bytes fs Plain d g)

    pub field-bytes : (f : Field) (sort : Sort) (d : ℕ) → is_field sort d f ≡ true → Bytes (encode_field w f)
    field-bytes (field m nm b ss) sort d g =
        let (g₁, i) = (and-eq-true_iff (is_field_name nm) _).0 (right (is_mark (marks sort (record { base = b; suffixes = ss })) m nm) g) in
        record_bytes w 0x10 _ (bytes_append _ _ (le_bytes 2 m) (bytes_append _ _ (name-bytes nm (field-name-bytes nm g₁)) (bytes_append _ _ (base-bytes b d (left _ i)) (suffixes-bytes ss))))

    fields-bytes : (fs : Fields) (sort : Sort) (d : ℕ) → are_fields sort d fs ≡ true → Bytes (encode_fields w fs)
    fields-bytes no_field sort d g = bytes_nil
    fields-bytes (more_fields f fs) sort d g = bytes_append _ _ (field-bytes f sort d (left _ g)) (fields-bytes fs sort d (right (is_field sort d f) g))

  list-bytes : (sort : Sort) (fs : Fields) → are_fields sort deepest fs ≡ true → Bytes (encode_list w fs)
  unfolding encode_list
  list-bytes sort fs g = record_bytes w 0x12 _ (fields-bytes fs sort deepest g)

  declaration-bytes : (d : Declaration) → is_declaration d ≡ true → Bytes (encode w d)
  unfolding is_declaration encode
  declaration-bytes (Declaration.function m nm ins outs) g =
      let (g₁, i) = (and-eq-true_iff (is_word nm) _).0 (right (leb m 3) g) in
      let (g₂, g₃) = (and-eq-true_iff (are_fields Parameter deepest ins) _).0 i in
      record_bytes w 0x20 _ (bytes_append _ _ (le_bytes 2 m) (bytes_append _ _ (name-bytes nm (word_bytes nm g₁)) (bytes_append _ _ (list-bytes Parameter ins g₂) (list-bytes Parameter outs g₃))))
  declaration-bytes (Declaration.constructor m ins) g = record_bytes w 0x21 _ (bytes_append _ _ (le_bytes 2 m) (list-bytes Parameter ins (right (between 2 3 m) g)))
  declaration-bytes (Declaration.event a nm ins) g =
      let (g₁, g₂) = (and-eq-true_iff (is_word nm) _).0 (right (leb a 1) g) in
      record_bytes w 0x22 _ (bytes_append _ _ (le_bytes 2 a) (bytes_append _ _ (name-bytes nm (word_bytes nm g₁)) (list-bytes Event ins g₂)))
  declaration-bytes (Declaration.error nm ins) g =
      let (g₁, g₂) = (and-eq-true_iff (is_word nm) _).0 g in
      record_bytes w 0x23 _ (bytes_append _ _ (name-bytes nm (word_bytes nm g₁)) (list-bytes Plain ins g₂))

pub encode-bytes : (d : Declaration) → well_formed d ≡ true → Bytes (encode 4 d)
unfolding well_formed
encode-bytes d h = declaration-bytes 4 d (left _ h)

pub encode-field-bytes : (f : Field) → well_formed_field f ≡ true → Bytes (encode_field 4 f)
unfolding well_formed_field
encode-field-bytes f h = field-bytes 4 f Plain deepest (left _ h)
