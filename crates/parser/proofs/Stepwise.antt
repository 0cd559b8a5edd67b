-- The definition of a declaration, stage by stage.
-- Assumes nothing.
use Rattle.std.proofs.Common.{◌≡◌, refl, sym, ap, ℕ, List, [], ◌++◌, append_assoc, append-nil}
use Rattle.model.specs.declared.Keyword.{Keyword}
use Rattle.model.specs.declared.Keyword.TheVariants as key
use Rattle.model.specs.Tree.{Fields, Declaration}
use Rattle.model.specs.Parser.{Ans, got, bad, deep, on_ans, then, keyword_of, ident, keyword, option, end}
use Rattle.model.specs.Reading.{fields, returns, keyword_text, parser_of, exec}
use Rattle.model.specs.Reading as reading
use Rattle.model.specs.Layout.{little_endian, record_of}
use Rattle.model.specs.Record.{encode_name, encode_list, encode}
use Rattle.parser.specs.Stages.{ident_of, list_in, returns_of, sort_of, name_of, words_of, absent, stated_of, outputs_of, code_of, number_of, declaration_of, Content, parts_of, body_of}

module _ (E : Declaration → List ℕ) (K : Declaration → ℕ → Ans Declaration) where
  opens : {A : Type 0} (a : Ans A) (f : A → ℕ → Ans Declaration) (g : A → ℕ → Ans (List ℕ)) → ((x : A) (n : ℕ) → on_ans E (then (f x n) K) ≡ g x n) → on_ans E (then (then a f) K) ≡ then a g
  unfolding then on_ans
  opens (got x n) f g h = h x n
  opens (bad w p) f g h = refl
  opens (deep p) f g h = refl

  module _ {A : Type 0} (L : Content → ℕ → Ans (List ℕ)) where
    through : (a : Ans A) (f : A → ℕ → Ans Declaration) (g : A → ℕ → Ans Content) → ((x : A) (n : ℕ) → on_ans E (then (f x n) K) ≡ then (g x n) L) → on_ans E (then (then a f) K) ≡ then (then a g) L
    unfolding then on_ans
    through (got x n) f g h = h x n
    through (bad w p) f g h = refl
    through (deep p) f g h = refl

    through-on : (c : A → List ℕ) (a : Ans A) (f : A → ℕ → Ans Declaration) (g : List ℕ → ℕ → Ans Content) → ((x : A) (n : ℕ) → on_ans E (then (f x n) K) ≡ then (g (c x) n) L)
        → on_ans E (then (then a f) K) ≡ then (then (on_ans c a) g) L
    unfolding then on_ans
    through-on c (got x n) f g h = h x n
    through-on c (bad w p) f g h = refl
    through-on c (deep p) f g h = refl

    finishes : (c : A → List ℕ) (a : Ans A) (f : A → ℕ → Ans Declaration) (m : ℕ) (t : List ℕ) → ((x : A) (n : ℕ) → on_ans E (then (f x n) K) ≡ L (record { number = m; bytes = t ++ c x }) n)
        → on_ans E (then (then a f) K) ≡ then (on_ans (λ w. record { number = m; bytes = t ++ w }) (on_ans c a)) L
    unfolding then on_ans
    finishes c (got x n) f m t h = h x n
    finishes c (bad w p) f m t h = refl
    finishes c (deep p) f m t h = refl

last : (d : Declaration) (u : List ℕ) (a : Ans (Unit {0})) → encode 4 d ≡ u → on_ans (encode 4) (on_ans (λ _. d) a) ≡ on_ans (λ _. u) a
unfolding on_ans
last d u (got x n) e = ap (λ (v : List ℕ). got v n) e
last d u (bad w p) e = refl
last d u (deep p) e = refl

encode-function : (m : ℕ) (nm : List ℕ) (ins outs : Fields) → encode 4 (Declaration.function m nm ins outs) ≡ declaration_of key.Function m ((encode_name 4 nm ++ encode_list 4 ins) ++ encode_list 4 outs)
unfolding encode declaration_of code_of number_of
encode-function m nm ins outs = ap (λ (u : List ℕ). record_of 4 32 (little_endian 2 m ++ u)) (sym (append_assoc (encode_name 4 nm) (encode_list 4 ins) (encode_list 4 outs)))

encode-constructor : (m : ℕ) (ins : Fields) → encode 4 (Declaration.constructor m ins) ≡ declaration_of key.Constructor m (([] ++ encode_list 4 ins) ++ [])
unfolding encode declaration_of code_of number_of
encode-constructor m ins = ap (λ (u : List ℕ). record_of 4 33 (little_endian 2 m ++ u)) (sym (append-nil (encode_list 4 ins)))

encode-event : (m : ℕ) (nm : List ℕ) (ins : Fields) → encode 4 (Declaration.event m nm ins) ≡ declaration_of key.Event m ((encode_name 4 nm ++ encode_list 4 ins) ++ [])
unfolding encode declaration_of code_of number_of
encode-event m nm ins = ap (λ (u : List ℕ). record_of 4 34 (little_endian 2 m ++ u)) (sym (append-nil (encode_name 4 nm ++ encode_list 4 ins)))

encode-error : (m : ℕ) (nm : List ℕ) (ins : Fields) → encode 4 (Declaration.error nm ins) ≡ declaration_of key.Error m ((encode_name 4 nm ++ encode_list 4 ins) ++ [])
unfolding encode declaration_of code_of number_of
encode-error m nm ins = ap (λ (u : List ℕ). record_of 4 35 u) (sym (append-nil (encode_name 4 nm ++ encode_list 4 ins)))

module _ (s : List ℕ) where
  K : Declaration → ℕ → Ans Declaration
  K d n = on_ans (λ _. d) (end s n)

  L : Keyword → Content → ℕ → Ans (List ℕ)
  L k c n = on_ans (λ _. declaration_of k c.number c.bytes) (end s n)

  -- a keyword, and then its stages
  abbrev Is : Keyword → Type 0
  Is k = on_ans (encode 4) (exec (parser_of k) s) ≡ then (keyword (keyword_text k) s 0) (λ _ n. body_of k s n)

  function-is : Is key.Function
  unfolding exec K L reading.function body_of parts_of name_of ident_of list_in returns_of sort_of stated_of outputs_of then
  function-is =
      opens (encode 4) K (keyword (keyword_text key.Function) s 0) _ _ (λ _ n₁.
      through-on (encode 4) K (L key.Function) (encode_name 4) (ident s n₁) _ _ (λ nm n₂.
      through-on (encode 4) K (L key.Function) (encode_list 4) (fields (sort_of key.Function) s n₂) _ _ (λ ins n₃.
      through (encode 4) K (L key.Function) (stated_of key.Function s n₃) _ _ (λ m n₄.
      finishes (encode 4) K (L key.Function) (encode_list 4) (returns s n₄) _ m _ (λ outs n₅.
      last (Declaration.function m nm ins outs) _ (end s n₅) (encode-function m nm ins outs))))))

  constructor-is : Is key.Constructor
  unfolding exec K L reading.constructor body_of parts_of name_of list_in sort_of stated_of words_of absent outputs_of then on_ans
  constructor-is =
      opens (encode 4) K (keyword (keyword_text key.Constructor) s 0) _ _ (λ _ n₁.
      through-on (encode 4) K (L key.Constructor) (encode_list 4) (fields (sort_of key.Constructor) s n₁) _ _ (λ ins n₃.
      through (encode 4) K (L key.Constructor) (stated_of key.Constructor s n₃) _ _ (λ m n₄.
      last (Declaration.constructor m ins) _ (end s n₄) (encode-constructor m ins))))

  event-is : Is key.Event
  unfolding exec K L reading.event body_of parts_of name_of ident_of list_in sort_of stated_of words_of absent outputs_of then on_ans
  event-is =
      opens (encode 4) K (keyword (keyword_text key.Event) s 0) _ _ (λ _ n₁.
      through-on (encode 4) K (L key.Event) (encode_name 4) (ident s n₁) _ _ (λ nm n₂.
      through-on (encode 4) K (L key.Event) (encode_list 4) (fields (sort_of key.Event) s n₂) _ _ (λ ins n₃.
      through (encode 4) K (L key.Event) (stated_of key.Event s n₃) _ _ (λ m n₄.
      last (Declaration.event m nm ins) _ (end s n₄) (encode-event m nm ins)))))

  -- an error has no word behind its inputs
  no_word : (at : ℕ) → stated_of key.Error s at ≡ got 0 at
  unfolding stated_of option keyword_of words_of absent
  no_word at = refl

  error-is : Is key.Error
  unfolding exec K L reading.error body_of parts_of name_of ident_of list_in sort_of outputs_of then on_ans
  error-is =
      opens (encode 4) K (keyword (keyword_text key.Error) s 0) _ _ (λ _ n₁.
      through-on (encode 4) K (L key.Error) (encode_name 4) (ident s n₁) _ _ (λ nm n₂.
      through-on (encode 4) K (L key.Error) (encode_list 4) (fields (sort_of key.Error) s n₂) _ _ (λ ins n₃.
      rw no_word (last (Declaration.error nm ins) _ (end s n₃) (encode-error 0 nm ins)))))

  pub exec-is : (k : Keyword) → Is k
  exec-is key.Function = function-is
  exec-is key.Constructor = constructor-is
  exec-is key.Event = event-is
  exec-is key.Error = error-is
