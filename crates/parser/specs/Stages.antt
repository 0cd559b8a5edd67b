-- What each stage of reading a declaration answers and leaves, by the definitions: the four keywords differ only in the stages that they have.
-- Assumes nothing.
use Rattle.std.specs.Prelude.{◌≡◌, Bool, ◌||◌, not, List, [], ◌∷◌, ◌++◌, ℕ, ◌+◌, ◌*◌, ◌≤◌, ltb, eqb, length, Option, None, Some, Result, Ok, Err}
use Rattle.kinds.specs.Bytes.{ascii}
use Rattle.model.specs.declared.Keyword.{Keyword}
use Rattle.model.specs.declared.Keyword.TheVariants as key
use Rattle.model.specs.declared.Refused.{Refused}
use Rattle.model.specs.declared.Sort.{Sort}
use Rattle.model.specs.declared.Sort.TheVariants.{Plain, Parameter, Event}
use Rattle.model.specs.Tree.{not_stated, is_payable}
use Rattle.model.specs.Text.{first}
use Rattle.model.specs.KindText.{Entry, entry, lookup}
use Rattle.model.specs.Parser.{Ans, got, bad, deep, on_ans, then, word, ident, option, end}
use Rattle.model.specs.Reading.{fields, mutabilities, visibilities, visibility, modifiers, returns}
use Rattle.model.specs.Layout.{little_endian, record_of}
use Rattle.model.specs.Record.{encode_name, encode_list, is_absent}
use Rattle.layout.specs.Buffer.{head}
use Rattle.fields.specs.declared.Failed.{Failed}
use Rattle.fields.specs.declared.Failed.TheVariants.{Deep}
use Rattle.fields.specs.declared.Word.{Word}
use Rattle.fields.specs.Words.{WordIs, to_taken}
use Rattle.fields.specs.Scratch.{Read, bad_at, to_read, bytes_of, Begins}
use Rattle.parser.specs.declared.Written.{Written}
use Rattle.parser.specs.declared.Stated.{Stated}

-- where an answer lies, and that its record takes at most 10 bytes for each byte read, and x more
abbrev pub Paid : ℕ → List ℕ → ℕ → Read → Type 0
Paid x s at (Ok g) = (at ≤ g.next) × (g.next ≤ length s) × (g.len + 10 * at ≤ 10 * g.next + x)
Paid x s at (Err f) = Unit {0}

-- a stage that writes what a tells, from where its buffer begins
pub record Did (x : ℕ) (s : List ℕ) (at : ℕ) (b : List ℕ) (a : Ans (List ℕ)) (r : Read) : Type 0 where
  pub same : r ≡ to_read a
  pub within : Paid x s at r
  pub wrote : Begins b (bytes_of a)

-- and one that writes nothing
abbrev pub Behind : List ℕ → ℕ → Result ℕ Refused → Type 0
Behind s at (Ok n) = (at ≤ n) × (n ≤ length s)
Behind s at (Err r) = Unit {0}

pub record Took (s : List ℕ) (at : ℕ) (a : Ans (Unit {0})) (r : Result ℕ Refused) : Type 0 where
  pub same : to_taken r ≡ a
  pub within : Behind s at r

-- the stages
unfoldable pub ident_of : List ℕ → ℕ → Ans (List ℕ)
ident_of s at = on_ans (encode_name 4) (ident s at)

unfoldable pub list_in : Sort → List ℕ → ℕ → Ans (List ℕ)
list_in sort s at = on_ans (encode_list 4) (fields sort s at)

unfoldable pub returns_of : List ℕ → ℕ → Ans (List ℕ)
returns_of s at = on_ans (encode_list 4) (returns s at)

-- "In an event's own list the mark is `indexed`. In function and constructor lists it is `calldata` or `memory`": an error's has none
unfoldable pub sort_of : Keyword → Sort
sort_of key.Function = Parameter
sort_of key.Constructor = Parameter
sort_of key.Event = Event
sort_of key.Error = Plain

-- "a name (none for a constructor)"
unfoldable pub name_of : Keyword → List ℕ → ℕ → Ans (List ℕ)
name_of key.Function s at = ident_of s at
name_of key.Constructor s at = got [] at
name_of key.Event s at = ident_of s at
name_of key.Error s at = ident_of s at

-- the word behind the inputs, and what stands for none: "at most one of `pure`, `view`, `payable`"; "A constructor may have `payable`, an event
-- `anonymous`"
unfoldable pub words_of : Keyword → List (Entry ℕ)
words_of key.Function = mutabilities
words_of key.Constructor = entry (ascii "payable") is_payable ∷ []
words_of key.Event = entry (ascii "anonymous") 1 ∷ []
words_of key.Error = []

unfoldable pub absent : Keyword → ℕ
absent key.Function = not_stated
absent key.Constructor = not_stated
absent key.Event = 0
absent key.Error = 0

-- a reading from `at` on that gives x and stops at n
pub record Stops {A : Type 0} (s : List ℕ) (at : ℕ) (a : Ans A) (x : A) (n : ℕ) : Type 0 where
  pub same : a ≡ got x n
  pub low : at ≤ n
  pub inside : n ≤ length s

-- that word: its number, or the one that stands for none, and the place behind it
abbrev pub OptionIs : List ℕ → ℕ → Keyword → Stated → Type 0
OptionIs s at k r = Stops s at (option (words_of k) (absent k) s at) r.number r.next

-- whether a word is a visibility word
unfoldable pub is_visibility : List ℕ → Bool
is_visibility w = not (is_absent (lookup visibilities w))

-- whether a byte is the first of a visibility word or a mutability word: `pure` and `payable` begin as `public` does
abbrev pub begins_modifier : ℕ → Bool
begins_modifier c = eqb c (first (ascii "external")) || (eqb c (first (ascii "public")) || eqb c (first (ascii "view")))

-- the word behind any blanks, or that it is neither a visibility word nor a mutability word
abbrev pub ModifierIs : List ℕ → ℕ → Option Word → Type 0
ModifierIs s at None = (lookup visibilities (word s at) ≡ None) × (lookup mutabilities (word s at) ≡ None)
ModifierIs s at (Some w) = WordIs s at w.bytes.now w.next

-- a visibility word ends at n, which is `at` where none stands
abbrev pub VisibleIs : List ℕ → ℕ → ℕ → Type 0
VisibleIs s at n = Stops s at (visibility s at) (ltb at n) n

-- what stands behind the inputs. Order 2: "After a function's inputs, at most one of these and at most one mutability word may stand"; the other
-- keywords have no visibility words
unfoldable pub stated_of : Keyword → List ℕ → ℕ → Ans ℕ
stated_of key.Function s at = modifiers s at
stated_of key.Constructor s at = option (words_of key.Constructor) (absent key.Constructor) s at
stated_of key.Event s at = option (words_of key.Event) (absent key.Event) s at
stated_of key.Error s at = option (words_of key.Error) (absent key.Error) s at

abbrev pub StatedIs : List ℕ → ℕ → Keyword → Stated → Type 0
StatedIs s at k r = Stops s at (stated_of k s at) r.number r.next

-- "and after it optionally `returns` with a list": only a function has outputs
unfoldable pub outputs_of : Keyword → List ℕ → ℕ → Ans (List ℕ)
outputs_of key.Function s at = returns_of s at
outputs_of key.Constructor s at = got [] at
outputs_of key.Event s at = got [] at
outputs_of key.Error s at = got [] at

-- the front of a record: its head and, but for an error, a number in two bytes
unfoldable pub code_of : Keyword → ℕ
code_of key.Function = 0x20
code_of key.Constructor = 0x21
code_of key.Event = 0x22
code_of key.Error = 0x23

unfoldable pub number_of : Keyword → ℕ → List ℕ
number_of key.Function m = little_endian 2 m
number_of key.Constructor m = little_endian 2 m
number_of key.Event m = little_endian 2 m
number_of key.Error m = []

unfoldable pub front_length : Keyword → ℕ
front_length key.Function = 8
front_length key.Constructor = 8
front_length key.Event = 8
front_length key.Error = 6

unfoldable pub front_of : Keyword → ℕ → ℕ → List ℕ
front_of k n m = head n (code_of k) ++ number_of k m

-- the record of a declaration, from its number and the bytes behind it
unfoldable pub declaration_of : Keyword → ℕ → List ℕ → List ℕ
declaration_of k m u = record_of 4 (code_of k) (number_of k m ++ u)

-- what stands between the keyword and the end: the number that is stated, and the records of the rest
pub record Content : Type 0 where
  pub number : ℕ
  pub bytes : List ℕ

unfoldable pub parts_of : Keyword → List ℕ → ℕ → Ans Content
parts_of k s at =
    then (name_of k s at) (λ u n.
    then (list_in (sort_of k) s n) (λ v p.
    then (stated_of k s p) (λ m q.
    on_ans (λ w. record { number = m; bytes = (u ++ v) ++ w }) (outputs_of k s q))))

-- what the cases of an answer say, and the bytes that are written
unfoldable pub to_parts : Ans Content → Result Written Failed
to_parts (got c n) = Ok (record { number = c.number; next = n; len = length c.bytes })
to_parts (bad w p) = Err (bad_at w p)
to_parts (deep p) = Err (Deep p)

unfoldable pub parts_bytes : Ans Content → List ℕ
parts_bytes (got c n) = c.bytes
parts_bytes (bad w p) = []
parts_bytes (deep p) = []

abbrev pub PartsWithin : List ℕ → ℕ → Result Written Failed → Type 0
PartsWithin s at (Ok g) = (at ≤ g.next) × (g.next ≤ length s) × (g.len + 10 * at ≤ 10 * g.next + 6)
PartsWithin s at (Err f) = Unit {0}

pub record PartsAre (s : List ℕ) (at : ℕ) (k : Keyword) (b : List ℕ) (r : Result Written Failed) : Type 0 where
  pub same : r ≡ to_parts (parts_of k s at)
  pub within : PartsWithin s at r
  pub wrote : Begins b (parts_bytes (parts_of k s at))

-- what follows the keyword
unfoldable pub body_of : Keyword → List ℕ → ℕ → Ans (List ℕ)
body_of k s at = then (parts_of k s at) (λ c n. on_ans (λ _. declaration_of k c.number c.bytes) (end s n))

-- a record that is written from the beginning
pub record Whole (b : List ℕ) (a : Ans (List ℕ)) (r : Read) : Type 0 where
  pub same : r ≡ to_read a
  pub wrote : Begins b (bytes_of a)
