-- What the code finds of words, characters, marks and names, by the definitions.
-- Assumes nothing.
use Rattle.std.specs.Prelude.{◌≡◌, Bool, List, ℕ, ◌+◌, ◌≤◌, ◌<◌, length, drop, Option, None, Some, Result, Ok, Err}
use Rattle.model.specs.declared.Mark.{Mark}
use Rattle.model.specs.declared.Refusal.{Refusal}
use Rattle.model.specs.declared.Refused.{Refused}
use Rattle.model.specs.declared.Sort.{Sort}
use Rattle.model.specs.Mark.{mark_number}
use Rattle.model.specs.Text.{skip, peek, word_length}
use Rattle.model.specs.Tree.{unmarked}
use Rattle.model.specs.Parser.{Found, found, missing, Ans, got, bad, look, take_char, word, word_end, option, optional_name}
use Rattle.model.specs.Reading.{marks_by}
use Rattle.text.specs.Found.{byte_or_end}
use Rattle.fields.specs.declared.Seen.{Seen}

-- the place behind the word that stands at a place, which is that place if none does
pub record EndIs (s : List ℕ) (a e : ℕ) : Type 0 where
  pub end : e ≡ a + word_length (drop a s)
  pub order : a ≤ e
  pub inside : e ≤ length s

-- the word w behind any blanks, and the place behind it, or the one before the blanks if none stands there
pub record WordIs (s : List ℕ) (at : ℕ) (w : List ℕ) (n : ℕ) : Type 0 where
  pub bytes : w ≡ word s at
  pub end : 0 < length w → n ≡ word_end s at
  pub stays : length w ≡ 0 → n ≡ at
  pub low : at + length w ≤ n
  pub inside : n ≤ length s

-- what stands behind any blanks: 256 is no byte
pub record Looked (s : List ℕ) (at : ℕ) (v : Seen) : Type 0 where
  pub place : v.at ≡ skip s at
  pub byte : byte_or_end v.byte ≡ peek s v.at
  pub none : byte_or_end v.byte ≡ 256 → v.byte ≡ None
  pub low : at ≤ v.at
  pub inside : v.at ≤ length s

-- what the cases of a place say that may be missing
abbrev pub to_place : Option ℕ → Found (Unit {0})
to_place None = missing
to_place (Some n) = found tt n

-- the place behind the character c, if it stands there, in whichever text it was looked for
pub record BehindIs (v : Seen) (c : ℕ) (r : Option ℕ) : Type 0 where
  pub same : (s : List ℕ) (at : ℕ) → Looked s at v → to_place r ≡ look c s at

-- what the cases of an answer say that has nothing but a place
abbrev pub to_taken : Result ℕ Refused → Ans (Unit {0})
to_taken (Ok n) = got tt n
to_taken (Err r) = bad r.refusal r.position

-- the same, or why it does not stand there
pub record TakenIs (v : Seen) (c : ℕ) (w : Refusal) (r : Result ℕ Refused) : Type 0 where
  pub same : (s : List ℕ) (at : ℕ) → Looked s at v → to_taken r ≡ take_char c w s at

-- a mark and a name, both optional, behind `at`, and the place behind them
pub record NamedIs (s : List ℕ) (at : ℕ) (sort : Sort) (l : Bool) (m : Mark) (w : List ℕ) (n : ℕ) : Type 0 where
  pub between : ℕ
  pub marked : option (marks_by sort l) unmarked s at ≡ got (mark_number m) between
  pub named : optional_name s between ≡ got w n
  pub low : at + length w ≤ n
  pub inside : n ≤ length s
