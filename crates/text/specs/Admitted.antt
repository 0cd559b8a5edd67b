-- Whether a text is read at all.
-- Assumes nothing.
use Rattle.std.specs.Prelude.{◌≡◌, true, false, List, ℕ, ◌≤◌, ltb, length, Option, None, Some, Result, Ok, Err}
use Rattle.model.specs.declared.Refusal.TheVariants.{TooLong, NotUtf8}
use Rattle.model.specs.declared.Refused.{Refused}
use Rattle.model.specs.Answer.{at_start, refusal_at}
use Rattle.model.specs.Text.{valid_length}
use Rattle.model.specs.Reading.{longest_text}

-- why a text is refused before any reading, if it is: "8 over 4,096 bytes, position 0. 9 not UTF-8, position the length of the longest valid prefix."
unfoldable pub refused_first : List ℕ → Option Refused
refused_first s =
    elim (ltb longest_text (length s)) [
      | true ↦ Some (at_start TooLong)
      | false ↦ elim (ltb (valid_length s) (length s)) [ true ↦ Some (refusal_at NotUtf8 (valid_length s)) | false ↦ None ]
    ]

abbrev pub AdmittedIs : List ℕ → Result (Unit {0}) Refused → Type 0
AdmittedIs s (Ok _) = (length s ≤ longest_text) × (refused_first s ≡ None)
AdmittedIs s (Err r) = refused_first s ≡ Some r
