-- One byte over the limit tells as much as all that follows it.
-- Assumes nothing.
use Rattle.std.specs.Prelude.{◌≡◌, Bool, true, false, List, [], ℕ, ◌+◌, ◌<◌, take, length, Option, None, Some, IfSome}
use Rattle.std.proofs.Common.{arith, ap, sym, refl, ◌∙◌}
use Rattle.std.proofs.lemmas.List.{take_all, length-take-le}
use Rattle.std.specs.Option.{option_map}
use Rattle.std.specs.Io.KnownBytes.{Appends}
use lib.Dec.{ltb}
use borrow.Author.Tests.{lt-ltb, ltb-true, ltb-false}
use Rattle.model.specs.declared.Refusal.TheVariants.{TooLong}
use Rattle.model.specs.Parser.{bad}
use Rattle.model.specs.Reading.{longest_text, admit, parse}
use Rattle.model.specs.Deposit.{deposit_by, deposit_line}

line-over : (text : List ℕ) → longest_text < length text → deposit_line text ≡ deposit_by (bad TooLong 0)
unfolding deposit_line parse admit
line-over text h = ap deposit_by (rw (parse, admit, lt-ltb longest_text (length text) h))

line-kept : (bytes : List ℕ) → deposit_line (take (longest_text + 1) bytes) ≡ deposit_line bytes
line-kept bytes = go (ltb longest_text (length bytes)) refl
  where
    go : (over : Bool) → ltb longest_text (length bytes) ≡ over → deposit_line (take (longest_text + 1) bytes) ≡ deposit_line bytes
    go true e =
        let long = ltb-true longest_text (length bytes) e in
        line-over (take (longest_text + 1) bytes) (omega (arith, length-take-le (longest_text + 1) bytes (omega arith))) ∙ sym (line-over bytes long)
    go false e = let short = ltb-false longest_text (length bytes) e in ap deposit_line (take_all (longest_text + 1) bytes (omega arith))

-- what was copied of the known bytes into an empty text
pub line-copied : (n : ℕ) (known : Option (List ℕ)) (text : List ℕ) → n ≡ longest_text + 1 → IfSome (option_map (take n) known) (Appends (Some []) (Some text))
    → IfSome known (λ bytes. deposit_line text ≡ deposit_line bytes)
line-copied n None text e h = tt
line-copied n (Some bytes) text e h = rw (h, e) (line-kept bytes)
