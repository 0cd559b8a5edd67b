-- What the writers leave.
-- Assumes nothing.
use Rattle.std.specs.Prelude.{List, ◌++◌, ℕ}
use Rattle.kinds.specs.Bytes.{ascii}
use Rattle.kinds.specs.Decimal.{decimal}
use Rattle.model.specs.declared.Refusal.{Refusal}
use Rattle.model.specs.declared.Call.{Call}
use Rattle.model.specs.Reading.{wanted}
use Rattle.model.specs.Answer.{Output}
use Rattle.model.specs.Message.{wording, context, escaped, message_by}

-- what follows the wording
unfoldable pub placed : List ℕ → ℕ → List ℕ
placed s p = ascii " at position " ++ (decimal p ++ (ascii "(\"" ++ (escaped (context s p) ++ ascii "\")")))

-- what is written where a call refuses a text
unfoldable pub display : Call → List ℕ → Refusal → ℕ → Output
display c s w p = message_by s p (wording w (wanted c s))
