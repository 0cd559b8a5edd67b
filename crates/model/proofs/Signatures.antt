-- Order 13 of the definitions of the calls: a declaration's signature text is the text of the signature that it says, and its name is a word.
-- Assumes nothing.
use mathlib.Core.Path.{◌≡◌, refl}
use mathlib.Core.Bool.{true}
use mathlib.Core.List.{List}
use Rattle.std.specs.Prelude.{Some}
use Prim.Native.Nat.{ℕ}
use Rattle.kinds.specs.Bytes.{is_word}
use Rattle.kinds.specs.Signatures.{Signature, signature}
use Rattle.kinds.proofs.Logic.{left, right}
use Rattle.model.specs.Tree.{Declaration, signature_of}
use Rattle.model.specs.Record.{decode, is_declaration, well_formed, on_option}
use Rattle.model.specs.Line.{signature_text}
use Rattle.model.specs.Answer.{writes}
use Rattle.model.specs.Calls.{signature_output}

pub signature-text : (d : Declaration) → signature_text d ≡ on_option signature (signature_of d)
unfolding signature_text signature_of signature
signature-text (Declaration.function m nm ins outs) = refl
signature-text (Declaration.constructor m ins) = refl
signature-text (Declaration.event a nm ins) = refl
signature-text (Declaration.error nm ins) = refl

-- what the signature call writes of a record that says it
pub signature-written : (b : List ℕ) (d : Declaration) (f : Signature) → decode b ≡ Some d → signature_of d ≡ Some f → signature_output b ≡ writes (signature f)
unfolding signature_output
signature-written b d f e s = rw (signature_output, e, signature-text d, s)

word_in : (d : Declaration) (f : Signature) → is_declaration d ≡ true → signature_of d ≡ Some f → is_word f.name ≡ true
unfolding is_declaration signature_of
word_in (Declaration.function m nm ins outs) f h e =
    let w : is_word nm ≡ true = search (left, right) in
    cc
word_in (Declaration.constructor m ins) f h e = cc
word_in (Declaration.event a nm ins) f h e = cc
word_in (Declaration.error nm ins) f h e = cc

pub signature-named : (d : Declaration) (f : Signature) → well_formed d ≡ true → signature_of d ≡ Some f → is_word f.name ≡ true
unfolding well_formed
signature-named d f h e = word_in d f (left _ h) e
