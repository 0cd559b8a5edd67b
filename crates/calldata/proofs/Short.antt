-- How long the heads of a function's inputs are beside its record.
-- Assumes nothing.
use mathlib.Core.Path.{◌≡◌, refl, ap}
use mathlib.Core.Bool.{Bool, true, false}
use mathlib.Core.List.{List, []}
use Rattle.std.specs.Prelude.{Option, None, Some}
use Prim.Native.Nat.{ℕ, ◌*◌, ◌<◌, ◌≤◌}
use native.Mathlib.Omega.{arith}
use lib.Dec.{ltb}
use lib.ListN.{length, length-append}
use Rattle.kinds.specs.Kind.{bits, octets, int, uint, fixed_bytes, address, bool, function, bytes, string, Kinds}
use Rattle.model.specs.declared.Refusal.{Refusal}
use Rattle.model.specs.declared.Refusal.TheVariants.{CallTooLong}
use Rattle.model.specs.Tree.{Base, Field, field, Fields, no_field, more_fields, kind_of, kinds_of, Declaration}
use Rattle.model.specs.Layout.{little_endian, Bytes}
use Rattle.model.specs.Record.{encode_elementary, encode_base, encode_name, encode_field, encode_fields, encode_list, encode, decode}
use Rattle.model.specs.Answer.{Output, writes, refuses}
use Rattle.model.specs.Calls.{of_record}
use Rattle.model.proofs.Bounds.{field-size}
use Rattle.model.proofs.Pieces.{le_length, record_length}
use Rattle.model.proofs.Records.{decode-exactly}
use Rattle.encoding.specs.Dynamic.{heads_length}
use Rattle.calldata.specs.Calls.{most_bytes, inputs_of, of_inputs, of_function, head_bytes, heads_bytes, heads_by, heads_output}
use Rattle.calldata.proofs.Telling.{head_five}

-- a field's record has at least 20 bytes, and 5 are written of its head
base-least : (b : Base) → 6 ≤ length (encode_base 4 b)
unfolding encode_base encode_elementary
base-least (Base.elementary (int (bits n))) = omega (arith, record_length 4 0x1 (little_endian 2 n))
base-least (Base.elementary (uint (bits n))) = omega (arith, record_length 4 0x2 (little_endian 2 n))
base-least (Base.elementary (fixed_bytes (octets n))) = omega (arith, record_length 4 0x5 (little_endian 2 n))
base-least (Base.elementary address) = omega (arith, record_length 4 0x3 [])
base-least (Base.elementary bool) = omega (arith, record_length 4 0x4 [])
base-least (Base.elementary function) = omega (arith, record_length 4 0x6 [])
base-least (Base.elementary bytes) = omega (arith, record_length 4 0x7 [])
base-least (Base.elementary string) = omega (arith, record_length 4 0x8 [])
base-least (Base.tuple fs) = omega (arith, record_length 4 0x9 (encode_fields 4 fs))

field-long : (f : Field) → 20 ≤ length (encode_field 4 f)
field-long (field m nm b ss) = omega (arith, field-size m nm b ss, base-least b)

heads-low : (fs : Fields) → 4 * length (heads_bytes (kinds_of fs)) ≤ length (encode_fields 4 fs)
unfolding heads_bytes kinds_of encode_fields
heads-low no_field = omega arith
heads-low (more_fields f fs) =
    let heads = length-append (head_bytes (kind_of f)) (heads_bytes (kinds_of fs)) in
    omega (arith, heads-low fs, field-long f, heads, head_five (kind_of f), length-append (encode_field 4 f) (encode_fields 4 fs))

pub never : {A : Type 0} {w : Refusal} {p : ℕ} {u : List ℕ} → refuses w p ≡ writes u → A
never e = let z : ◌≡◌ {A = ℕ} 0 1 = cc in absurd (omega arith)

written : (ks : Kinds) (u : List ℕ) → heads_by ks ≡ writes u → heads_bytes ks ≡ u
unfolding heads_by
written ks u e = go (ltb most_bytes (heads_length ks)) e
  where
    go : (t : Bool) → elim t as (λ _. Output) [ true ↦ refuses CallTooLong 0 | false ↦ writes (heads_bytes ks) ] ≡ writes u → heads_bytes ks ≡ u
    go true f = never f
    go false f = cc

function-long : (m : ℕ) (nm : List ℕ) (ins outs : Fields) → length (encode_fields 4 ins) < length (encode 4 (Declaration.function m nm ins outs))
unfolding encode encode_name encode_list
function-long m nm ins outs = simp (record_length, length-append, le_length) (omega arith)

-- four times what is written is less than the record
pub heads-short : (b u : List ℕ) → Bytes b → heads_output b ≡ writes u → 4 * length u < length b
unfolding heads_output of_function
heads-short b u B e = go (decode b) refl e
  where
    go : (o : Option Declaration) → decode b ≡ o → of_record o (λ d. of_inputs (inputs_of d) heads_by) ≡ writes u → 4 * length u < length b
    go (Some (Declaration.function m nm ins outs)) q f =
        let whole = ap length ((decode-exactly b (Declaration.function m nm ins outs) B).0 q).1 in
        omega (arith, ap length (written (kinds_of ins) u f), heads-low ins, whole, function-long m nm ins outs)
    go (Some (Declaration.constructor m ins)) q f = never f
    go (Some (Declaration.event a nm ins)) q f = never f
    go (Some (Declaration.error nm ins)) q f = never f
    go None q f = never f
