use native.Mathlib.Omega.{arith}
use mathlib.Core.List.{◌++◌}
use lib.ListN.{length-append}
use Rattle.model.specs.Full.{bracketed, returns_text}
use Rattle.abi.proofs.Going.{going-first, going-next, going-last, going-space, going-room}
use Rattle.full.proofs.Line.write.Goals as goal

pub write_word-n-requires : goal.write_word-n-requires
write_word-n-requires c =
    let l = c.args.self.now in
    let p = c.requires.is in
    omega (arith, c.requires.room, length-append l.front.now (l.name.now ++ (bracketed p.ins ++ (l.back.now ++ returns_text p.outs))))

pub write_word-n-requires-2 : goal.write_word-n-requires-2
write_word-n-requires-2 c = going-space _ _ _ _ _ _ (going-first _ _ _ _ _ c.requires.room c.write_word-n.ensures)

pub write_fields-n-requires : goal.write_fields-n-requires
write_fields-n-requires c =
    let p = c.requires.is in
    let named = going-next _ _ _ _ _ _ (going-first _ _ _ _ _ c.requires.room c.write_word-n.ensures) _ _ c.write_word-n-2.ensures in
    record { fields = p.ins; are = p.inputs.is; room = going-space _ _ (bracketed p.ins) _ _ _ named }

pub write_word-n-requires-3 : goal.write_word-n-requires-3
write_word-n-requires-3 c =
    let p = c.requires.is in
    let named = going-next _ _ _ _ _ _ (going-first _ _ _ _ _ c.requires.room c.write_word-n.ensures) _ _ c.write_word-n-2.ensures in
    let fits = going-space _ _ (bracketed p.ins) _ _ _ named in
    going-space _ _ _ _ _ _ (going-next _ _ (bracketed p.ins) _ _ _ named _ _ (c.write_fields-n.ensures.put p.ins p.inputs.is fits))

pub write_returns-requires : goal.write_returns-requires
write_returns-requires c =
    let p = c.requires.is in
    let named = going-next _ _ _ _ _ _ (going-first _ _ _ _ _ c.requires.room c.write_word-n.ensures) _ _ c.write_word-n-2.ensures in
    let fits = going-space _ _ (bracketed p.ins) _ _ _ named in
    let listed = going-next _ _ (bracketed p.ins) _ _ _ named _ _ (c.write_fields-n.ensures.put p.ins p.inputs.is fits) in
    record { fields = p.outs; are = p.outputs; room = going-room _ _ _ _ _ (going-next _ _ _ _ _ _ listed _ _ c.write_word-n-3.ensures) }

pub returns : goal.returns
returns c p h =
    let named = going-next _ _ _ _ _ _ (going-first _ _ _ _ _ h c.write_word-n.ensures) _ _ c.write_word-n-2.ensures in
    let fits = going-space _ _ (bracketed p.ins) _ _ _ named in
    let listed = going-next _ _ (bracketed p.ins) _ _ _ named _ _ (c.write_fields-n.ensures.put p.ins p.inputs.is fits) in
    let backed = going-next _ _ _ _ _ _ listed _ _ c.write_word-n-3.ensures in
    going-last _ _ _ _ _ backed _ _ (c.write_returns.ensures.put p.outs p.outputs (going-room _ _ _ _ _ backed))
