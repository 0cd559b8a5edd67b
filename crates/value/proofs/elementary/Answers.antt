use Rattle.std.proofs.Common.{◌≡◌, sym, rules}
use Rattle.std.specs.Option.{option_map}
use Rattle.value.specs.declared.Base.TheVariants as base
use Rattle.value.proofs.Words.{is-uint, is-int, is_word, is-fixed, is-unknown}
use Rattle.value.proofs.elementary.Goals as goal

pub returns-in-Some : goal.returns-in-Some
returns-in-Some c =
    let m : c.map.result ≡ option_map base.Uint c.width_behind.result = search rules in
    rw (c.ok_or.ensures.value, m, c.width_behind.ensures, c.in-Some.ensures.cases.1) (is-uint _ c.in-Some.ensures.cases.0)

pub returns-in-Some-strip_prefix : goal.returns-in-Some-strip_prefix
returns-in-Some-strip_prefix c =
    let m : c.map-in-Some-strip_prefix.result ≡ option_map base.Int c.width_behind-in-Some-strip_prefix.result = search rules in
    rw (c.ok_or-in-Some-strip_prefix.ensures.value, m, c.width_behind-in-Some-strip_prefix.ensures, c.in-Some-strip_prefix.ensures.cases.1) (is-int _ c.in-Some-strip_prefix.ensures.cases.0)

pub returns-in-Some-word : goal.returns-in-Some-word
returns-in-Some-word c = is_word _ c.in_default.ensures.cases c.in_default-strip_prefix.ensures.cases _ c.in-Some-word.ensures

pub returns-in-Some-strip_prefix-2 : goal.returns-in-Some-strip_prefix-2
returns-in-Some-strip_prefix-2 c =
    let m : c.map-in-Some-strip_prefix-2.result ≡ option_map base.FixedBytes c.length_behind.result = search rules in
    rw (c.ok_or-in-Some-strip_prefix-2.ensures.value, m, c.length_behind.ensures, c.in-Some-strip_prefix-2.ensures.cases.1) (is-fixed _ c.in-Some-strip_prefix-2.ensures.cases.0 (sym c.in_default-word.ensures))

pub returns : goal.returns
returns c = is-unknown _ c.in_default.ensures.cases c.in_default-strip_prefix.ensures.cases (sym c.in_default-word.ensures) c.in_default-strip_prefix-2.ensures.cases
