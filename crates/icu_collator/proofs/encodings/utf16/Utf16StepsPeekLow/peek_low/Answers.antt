use Rattle.std.proofs.Common.{◌≡◌, ◌∙◌, ◌∷◌, ◌&&◌, ap, false, arith, rules, sym}
use Rattle.std.specs.Prelude.{nat_le, nat_lt}
use Rattle.std.proofs.lemmas.Bool.Decides.{nat_tests}
use Rattle.icu_normalizer_core.specs.Decoding.{utf16_chars}
use Rattle.icu_collator.proofs.SurrogateLemmas.{one_spells}
use Rattle.icu_collator.proofs.lists.ListSpelledLemmas.{first_next}
use Rattle.icu_collator.proofs.encodings.utf16.Utf16StepsPeekLow.peek_low.Goals as goal

pub returns-then-unit-lt128 : goal.returns-then-unit-lt128
returns-then-unit-lt128 c = λ low next rest step.
    let unit = c.in-Some.unit.now in
    let behind = c.in-Some._rest.now in
    let units = c.self.inside.units.now in
    let units_are : units ≡ unit ∷ behind = search rules in
    let single : (nat_le 0xD800 unit && nat_lt unit 0xE000) ≡ false = grind (arith, nat_tests) in
    first_next c.args.self.now (utf16_chars behind) unit next rest (sym c.self.view_is ∙ ap utf16_chars units_are ∙ one_spells unit behind single) step
