use Rattle.std.proofs.Common.{◌≡◌, ◌∙◌, ◌∷◌, ◌&&◌, ℕ, ap, false, arith, rules, sym}
use Rattle.std.specs.Prelude.{nat_le, nat_lt}
use Rattle.std.specs.Char.{IsScalar}
use Rattle.std.proofs.lemmas.Bool.Decides.{nat_tests}
use Rattle.icu_normalizer_core.specs.Decoding.{utf16_chars}
use Rattle.icu_collator.proofs.SurrogateLemmas.{one_spells}
use Rattle.icu_collator.proofs.encodings.utf16.short_char.Goals as goal

pub returns : goal.returns
returns c =
    let unit = c.in_ok-unit.unit.now in
    let rest = c.in_ok-unit.rest.now in
    let first = c.in_ok-first.first in
    let units_are : c.args.units.now ≡ unit ∷ rest = search rules in
    let same : first ≡ unit = search rules in
    let scalar : IsScalar unit = search rules in
    let single : (nat_le 0xD800 unit && nat_lt unit 0xE000) ≡ false = grind (arith, nat_tests, scalar) in
    ap utf16_chars units_are ∙ one_spells unit rest single ∙ ap (λ (x : ℕ). x ∷ utf16_chars rest) (sym same)
