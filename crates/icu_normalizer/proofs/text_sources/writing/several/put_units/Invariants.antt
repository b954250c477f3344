use Rattle.std.proofs.Common.{◌≡◌, ◌≤◌, take}
use Rattle.icu_normalizer.specs.Texts.{encode_utf16_all}
use Rattle.icu_normalizer.proofs.text_sources.writing.several.put_units.Given as goal

abbrev pub invariant-loop-c : goal.invariant-loop-c
invariant-loop-c l =
    (l.count ≡ l.c-index)
    × (l.count ≤ 64)
    × (take l.count l.units ≡ encode_utf16_all (take l.count l.chars))
