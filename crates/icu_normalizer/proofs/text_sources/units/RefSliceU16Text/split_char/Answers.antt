use Rattle.std.proofs.Common.{◌∷◌, refl, ap, ◌∙◌, arith}
use Rattle.std.proofs.lemmas.List.{nil_from_length}
use Rattle.icu_normalizer_core.specs.Decoding.{utf16_chars}
use Rattle.icu_normalizer_core.proofs.decoded.Utf16Lemmas.{utf16_chars-nil}
use Rattle.icu_normalizer.proofs.passed.FormTextLemmas.{utf16_one, utf16_two, utf16_none}
use Rattle.icu_normalizer.proofs.text_sources.units.RefSliceU16Text.split_char.Goals as goal

pub returns-in_default-clause-none : goal.returns-in_default-clause-none
returns-in_default-clause-none c = let none = nil_from_length _ c.in_default.ensures.cases in (none, ap utf16_chars none ∙ utf16_chars-nil)

pub returns-in-Some-from_u32-clause-some : goal.returns-in-Some-from_u32-clause-some
returns-in-Some-from_u32-clause-some c = utf16_one _ _ _ _ c.in-Some.ensures.cases.0 (omega arith) c.in-Some-from_u32.ensures.value.1 c.in-Some-from_u32.ensures.value.0

pub returns-in-Some-first_pair-clause-some : goal.returns-in-Some-first_pair-clause-some
returns-in-Some-first_pair-clause-some c =
    let pair = c.in-Some-first_pair.ensures in utf16_two _ _ _ _ _ _ pair.2 refl pair.3 pair.4

pub returns-in-None-clause-some : goal.returns-in-None-clause-some
returns-in-None-clause-some c =
    utf16_none _ _ _ c.in-Some.ensures.cases.0 (omega arith) c.in_default-from_u32.ensures.value (λ low more e. c.in-None.ensures _ low more (c.in-Some.ensures.cases.0 ∙ ap (λ l. c.in-Some.unit.now ∷ l) e))
