use Rattle.std.proofs.Common.{◌≡◌, [], true, sym, ◌∙◌, arith}
use Rattle.icu_normalizer_core.specs.BuiltIn.{is_syllable}
use Rattle.icu_normalizer_core.proofs.building.CharacterWordLemmas.{mark_word, not_singled, singled_word, syllable_class, syllable_word, unlisted_step, zero_word}
use Rattle.icu_normalizer_core.proofs.builder.built_words.unlisted_word.Goals as goal

pub returns-then-is_syllable-clause-says : goal.returns-then-is_syllable-clause-says
returns-then-is_syllable-clause-says c = λ s24.
    let on : is_syllable c.args.c ≡ true = sym c.is_syllable.ensures ∙ c.if-is_syllable.true in
    syllable_word c.args.class [] s24 c.args.c on (sym c.requires.class ∙ syllable_class c.args.c c.args.class on)

pub returns-then-is_singled_out-clause-says : goal.returns-then-is_singled_out-clause-says
returns-then-is_singled_out-clause-says c = λ s24.
    singled_word c.args.class c.args.class [] s24 c.args.c (sym c.is_singled_out.ensures ∙ c.if-is_singled_out.true) (sym c.requires.class)

pub returns-then-class-eq0-clause-says : goal.returns-then-class-eq0-clause-says
returns-then-class-eq0-clause-says c = λ s24.
    zero_word c.args.class [] s24 c.args.c c.if-class-eq0.true (sym c.is_syllable.ensures ∙ c.if-is_syllable.false)
    (not_singled c.args.c c.is_singled_out.result c.is_singled_out.ensures c.if-is_singled_out.false) (unlisted_step [] c.args.c (λ i h. absurd (omega arith)))

pub returns-else-class-eq0-clause-says : goal.returns-else-class-eq0-clause-says
returns-else-class-eq0-clause-says c = λ s24.
    mark_word c.args.class [] s24 c.args.c (let h = c.if-class-eq0.false in omega arith) c.requires.bound (sym c.is_syllable.ensures ∙ c.if-is_syllable.false)
    (not_singled c.args.c c.is_singled_out.result c.is_singled_out.ensures c.if-is_singled_out.false) (unlisted_step [] c.args.c (λ i h. absurd (omega arith)))
