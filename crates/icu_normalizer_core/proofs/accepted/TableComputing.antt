-- What opens the definitions of canonical tables, so that rows of them compute.
use Rattle.icu_normalizer_core.specs.BuiltIn.{syllable_step, syllable_of, singled_out, built_in_step, built_in_class}
use Rattle.icu_normalizer_core.specs.Canonical.{put_in_order, marks_in_order, decomposed, composing, recomposed, composed}
use Rattle.icu_normalizer_core.specs.CanonicalWords.{is_word, list_at, is_inside, syllable_letters, built_in_full, class_of_word, full_of_word}
use Rattle.icu_normalizer_core.specs.CanonicalLists.{listed_step, listed_pair, step_in, canonical_of}

unfoldable pub computing : Unit {0}
unfolding syllable_step syllable_of singled_out built_in_step built_in_class put_in_order marks_in_order decomposed composing recomposed composed is_word list_at is_inside syllable_letters built_in_full class_of_word full_of_word listed_step listed_pair step_in canonical_of
computing = tt
