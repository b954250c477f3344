-- Words that record nothing of a character, whatever its code: most characters have one of them.
use Rattle.std.specs.Prelude.{ℕ, Bool, ◌==◌, ◌||◌}
use Rattle.icu_collator_core.specs.declared.check.layers.Layer.{Layer}
use Rattle.icu_collator_core.specs.WordForms.{is_fallback}

-- the word of a character whose primary its code point gives
abbrev pub implicit : ℕ
implicit = 0xcf

-- a word records nothing of the character: that is implicit, or left to the root
abbrev pub records_nothing : Layer → ℕ → Bool
records_nothing layer word = (word == implicit) || is_fallback layer word
