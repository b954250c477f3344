-- Options at another strength.
use Rattle.icu_collator_types.specs.declared.options.Strength.{Strength}
use Rattle.icu_collator_types.specs.declared.options.ResolvedCollatorOptions.{ResolvedCollatorOptions}

-- the options with this strength in the place of theirs
abbrev pub at_strength : ResolvedCollatorOptions → Strength → ResolvedCollatorOptions
at_strength options s = record options { strength = s }
