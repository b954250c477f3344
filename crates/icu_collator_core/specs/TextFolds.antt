-- What the tests of contexts fold the characters of keys to, one after another.
use Rattle.std.specs.Prelude.{ℕ, ◌+◌, Bool, true, false, cond, not, ◌&&◌, ◌||◌, ◌==◌, leb, List, Option, is_some, option_map}
use Rattle.std.specs.Int.{cast_unsigned, w32}
use Rattle.std.specs.Option.{option_and_then}
use Rattle.icu_char16trie.specs.Cursors.{answer_to, answered, place_after, units_of}
use Rattle.icu_char16trie.specs.declared.TrieResult.{TrieResult}
use Rattle.icu_normalizer_core.specs.Canonical.{Canonical, is_starter}
use Rattle.icu_collator_core.specs.declared.check.flags.Answered.{Answered}
use Rattle.icu_collator_core.specs.declared.check.flags.Question.{Question}
use Rattle.icu_collator_core.specs.declared.check.flags.Question.TheVariants.{BeginsWithMark, EndsInNoMark, HoldsNoStarter}
use Rattle.icu_collator_core.specs.declared.check.records.Recorded.{Recorded}
use Rattle.icu_collator_core.specs.declared.check.suffixes.Order.{Order}
use Rattle.icu_collator_core.specs.declared.check.suffixes.Order.TheVariants.{Starters, Marks, Mixed}
use Rattle.icu_collator_core.specs.declared.unsafe_characters.context_texts.Met.{Met}
use Rattle.icu_collator_core.specs.ContextRules.{is_prefix_character, longest_suffix}
use Rattle.icu_collator_core.specs.Elements.{longest_prefix}
use Rattle.icu_collator_core.specs.Pools.{Pools, elements_of_word}

-- ## Prefixes

-- how many characters a prefix has with one more, four where it is none
abbrev pub prefix_with : Canonical → (ℕ → Option ℕ) → ℕ → ℕ → ℕ
prefix_with canonical digit count c = cond (leb count 2 && is_prefix_character canonical digit c) (count + 1) 4

abbrev pub is_prefix_count : ℕ → Bool
is_prefix_count count = leb count longest_prefix

-- ## Suffixes

-- how many characters a text has with one more, up to eight
abbrev pub count_with : ℕ → ℕ → ℕ
count_with count c = cond (leb count longest_suffix) (count + 1) count

abbrev pub is_short_count : ℕ → Bool
is_short_count count = leb count longest_suffix

-- which marks stand after which starters, with one character more
abbrev pub order_with : Canonical → Order → ℕ → Order
order_with canonical Starters c = cond (is_starter canonical c) Starters Marks
order_with canonical Marks c = cond (is_starter canonical c) Mixed Marks
order_with canonical Mixed c = Mixed

abbrev pub is_ordered : Order → Bool
is_ordered Starters = true
is_ordered Marks = true
is_ordered Mixed = false

-- an answer has a word that says elements
abbrev pub says_elements : Pools → TrieResult → Bool
says_elements pools answer = is_some (option_and_then (elements_of_word pools) (option_map (cast_unsigned w32) (answered answer)))

-- what is recorded with one character more: a text that ends in a mark has to be recorded without it
abbrev pub recorded_with : Canonical → Pools → List ℕ → Recorded → ℕ → Recorded
recorded_with canonical pools units before c = record {
  place = place_after units before.place (units_of c);
  is_recorded = says_elements pools (answer_to units before.place.state (units_of c));
  is_kept = is_starter canonical c || before.is_recorded;
}

abbrev pub is_kept : Recorded → Bool
is_kept recorded = recorded.is_kept

-- ## Flags

-- what is answered with one character more
abbrev pub answered_with : Canonical → Question → Answered → ℕ → Answered
answered_with canonical BeginsWithMark before c = record { is_empty = false; is_yes = cond before.is_empty (not (is_starter canonical c)) before.is_yes }
answered_with canonical EndsInNoMark before c = record { is_empty = false; is_yes = is_starter canonical c }
answered_with canonical HoldsNoStarter before c = record { is_empty = false; is_yes = before.is_yes && not (is_starter canonical c) }

-- what is answered for no characters
abbrev pub answered_first : Question → Answered
answered_first BeginsWithMark = record { is_empty = true; is_yes = false }
answered_first EndsInNoMark = record { is_empty = true; is_yes = true }
answered_first HoldsNoStarter = record { is_empty = true; is_yes = true }

abbrev pub is_yes : Answered → Bool
is_yes answered = answered.is_yes

-- ## Unsafe characters

-- what was met with one character more: how many, up to eight, and the last of so many
abbrev pub met_with : ℕ → Met → ℕ → Met
met_with many before c = record {
  count = count_with before.count c;
  character = cond (count_with before.count c == many) c before.character;
}

-- there were so many, and not too many
abbrev pub has_met : ℕ → Met → Bool
has_met many met = leb met.count longest_suffix && leb many met.count
