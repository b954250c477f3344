-- Compiled tables have none of the faults of tables.
use Rattle.std.proofs.Common.{◌≡◌, ℕ, inl, inr, ◌==◌, ◌||◌, Bool, true, false, List, Option, Some, None, ap}
use Rattle.std.specs.Prelude.{IfSome, MatchOption}
use Rattle.std.specs.Bool.{IsTrue}
use Rattle.std.specs.Char.{IsScalar}
use Rattle.std.proofs.lemmas.Bool.{or_right}
use Rattle.icu_normalizer_core.specs.Canonical.{Canonical}
use Rattle.icu_normalizer_core.specs.Sameness.{AreSameCanonical}
use Rattle.icu_collator_types.specs.declared.elements.word_tags.Tag.TheVariants.{Implicit}
use Rattle.icu_collator_core.specs.declared.check.layers.Layer.{Layer}
use Rattle.icu_collator_core.specs.declared.check.layers.Layer.TheVariants.{Root, Tailoring}
use Rattle.icu_collator_core.specs.declared.tables.CollationTables.{CollationTables}
use Rattle.icu_collator_core.specs.declared.tables.data.CollationData.{CollationData}
use Rattle.icu_collator_core.specs.Acceptance.{IsAccepted}
use Rattle.icu_collator_core.specs.ContextFaults.{HasContexts}
use Rattle.icu_collator_core.specs.Defaults.{special_primary}
use Rattle.icu_collator_core.specs.Pools.{Pools}
use Rattle.icu_collator_core.specs.TableFaults.{AllPassIn, HasCell, HasIndices, HasWord}
use Rattle.icu_collator_core.specs.TableMeaning.{fallback, pools_of, weights_of, word_at, word_in}
use Rattle.icu_collator_core.specs.WeightRules.{AreSoundWeights}
use Rattle.icu_collator_core.specs.WordForms.{IsWord, has_form, is_digit_word, is_fallback, keeps_special, states_primary}
use Rattle.icu_collator_core.specs.WordWeights.{HasWeights}
use Rattle.icu_collator_core.proofs.checks.UnrecordedLemmas.{unrecorded_is_inside, unrecorded_is_sound, unrecorded_is_word, unrecorded_keeps_rules}
use Rattle.collate_lines.specs.Record.{Record}
use Rattle.collate_rules.specs.Accepted.{AreAccepted}
use Rattle.collate_rules.specs.KeptSettings.{AreSoundlySet}
use Rattle.collate_rules.specs.Meaning as lines
use Rattle.collate_compile.specs.Compiled.{AreCompiledFrom}
use Rattle.collate_compile.specs.Layers.{IsTailoringOf}
use Rattle.collate_compile.specs.LineSayings.{is_tailored, ranged_saying}
use Rattle.collate_compile.proofs.laws.ApartLemmas.{weights_apart}
use Rattle.collate_compile.proofs.laws.CompiledCaseLemmas.{IsCase, root_case, tailoring_case}
use Rattle.collate_compile.proofs.laws.CompiledContextLemmas.{keeps_rules, ranged_keeps_rules}
use Rattle.collate_compile.proofs.laws.MeaningLemmas.{saying_means}
use Rattle.collate_compile.proofs.laws.CompiledSamenessLemmas.{digit_same}
use Rattle.collate_compile.proofs.laws.CompiledSettingLemmas.{all_jamo_pass, diacritics_pass, primaries_pass, reordering_passes}
use Rattle.collate_compile.proofs.laws.CompiledWordLemmas.{range_of_lines, saying_of_lines, words_sound}

-- a word of the root is one of a tailoring
word_of_layer : (layer : Layer) (pools : Pools) (word : ℕ) → IsWord Root pools word → IsWord layer pools word
word_of_layer layer pools word (inl digit) = inl (or_right (is_fallback layer word) (is_digit_word pools word) digit)
word_of_layer layer pools word (inr other) = inr other

plain_kept : (c word : ℕ) → special_primary c ≡ None → IsTrue (keeps_special c word)
plain_kept c word plain =
    ap (λ (o : Option ℕ). elim o as (λ _. Bool) [ Some p ↦ (word == fallback) || (has_form Implicit word || states_primary p word) | None ↦ true ]) plain

module _
    (records : List Record)
    (canonical : Canonical)
    (tables : CollationTables)
    (accepted : AreAccepted records)
    (sound : AreSoundWeights (lines.weights_of records))
    (soundly : AreSoundlySet records)
    (same : AreSameCanonical canonical (lines.canonical_of records))
    (compiled : AreCompiledFrom records tables) where
  -- ---- One character

  module _ (layer : Layer) (source : CollationData) (c : ℕ) (s : IsScalar c) where
    has_word : IsCase records layer source c → HasWord layer source c
    has_word (IsCase.by_lines saying plain is says) =
        (plain_kept c (word_at source c) plain, word_of_layer layer (pools_of source) (word_at source c) says.form)
    has_word (IsCase.by_range bits plain is says) =
        (plain_kept c (word_at source c) plain, word_of_layer layer (pools_of source) (word_at source c) says.form)
    has_word (IsCase.by_none none) = unrecorded_is_word layer (pools_of source) c (word_at source c) none

    has_indices : IsCase records layer source c → HasIndices layer source c
    has_indices (IsCase.by_lines saying plain is says) = says.inside
    has_indices (IsCase.by_range bits plain is says) = says.inside
    has_indices (IsCase.by_none none) = unrecorded_is_inside layer (pools_of source) (word_at source c) none

    has_contexts : IsCase records layer source c → HasContexts canonical tables layer source c
    has_contexts (IsCase.by_lines saying plain is says) =
        keeps_rules records accepted canonical same (weights_of canonical tables).digit
        (digit_same records canonical tables accepted sound compiled) c s
        (word_in source c) (saying_means records accepted sound c s (word_in source c) saying is says) saying is says
    has_contexts (IsCase.by_range bits plain is says) =
        ranged_keeps_rules canonical (weights_of canonical tables).digit (word_in source c) c bits says
    has_contexts (IsCase.by_none none) =
        unrecorded_keeps_rules canonical (weights_of canonical tables).digit layer (pools_of source) c
        (word_at source c) none

    has_weights : IsCase records layer source c → HasWeights tables.special_primaries layer source c
    has_weights (IsCase.by_lines saying plain is says) =
        words_sound records c (pools_of source) (word_at source c) saying (saying_of_lines records c saying is) says
        tables.special_primaries compiled.special_primaries accepted sound s
    has_weights (IsCase.by_range bits plain is says) =
        words_sound records c (pools_of source) (word_at source c) (ranged_saying bits)
        (range_of_lines records c bits is) says
        tables.special_primaries compiled.special_primaries accepted sound s
    has_weights (IsCase.by_none none) =
        unrecorded_is_sound tables.special_primaries layer (pools_of source) c (word_at source c) none

  -- ---- All characters

  all_pass : (Passes : Layer → CollationData → ℕ → Type 0)
      → ((layer : Layer) (source : CollationData) (c : ℕ) → IsScalar c → IsCase records layer source c → Passes layer source c)
      → AllPassIn tables Passes
  all_pass Passes passes = (
    λ c s. passes Root tables.root c s (root_case records accepted c tables.root compiled.root s),
    at tables.tailoring compiled.tailoring,
  )
    where
      at : (o : Option CollationData) → MatchOption o ((d : ℕ) → is_tailored records d ≡ false) (IsTailoringOf records)
          → IfSome o (λ source. (c : ℕ) → IsScalar c → Passes Tailoring source c)
      at None none = tt
      at (Some source) of_source =
          λ c s. passes Tailoring source c s (tailoring_case records accepted c source of_source s)

  all_cells : AllPassIn tables HasCell
  all_cells = (compiled.root.cells, at tables.tailoring compiled.tailoring)
    where
      at : (o : Option CollationData) → MatchOption o ((d : ℕ) → is_tailored records d ≡ false) (IsTailoringOf records)
          → IfSome o (λ source. (c : ℕ) → IsScalar c → HasCell Tailoring source c)
      at None none = tt
      at (Some source) of_source = of_source.cells

  pub compiled_accepted : IsAccepted canonical tables
  compiled_accepted = record {
    characters = record {
      cells = all_cells;
      words = all_pass HasWord has_word;
      indices = all_pass HasIndices (λ layer source c s. has_indices layer source c s);
      contexts = all_pass (HasContexts canonical tables) has_contexts;
      weights = all_pass (HasWeights tables.special_primaries) has_weights;
    };
    apart = weights_apart records accepted sound tables compiled;
    diacritics = diacritics_pass records tables compiled;
    jamo = all_jamo_pass records sound tables compiled;
    reordering = reordering_passes records soundly tables compiled;
    special_primaries = primaries_pass records soundly tables.special_primaries compiled.special_primaries;
  }
