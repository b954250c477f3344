-- Compiled tables say of weights and settings what their lines say.
use Rattle.std.proofs.Common.{◌≡◌, ℕ, true, ◌&&◌, List, [], ◌∷◌, Option, Some, None, refl, sym, ◌∙◌, arith, All}
use Rattle.std.specs.Char.{IsScalar}
use Rattle.std.proofs.lemmas.Bool.{and_from, and_parts, cond-true}
use Rattle.std.proofs.lemmas.List.Elements.{All-cons, All-head, All-nil, All-tail}
use lib.Utf8.{scalar, scalars}
use Rattle.icu_normalizer_core.specs.Canonical.{Canonical}
use Rattle.icu_collator_types.specs.declared.elements.Element.{Element}
use Rattle.icu_collator_core.specs.declared.tables.CollationTables.{CollationTables}
use Rattle.icu_collator_core.specs.SameSettings.{AreSameWithOptions}
use Rattle.icu_collator_core.specs.Sameness.{AreSameWeights}
use Rattle.icu_collator_core.specs.TableMeaning.{collation_of, counting_word, digit_by, ranged_by, recorded_by, recorded_in, weights_of}
use Rattle.icu_collator_core.specs.WeightRules.{AreSoundWeights}
use Rattle.collate_lines.specs.Record.{Record}
use Rattle.collate_rules.specs.Accepted.{AreAccepted}
use Rattle.collate_rules.specs.Meaning as lines
use Rattle.collate_compile.specs.Compiled.{AreCompiledFrom}
use Rattle.collate_compile.proofs.laws.RuleLemmas.{recorded_characters}
use Rattle.collate_compile.proofs.laws.TableMeaningLemmas.{counting_means}

pub scalars_of : (cs : List ℕ) → All IsScalar cs → scalars cs ≡ true
scalars_of [] all = refl
scalars_of (c ∷ cs) all =
    and_from (scalar c) (scalars cs) (All-head IsScalar c cs all) (scalars_of cs (All-tail IsScalar c cs all))

module _
    (records : List Record)
    (canonical : Canonical)
    (tables : CollationTables)
    (accepted : AreAccepted records)
    (sound : AreSoundWeights (lines.weights_of records))
    (compiled : AreCompiledFrom records tables) where
  -- no text is empty
  none_empty : (prefix : List ℕ) → lines.recorded_in records prefix [] ≡ None
  none_empty prefix = at (lines.recorded_in records prefix []) refl
    where
      at : (o : Option (List Element)) → lines.recorded_in records prefix [] ≡ o → o ≡ None
      at None is = refl
      at (Some es) is =
          let some = (recorded_characters records accepted prefix [] es is).some in absurd (omega (arith, some))

  pub recorded_same : (prefix text : List ℕ) → All IsScalar prefix → All IsScalar text
      → (weights_of canonical tables).recorded prefix text ≡ (lines.weights_of records).recorded prefix text
  unfolding recorded_in
  recorded_same prefix [] p q = sym (none_empty prefix)
  recorded_same prefix (c ∷ cs) p q =
      let before = scalars_of prefix p in
      let whole = scalars_of (c ∷ cs) q in
      let both = and_parts (scalar c) (scalars cs) whole in
      cond-true (scalars prefix && scalars (c ∷ cs)) (recorded_by (counting_word canonical tables c) c prefix cs) None
      (and_from (scalars prefix) (scalars (c ∷ cs)) before whole)
      ∙ (counting_means records accepted sound c both.0 canonical tables compiled).recorded prefix cs before both.1

  pub digit_same : (c : ℕ) → IsScalar c → (weights_of canonical tables).digit c ≡ (lines.weights_of records).digit c
  digit_same c s =
      cond-true (scalar c) (digit_by (counting_word canonical tables c)) None s
      ∙ (counting_means records accepted sound c s canonical tables compiled).digit

  ranged_same : (c : ℕ) → IsScalar c → (weights_of canonical tables).recorded [] (c ∷ []) ≡ None
      → (weights_of canonical tables).ranged_primary c ≡ (lines.weights_of records).ranged_primary c
  ranged_same c s none =
      cond-true (scalar c) (ranged_by (counting_word canonical tables c) c) None s
      ∙ (counting_means records accepted sound c s canonical tables compiled).ranged
      (sym (recorded_same [] (c ∷ []) (All-nil IsScalar) (All-cons IsScalar c [] s (All-nil IsScalar))) ∙ none)

  pub same_weights : AreSameWeights (weights_of canonical tables) (lines.weights_of records)
  same_weights = record {
    recorded = recorded_same;
    digit = digit_same;
    ranged_primary = ranged_same;
    is_compressible = compiled.special_primaries.compressible;
    numeric_lead = compiled.special_primaries.numeric;
    dot_above = compiled.settings.dot_above;
  }

pub same_settings : (records : List Record) (canonical : Canonical) (tables : CollationTables)
    → AreCompiledFrom records tables
    → AreSameWithOptions (collation_of canonical tables) (lines.collation_of records)
same_settings records canonical tables compiled = record {
  settings = record {
    reordered = compiled.reordering.moved;
    backward = compiled.settings.backward;
    groups = compiled.special_primaries.groups;
  };
  options = compiled.settings.options;
}
