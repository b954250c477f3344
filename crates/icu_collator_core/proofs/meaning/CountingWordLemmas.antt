-- What is so of each word that tables have for a character is so of the word that counts.
use Rattle.std.proofs.Common.{◌≡◌, ℕ, ◌-◌, true, cond, Option, Some, None, refl, subst}
use Rattle.std.specs.Prelude.{◌==◌, slice_index, IfSome}
use Rattle.std.proofs.lemmas.Bool.{cond_both}
use Rattle.icu_normalizer_core.specs.BuiltIn.{is_jamo}
use Rattle.icu_normalizer_core.specs.Canonical.{Canonical}
use Rattle.icu_collator_core.specs.declared.tables.CollationTables.{CollationTables}
use Rattle.icu_collator_core.specs.declared.tables.data.CollationData.{CollationData}
use Rattle.icu_collator_core.specs.TableMeaning.{TableWord, counting_word, diacritic, fallback, pools_of, secondary_word, tailored_word, word_at, word_in}

-- what is so of the tailoring, if there is one
pub in_some : (o : Option CollationData) (source : CollationData) (P : CollationData → Type 0) → o ≡ Some source → IfSome o P → P source
in_some o source P e h = subst (λ o. IfSome o P) e h

-- the word of a mark in the table of diacritics, and that of a jamo
abbrev pub mark_word : CollationTables → ℕ → TableWord
mark_word tables secondary = record { word = secondary_word secondary; pools = pools_of tables.root }

abbrev pub jamo_word : CollationTables → ℕ → TableWord
jamo_word tables c = record { word = slice_index tables.jamo.ce32s (c - 0x1100); pools = pools_of tables.root }

module _
    (canonical : Canonical)
    (tables : CollationTables)
    (c : ℕ)
    (Holds : TableWord → Type 0)
    (root : Holds (word_in tables.root c))
    (tailoring : (source : CollationData) → tables.tailoring ≡ Some source → Holds (word_in source c))
    (mark : (s : ℕ) → diacritic canonical tables.diacritics.secondaries c ≡ Some s → Holds (mark_word tables s))
    (jamo : is_jamo c ≡ true → Holds (jamo_word tables c)) where
  tailored_holds : Holds (tailored_word tables c)
  tailored_holds = at tables.tailoring refl
    where
      at : (o : Option CollationData) → tables.tailoring ≡ o
          → Holds (elim o as (λ _. TableWord) [ Some tailoring ↦ cond (word_at tailoring c == fallback) (word_in tables.root c) (word_in tailoring c) | None ↦ word_in tables.root c ])
      at None is = root
      at (Some source) is =
          cond_both (word_at source c == fallback) (word_in tables.root c) (word_in source c) Holds (λ left. root) (λ own. tailoring source is)

  pub counting_holds : Holds (counting_word canonical tables c)
  unfolding counting_word
  counting_holds = at (diacritic canonical tables.diacritics.secondaries c) refl
    where
      at : (o : Option ℕ) → diacritic canonical tables.diacritics.secondaries c ≡ o
          → Holds (elim o as (λ _. TableWord) [
            | Some secondary ↦ mark_word tables secondary
            | None ↦ cond (is_jamo c) (jamo_word tables c) (tailored_word tables c)
          ])
      at (Some s) is = mark s is
      at None is = cond_both (is_jamo c) (jamo_word tables c) (tailored_word tables c) Holds jamo (λ no. tailored_holds)
