-- What accepted tables say of weights keeps the rules.
use Rattle.std.proofs.Common.{◌≡◌, ℕ, ◌-◌, inl, inr, true, List, [], ◌∷◌, Option, Some, sym, subst}
use Rattle.std.specs.Prelude.{◌&&◌, leb, not, slice_get, MatchOption}
use Rattle.std.specs.Char.{IsScalar}
use Rattle.std.specs.List.{Contains, list_all}
use Rattle.std.proofs.lemmas.Bool.{and_parts}
use Rattle.std.proofs.lemmas.Option.{get_or_from_slice_get, none-some, slice_get_within}
use lib.Utf8.{scalar, scalars}
use Rattle.icu_normalizer_core.specs.Canonical.{Canonical, is_starter}
use Rattle.icu_collator_types.specs.declared.elements.Element.{Element}
use Rattle.icu_collator_core.specs.declared.check.layers.Layer.TheVariants.{Root, Tailoring}
use Rattle.icu_collator_core.specs.declared.tables.CollationTables.{CollationTables}
use Rattle.icu_collator_core.specs.declared.tables.data.CollationData.{CollationData}
use Rattle.icu_collator_core.specs.Acceptance.{IsAccepted}
use Rattle.icu_collator_core.specs.PrefixFaults.{IsRangedIn, IsSpelledIn}
use Rattle.icu_collator_core.specs.TableMeaning.{TableWord, counting_word, diacritic, digit_by, ranged_by, recorded_by, recorded_in, weights_of, word_in}
use Rattle.icu_collator_core.specs.WeightFaults.{is_diacritic_count, is_sound_diacritic}
use Rattle.icu_collator_core.specs.WeightRules.{AreApart, AreSoundWeights, IsRecorded, has_widths, is_beside_ranged, is_sound_element, is_sound_ranged}
use Rattle.icu_collator_core.proofs.meaning.CountingWordLemmas.{counting_holds, in_some, mark_word}
use Rattle.icu_collator_core.proofs.meaning.GoodWordLemmas.{IsGoodRanged, IsGoodWord, KeepsRules, asked, source_good}
use Rattle.icu_collator_core.proofs.meaning.StatedWordLemmas.{jamo_good, mark_good}
use Rattle.icu_collator_core.proofs.meaning.WordElementLemmas.{spelled_sound, widths}

-- what a list has at an index
at_index : (xs : List ℕ) (k x : ℕ) → slice_get xs k ≡ Some x → Contains xs x
at_index xs k x h = (k, slice_get_within xs k x h, get_or_from_slice_get xs k x x h)

of_some : (o : Option CollationData) (source : CollationData) (P : CollationData → Type 0) → o ≡ Some source → P source → MatchOption o ⊥ P
of_some o source P e h = subst (λ o. MatchOption o ⊥ P) (sym e) h

module _ (canonical : Canonical) (tables : CollationTables) (accepted : IsAccepted canonical tables) where
  -- what a word says of a character keeps the rules
  abbrev Keeps : ℕ → TableWord → Type 0
  Keeps c entry = IsGoodWord tables c entry

  root_keeps : (c : ℕ) → IsScalar c → Keeps c (word_in tables.root c)
  root_keeps c scalar =
      source_good canonical tables (weights_of canonical tables).digit Root tables.root (λ e h. inl (inl h)) (λ p h. inl h) c scalar
      (accepted.characters.weights.0 c scalar) (accepted.characters.contexts.0 c scalar) (accepted.characters.words.0 c scalar)

  tailoring_keeps : (c : ℕ) (source : CollationData) → IsScalar c → tables.tailoring ≡ Some source → Keeps c (word_in source c)
  tailoring_keeps c source scalar is =
      source_good canonical tables (weights_of canonical tables).digit Tailoring source
      (λ e h. inl (inr (of_some tables.tailoring source (λ source. IsSpelledIn source e) is h)))
      (λ p h. inr (of_some tables.tailoring source (λ source. IsRangedIn source p) is h)) c scalar
      ((in_some tables.tailoring source _ is accepted.characters.weights.1) c scalar)
      ((in_some tables.tailoring source _ is accepted.characters.contexts.1) c scalar)
      ((in_some tables.tailoring source _ is accepted.characters.words.1) c scalar)

  marked : (c s : ℕ) → diacritic canonical tables.diacritics.secondaries c ≡ Some s → Keeps c (mark_word tables s)
  marked c s h =
      mark_good tables c s (and_parts (is_diacritic_count tables.metadata _) (list_all is_sound_diacritic tables.diacritics.secondaries) accepted.diacritics).1
      (at_index tables.diacritics.secondaries (c - 0x300) s (asked (leb 0x300 c && not (is_starter canonical c)) _ s h).1)

  counting_keeps : (c : ℕ) → IsScalar c → Keeps c (counting_word canonical tables c)
  counting_keeps c scalar =
      counting_holds canonical tables c (Keeps c) (root_keeps c scalar) (λ source is. tailoring_keeps c source scalar is)
      (marked c) (λ yes. jamo_good tables c accepted.jamo yes)

  -- ---- What is recorded

  by_words : (prefix text : List ℕ) (es : List Element) → recorded_in (counting_word canonical tables) prefix text ≡ Some es
      → (c : ℕ) × (cs : List ℕ) × IsScalar c × (recorded_by (counting_word canonical tables c) c prefix cs ≡ Some es)
  unfolding recorded_in
  by_words prefix [] es h = absurd (none-some es h)
  by_words prefix (c ∷ cs) es h =
      let both = asked (scalars prefix && scalars (c ∷ cs)) (recorded_by (counting_word canonical tables c) c prefix cs) es h
      in let characters = and_parts (scalars prefix) (scalars (c ∷ cs)) both.0
      in (c, cs, (and_parts (scalar c) (scalars cs) characters.1).0, both.1)

  -- a recorded element keeps the rules
  recorded_keeps : (e : Element) → IsRecorded (weights_of canonical tables) e → KeepsRules tables e
  recorded_keeps e (prefix, text, es, told, within) =
      let found = by_words prefix text es told
      in (counting_keeps found.0 found.2).recorded prefix found.1 es e found.3 within

  ranged_keeps : (c p : ℕ) → (weights_of canonical tables).ranged_primary c ≡ Some p → IsGoodRanged tables p
  ranged_keeps c p h =
      let both = asked (scalar c) (ranged_by (counting_word canonical tables c) c) p h
      in (counting_keeps c both.0).ranged p both.1

  digit_keeps : (c d : ℕ) → (weights_of canonical tables).digit c ≡ Some d → leb d 9 ≡ true
  digit_keeps c d h =
      let both = asked (scalar c) (digit_by (counting_word canonical tables c)) d h
      in (counting_keeps c both.0).digit d both.1

  recorded_widths : (e : Element) → IsRecorded (weights_of canonical tables) e → has_widths e ≡ true
  recorded_widths e h = let keeps = recorded_keeps e h in widths tables.special_primaries e keeps.sound keeps.narrow

  recorded_sound : (e : Element) → IsRecorded (weights_of canonical tables) e → is_sound_element (weights_of canonical tables) e ≡ true
  recorded_sound e h = (spelled_sound tables.special_primaries e (recorded_keeps e h).sound).1

  recorded_apart : AreApart (IsRecorded (weights_of canonical tables))
  recorded_apart d e hd he = accepted.apart.apart d e (recorded_keeps d hd).spelled (recorded_keeps e he).spelled

  ranged_sound : (c p : ℕ) → (weights_of canonical tables).ranged_primary c ≡ Some p → is_sound_ranged (weights_of canonical tables) p ≡ true
  ranged_sound c p h = (ranged_keeps c p h).sound

  ranged_beside : (c p : ℕ) (e : Element) → (weights_of canonical tables).ranged_primary c ≡ Some p → IsRecorded (weights_of canonical tables) e
      → is_beside_ranged p e ≡ true
  ranged_beside c p e h told = accepted.apart.beside p e (ranged_keeps c p h).ranged (recorded_keeps e told).spelled

  -- Accepted tables say what keeps the rules on weights.
  pub accepted_weights : AreSoundWeights (weights_of canonical tables)
  accepted_weights = record {
    widths = recorded_widths;
    elements = recorded_sound;
    apart = recorded_apart;
    ranged = ranged_sound;
    beside = ranged_beside;
    digits = digit_keeps;
  }
