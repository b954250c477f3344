-- What the word of a character says, where the data that have it were found to keep the rules.
use Rattle.std.proofs.Common.{◌≡◌, ℕ, inl, inr, Bool, true, false, cond, List, [], ◌∷◌, length, Option, Some, None, refl, ap, sym, ◌∙◌, arith}
use Rattle.std.specs.Prelude.{leb, slice_index}
use Rattle.std.specs.Char.{IsScalar}
use Rattle.std.specs.List.{Contains, list_all}
use Rattle.std.proofs.lemmas.Bool.{and_parts, leb-true}
use Rattle.std.proofs.lemmas.Option.{cond_some, none-some, option_and_then_some, same_Some}
use Rattle.icu_normalizer_core.specs.Canonical.{Canonical}
use Rattle.icu_collator_types.specs.declared.elements.Element.{Element}
use Rattle.icu_collator_types.specs.declared.elements.word_tags.Tag.TheVariants.{Contraction, Digit, Offset, Prefix}
use Rattle.icu_collator_types.specs.ElementWords.{has_tag}
use Rattle.icu_collator_core.specs.declared.check.layers.Layer.{Layer}
use Rattle.icu_collator_core.specs.declared.tables.CollationTables.{CollationTables}
use Rattle.icu_collator_core.specs.declared.tables.data.CollationData.{CollationData}
use Rattle.icu_collator_core.specs.ContextRules.{KeepsContextRules, is_prefix, is_recorded_by, is_suffix}
use Rattle.icu_collator_core.specs.Pools.{digit_value, elements_of_word, index_of, lone_word, offset_primary, prefix_word, suffix_word, unprefixed_word}
use Rattle.icu_collator_core.specs.PrefixFaults.{IsAmong, IsRanged, IsRangedIn, IsSpelled, IsSpelledIn}
use Rattle.icu_collator_core.specs.TableFaults.{HasWord}
use Rattle.icu_collator_core.specs.TableMeaning.{TableWord, digit_by, is_primary_alone, own_primary, pools_of, ranged_by, recorded_by, unless_own, word_at, word_in}
use Rattle.icu_collator_core.specs.WeightFaults.{is_sound_in_context, is_sound_spelled, leads_of}
use Rattle.icu_collator_core.specs.WeightRules.{is_sound_ranged}
use Rattle.icu_collator_core.specs.WordWeights.{HasWeights}
use Rattle.icu_collator_core.proofs.meaning.KeyValueLemmas.{AreShort, context_value, value_passes}
use Rattle.icu_collator_core.proofs.meaning.WordTagLemmas.{digit_small}
use Rattle.icu_collator_core.proofs.meaning.WordElementLemmas.{context_sound, elements_narrow, is_narrow, lone_sound, offset_sound, passes_in, word_sound}

-- an element that tables spell, and that keeps the rules
pub record KeepsRules (tables : CollationTables) (e : Element) : Type 0 where
  pub sound : is_sound_spelled tables.special_primaries e ≡ true
  pub narrow : is_narrow e ≡ true
  pub spelled : IsSpelled tables e

pub record IsGoodRanged (tables : CollationTables) (p : ℕ) : Type 0 where
  pub sound : is_sound_ranged (leads_of tables.special_primaries) p ≡ true
  pub ranged : IsRanged tables p

-- what a word says of a character keeps the rules
pub record IsGoodWord (tables : CollationTables) (c : ℕ) (entry : TableWord) : Type 0 where
  pub recorded : (prefix suffix : List ℕ) (es : List Element) (e : Element)
      → recorded_by entry c prefix suffix ≡ Some es → Contains es e → KeepsRules tables e
  pub ranged : (p : ℕ) → ranged_by entry c ≡ Some p → IsGoodRanged tables p
  pub digit : (d : ℕ) → digit_by entry ≡ Some d → leb d 9 ≡ true

-- ---- What tests that were passed say

pub asked : {A : Type 0} (b : Bool) (o : Option A) (x : A) → cond b o None ≡ Some x → (b ≡ true) × (o ≡ Some x)
asked true o x h = (refl, h)
asked false o x h = absurd (none-some x h)

pub unless_own_some : (c : ℕ) (fs es : List Element) → unless_own c fs ≡ Some es → (is_primary_alone (own_primary c) es ≡ false) × (fs ≡ es)
unless_own_some c fs es h = at (is_primary_alone (own_primary c) fs) refl h
  where
    at : (alone : Bool) → is_primary_alone (own_primary c) fs ≡ alone → cond alone None (Some fs) ≡ Some es
        → (is_primary_alone (own_primary c) es ≡ false) × (fs ≡ es)
    at true is k = absurd (none-some es k)
    at false is k = let same = same_Some fs es k in (ap (is_primary_alone (own_primary c)) (sym same) ∙ is, same)

suffix_short : (canonical : Canonical) (is_recorded : List ℕ → List ℕ → Bool) (c : ℕ) → AreShort (is_suffix canonical is_recorded c)
suffix_short canonical is_recorded c cs h = leb-true (length cs) 7 (and_parts (leb (length cs) 7) _ h).0

pub prefix_short : (canonical : Canonical) (digit : ℕ → Option ℕ) → AreShort (is_prefix canonical digit)
prefix_short canonical digit cs h = let three = leb-true (length cs) 3 (and_parts (leb (length cs) 3) _ h).0 in omega (arith, three)

-- ---- The word that data have for a character

module _
    (canonical : Canonical)
    (tables : CollationTables)
    (digit : ℕ → Option ℕ)
    (layer : Layer)
    (source : CollationData)
    (spelled : (e : Element) → IsSpelledIn source e → IsSpelled tables e)
    (ranged : (p : ℕ) → IsRangedIn source p → IsRanged tables p)
    (c : ℕ)
    (scalar : IsScalar c)
    (weights : HasWeights tables.special_primaries layer source c)
    (contexts : KeepsContextRules canonical digit (word_in source c) c)
    (formed : HasWord layer source c) where
  -- the elements of a word within that of the character
  among : (one : ℕ) (es : List Element) (e : Element) → IsAmong (pools_of source) (word_at source c) one
      → elements_of_word (pools_of source) one ≡ Some es → list_all (is_sound_spelled tables.special_primaries) es ≡ true → Contains es e
      → KeepsRules tables e
  among one es e is told sound within = record {
    sound = passes_in (is_sound_spelled tables.special_primaries) es e sound within;
    narrow = passes_in is_narrow es e (elements_narrow (pools_of source) one es told) within;
    spelled = spelled e (c, one, (scalar, is), (es, told, within));
  }

  by_suffix : (ds : List ℕ) (one : ℕ) (es : List Element) (e : Element) → suffix_word (pools_of source) (word_at source c) ds ≡ Some one
      → elements_of_word (pools_of source) one ≡ Some es → Contains es e → KeepsRules tables e
  unfolding suffix_word
  by_suffix ds one es e found told within =
      let both = asked (has_tag Contraction (unprefixed_word (pools_of source) (word_at source c))) _ one found
      in let has = context_value (is_suffix canonical (is_recorded_by (word_in source c)) c) (pools_of source) (unprefixed_word (pools_of source) (word_at source c)) ds one
      (suffix_short canonical (is_recorded_by (word_in source c)) c) (contexts.suffixes both.0) both.1
      in let passes = value_passes (pools_of source) (is_sound_in_context tables.special_primaries (pools_of source) c) (unprefixed_word (pools_of source) (word_at source c)) one (weights.1 both.0) has
      in among one es e (inr (inl (both.0, has))) told
      (context_sound tables.special_primaries es (word_sound tables.special_primaries (pools_of source) None c one es passes told)) within

  by_prefix : (bs : List ℕ) (one : ℕ) (es : List Element) (e : Element) → prefix_word (pools_of source) (word_at source c) bs ≡ Some one
      → elements_of_word (pools_of source) one ≡ Some es → Contains es e → KeepsRules tables e
  unfolding prefix_word
  by_prefix bs one es e found told within =
      let both = asked (has_tag Prefix (word_at source c)) _ one found
      in let has = context_value (is_prefix canonical digit) (pools_of source) (word_at source c) _ one
      (prefix_short canonical digit) (contexts.prefixes both.0) both.1
      in let passes = value_passes (pools_of source) (is_sound_in_context tables.special_primaries (pools_of source) c) (word_at source c) one (weights.2 both.0) has
      in among one es e (inr (inr (both.0, has))) told
      (context_sound tables.special_primaries es (word_sound tables.special_primaries (pools_of source) None c one es passes told)) within

  by_itself : (es : List Element) (e : Element) → recorded_by (word_in source c) c [] [] ≡ Some es → Contains es e → KeepsRules tables e
  unfolding recorded_by
  by_itself es e h within =
      option_and_then_some (unless_own c) (elements_of_word (pools_of source) (lone_word (pools_of source) (word_at source c))) es h
      (λ fs told unless.
      let both = unless_own_some c fs es unless
      in let is = told ∙ ap (λ (xs : List Element). Some xs) both.1
      in among (lone_word (pools_of source) (word_at source c)) es e (inl refl) is
      (lone_sound tables.special_primaries (own_primary c) es
      (word_sound tables.special_primaries (pools_of source) (Some (own_primary c)) c (lone_word (pools_of source) (word_at source c)) es weights.0 is) both.0) within)

  recorded_good : (prefix suffix : List ℕ) (es : List Element) (e : Element)
      → recorded_by (word_in source c) c prefix suffix ≡ Some es → Contains es e → KeepsRules tables e
  unfolding recorded_by
  recorded_good [] [] es e h within = by_itself es e h within
  recorded_good [] (d ∷ ds) es e h within =
      option_and_then_some (elements_of_word (pools_of source)) (suffix_word (pools_of source) (word_at source c) (d ∷ ds)) es h
      (λ one found told. by_suffix (d ∷ ds) one es e found told within)
  recorded_good (b ∷ bs) [] es e h within =
      option_and_then_some (elements_of_word (pools_of source)) (prefix_word (pools_of source) (word_at source c) (b ∷ bs)) es h
      (λ one found told. by_prefix (b ∷ bs) one es e found told within)
  recorded_good (b ∷ bs) (d ∷ ds) es e h within = absurd (none-some es h)

  ranged_good : (p : ℕ) → ranged_by (word_in source c) c ≡ Some p → IsGoodRanged tables p
  unfolding ranged_by
  ranged_good p h =
      let lone = lone_word (pools_of source) (word_at source c)
      in let both = cond_some (has_tag Offset lone) (offset_primary (slice_index source.ces (index_of lone)) c) p h
      in record {
        sound = ap (is_sound_ranged (leads_of tables.special_primaries)) (sym both.1)
            ∙ offset_sound tables.special_primaries (pools_of source) (Some (own_primary c)) c lone weights.0 both.0;
        ranged = ranged p (c, lone, (scalar, inl refl), both.0, sym both.1);
      }

  digit_good : (d : ℕ) → digit_by (word_in source c) ≡ Some d → leb d 9 ≡ true
  digit_good d h =
      let both = cond_some (has_tag Digit (word_at source c)) (digit_value (word_at source c)) d h
      in ap (λ (n : ℕ). leb n 9) (sym both.1) ∙ digit_small layer (pools_of source) (word_at source c) formed.1 both.0

  pub source_good : IsGoodWord tables c (word_in source c)
  source_good = record { recorded = recorded_good; ranged = ranged_good; digit = digit_good }
