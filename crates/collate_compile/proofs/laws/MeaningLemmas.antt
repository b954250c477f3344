-- What the word of a character means, where it says just what lines record.
use Rattle.std.proofs.Common.{◌≡◌, ℕ, Bool, true, false, cond, List, [], ◌∷◌, Option, Some, None, refl, sym, ap, subst, ◌∙◌, All}
use Rattle.std.specs.Prelude.{is_some, option_and_then, slice_index}
use Rattle.std.specs.Char.{IsScalar}
use Rattle.std.specs.List.{Contains}
use Rattle.std.specs.Option.{option_map}
use Rattle.std.proofs.lemmas.Bool.{and_parts, cond-false}
use Rattle.std.proofs.lemmas.List.Elements.{All-cons, All-nil}
use lib.Utf8.{scalar, scalars}
use Rattle.icu_collator_types.specs.declared.elements.Element.{Element}
use Rattle.icu_collator_types.specs.declared.elements.word_tags.Tag.TheVariants.{Offset}
use Rattle.icu_collator_types.specs.ElementWords.{has_tag}
use Rattle.icu_collator_core.specs.Defaults.{range_primary}
use Rattle.icu_collator_core.specs.Pools.{elements_of_word, index_of, lone_word, offset_primary, prefix_word, suffix_word, unprefixed_word}
use Rattle.icu_collator_core.specs.TableMeaning.{TableWord, digit_by, is_primary_alone, own_primary, ranged_by, recorded_by, unless_own}
use Rattle.icu_collator_core.specs.UnrecordedWords.{implicit}
use Rattle.icu_collator_core.specs.WeightRules.{AreSoundWeights}
use Rattle.icu_collator_core.specs.Weights.{Range}
use Rattle.icu_collator_core.proofs.apart.GrowthLemmas.{first_in}
use Rattle.collate_lines.specs.Record.{Record}
use Rattle.collate_rules.specs.Accepted.{AreAccepted}
use Rattle.collate_rules.specs.Meaning.{first_found, is_compressible_in, range_in, recorded_in, weights_of}
use Rattle.collate_rules.specs.RecordRules.{digit_of}
use Rattle.collate_words.specs.OwnWords.{offset_named}
use Rattle.collate_words.specs.Sayings.{Saying}
use Rattle.collate_words.specs.Written.{SaysOf}
use Rattle.collate_compile.specs.LineSayings.{IsSayingOf, offset_bits, offset_of}
use Rattle.collate_compile.proofs.laws.OffsetLemmas.{offset_moved}
use Rattle.collate_compile.proofs.laws.OwnPrimaryLemmas.{not_own}
use Rattle.collate_compile.proofs.laws.RangeLemmas.{range_kept, range_narrow}
use Rattle.collate_compile.proofs.laws.RuleLemmas.{prefixed_alone}

-- the word of a character means what lines say
pub record Means (lines : List Record) (c : ℕ) (entry : TableWord) : Type 0 where
  pub recorded : (prefix suffix : List ℕ) → scalars prefix ≡ true → scalars suffix ≡ true
      → recorded_by entry c prefix suffix ≡ recorded_in lines prefix (c ∷ suffix)
  pub digit : digit_by entry ≡ digit_of lines c
  pub ranged : recorded_in lines [] (c ∷ []) ≡ None → ranged_by entry c ≡ (weights_of lines).ranged_primary c

pub all_scalars : (cs : List ℕ) → scalars cs ≡ true → All IsScalar cs
all_scalars [] h = All-nil IsScalar
all_scalars (c ∷ cs) h =
    let both = and_parts (scalar c) (scalars cs) h in All-cons IsScalar c cs both.0 (all_scalars cs both.1)

-- what is recorded isn't what a character is by itself
pub recorded_not_own : (lines : List Record) (c : ℕ) (prefix text : List ℕ) (es : List Element)
    → AreSoundWeights (weights_of lines)
    → recorded_in lines prefix text ≡ Some es → is_primary_alone (own_primary c) es ≡ false
recorded_not_own lines c prefix text es sound h =
    not_own (weights_of lines) c es
    (λ e is. sound.elements e
    (prefix, text, es, h, subst (λ (fs : List Element). Contains fs e) (sym is) (first_in e [])))

mapped : {A B : Type 0} (b : Bool) (f : A → B) (x : A) → cond b (Some (f x)) None ≡ option_map f (cond b (Some x) None)
mapped true f x = refl
mapped false f x = refl

module _ (lines : List Record) (accepted : AreAccepted lines) (sound : AreSoundWeights (weights_of lines)) (c : ℕ) (s : scalar c ≡ true) where
  -- the primary of the range that holds the character
  pub ranged_alike : option_map (λ bits. offset_primary bits c) (offset_of lines c) ≡ (weights_of lines).ranged_primary c
  ranged_alike = at (first_found (range_in c) lines) refl
    where
      at : (o : Option Range) → first_found (range_in c) lines ≡ o
          → option_map (λ bits. offset_primary bits c) (option_map (offset_bits (is_compressible_in lines)) o)
          ≡ elim o [ Some r ↦ Some (range_primary (is_compressible_in lines) r c) | None ↦ None ]
      at None is = refl
      at (Some r) is =
          ap (λ (p : ℕ). Some p)
          (offset_moved (is_compressible_in lines) r (range_narrow lines accepted c r s is)
          (range_kept lines accepted c r is).small c)

  module _ (entry : TableWord) (saying : Saying) (is : IsSayingOf lines c saying) (says : SaysOf entry.pools entry.word saying) where
    kept : (o : Option (List Element)) → recorded_in lines [] (c ∷ []) ≡ o → option_and_then (unless_own c) o ≡ o
    kept None told = refl
    kept (Some es) told =
        cond-false (is_primary_alone (own_primary c) es) None (Some es)
        (recorded_not_own lines c [] (c ∷ []) es sound told)

    recorded_means : (prefix suffix : List ℕ) → scalars prefix ≡ true → scalars suffix ≡ true
        → recorded_by entry c prefix suffix ≡ recorded_in lines prefix (c ∷ suffix)
    unfolding recorded_by
    recorded_means [] [] p q =
        ap (option_and_then (unless_own c)) (says.lone.says ∙ is.own) ∙ kept (recorded_in lines [] (c ∷ [])) refl
    recorded_means [] (d ∷ ds) p q = says.suffixes d ds (all_scalars (d ∷ ds) q) ∙ is.suffixes d ds
    recorded_means (b ∷ bs) [] p q = says.prefixes b bs (all_scalars (b ∷ bs) p) ∙ is.prefixes b bs
    recorded_means (b ∷ bs) (d ∷ ds) p q = sym (prefixed_alone lines accepted b bs c d ds)

    offset_told : recorded_in lines [] (c ∷ []) ≡ None
        → offset_named entry.pools (lone_word entry.pools entry.word) ≡ offset_of lines c
    offset_told none =
        says.lone.ranged ∙ is.offset
        ∙ ap (λ (o : Option (List Element)). cond (is_some o) None (offset_of lines c)) none

    ranged_means : recorded_in lines [] (c ∷ []) ≡ None → ranged_by entry c ≡ (weights_of lines).ranged_primary c
    unfolding ranged_by
    ranged_means none =
        let lone = lone_word entry.pools entry.word in
        mapped (has_tag Offset lone) (λ bits. offset_primary bits c) (slice_index entry.pools.ces (index_of lone))
        ∙ ap (option_map (λ bits. offset_primary bits c)) (offset_told none) ∙ ranged_alike

    pub saying_means : Means lines c entry
    saying_means = record { recorded = recorded_means; digit = says.digit ∙ is.digit; ranged = ranged_means }

  -- the word of a character of which lines say nothing
  pub implicit_means : (entry : TableWord) → entry.word ≡ implicit
      → ((prefix suffix : List ℕ) → recorded_in lines prefix (c ∷ suffix) ≡ None) → digit_of lines c ≡ None
      → first_found (range_in c) lines ≡ None
      → Means lines c entry
  unfolding recorded_by suffix_word prefix_word ranged_by lone_word unprefixed_word elements_of_word
  implicit_means entry is none no_digit no_range =
      subst (λ (word : ℕ). Means lines c (record { word = word; pools = entry.pools })) (sym is)
      record {
        recorded = unrecorded;
        digit = sym no_digit;
        ranged =
            λ _. sym (ap (λ (o : Option Range). elim o as (λ _. Option ℕ) [ Some r ↦ Some (range_primary (is_compressible_in lines) r c) | None ↦ None ]) no_range);
      }
    where
      unrecorded : (prefix suffix : List ℕ) → scalars prefix ≡ true → scalars suffix ≡ true
          → recorded_by (record { word = implicit; pools = entry.pools }) c prefix suffix ≡ recorded_in lines prefix (c ∷ suffix)
      unrecorded [] [] p q = sym (none [] [])
      unrecorded [] (d ∷ ds) p q = sym (none [] (d ∷ ds))
      unrecorded (b ∷ bs) [] p q = sym (none (b ∷ bs) [])
      unrecorded (b ∷ bs) (d ∷ ds) p q = sym (none (b ∷ bs) (d ∷ ds))
