-- What words spell that say what lines record: elements of records, and primaries of ranges. They keep the rules.
use Rattle.std.proofs.Common.{◌≡◌, ℕ, ◌⊎◌, inl, inr, Bool, true, false, cond, List, [], ◌∷◌, Option, Some, None, refl, sym, subst, ◌∙◌, ⊎_elim}
use Rattle.std.specs.Prelude.{is_some, slice_index}
use Rattle.std.specs.Int.{cast_unsigned, w32}
use Rattle.std.specs.List.{Contains, list_all}
use Rattle.std.proofs.lemmas.Bool.{cond-true, cond_both, or_right}
use Rattle.std.proofs.lemmas.List.Elements.{All-contains}
use Rattle.std.proofs.lemmas.Option.{none-some, same_Some}
use lib.Utf8.{scalar}
use Rattle.icu_collator_types.specs.declared.elements.Element.{Element}
use Rattle.icu_collator_types.specs.declared.elements.word_tags.Tag.TheVariants.{Offset}
use Rattle.icu_collator_types.specs.ElementWords.{has_tag}
use Rattle.icu_collator_core.specs.declared.tables.special_primaries.CollationSpecialPrimaries.{CollationSpecialPrimaries}
use Rattle.icu_collator_core.specs.Pools.{Pools, elements_of_word, index_of, lone_word}
use Rattle.icu_collator_core.specs.PrefixFaults.{IsAmong}
use Rattle.icu_collator_core.specs.TableMeaning.{own_primary}
use Rattle.icu_collator_core.specs.WeightFaults.{are_sound_spelled, is_own_alone, is_sound_spelled, is_sound_word}
use Rattle.icu_collator_core.specs.WeightRules.{AreSoundWeights, IsRecorded}
use Rattle.icu_collator_core.specs.WordWeights.{HasSoundWords}
use Rattle.icu_collator_core.proofs.apart.GrowthLemmas.{none_in}
use Rattle.collate_lines.specs.Record.{Record}
use Rattle.collate_rules.specs.Accepted.{AreAccepted}
use Rattle.collate_rules.specs.Meaning.{recorded_in, weights_of}
use Rattle.collate_words.specs.OwnWords.{offset_named}
use Rattle.collate_words.specs.Sayings.{SaidBeside, Saying}
use Rattle.collate_words.specs.Written.{SaysOf}
use Rattle.collate_compile.specs.Compiled.{ArePrimariesOf}
use Rattle.collate_compile.specs.LineSayings.{IsSaidAfter, IsSaidBehind, IsSayingOf, offset_of, ranged_saying}
use Rattle.collate_compile.proofs.laws.CompiledLeadLemmas.{all_spelled, offset_sound}

-- elements of records
abbrev pub AreRecorded : List Record → List Element → Type 0
AreRecorded lines es = (e : Element) → Contains es e → IsRecorded (weights_of lines) e

-- what is said of a character is of records, and of the range that holds it
pub record IsOfLines (lines : List Record) (c : ℕ) (saying : Saying) : Type 0 where
  pub own : (es : List Element) → saying.own ≡ Some es → AreRecorded lines es
  pub offset : (bits : ℕ) → saying.offset ≡ Some bits → offset_of lines c ≡ Some bits
  pub beside : (said : SaidBeside) → Contains saying.suffixes said ⊎ Contains saying.prefixes said
      → AreRecorded lines said.elements

pub recorded_elements : (lines : List Record) (prefix text : List ℕ) (es : List Element)
    → recorded_in lines prefix text ≡ Some es → AreRecorded lines es
recorded_elements lines prefix text es h e within = (prefix, text, es, h, within)

pub saying_of_lines : (lines : List Record) (c : ℕ) (saying : Saying) → IsSayingOf lines c saying
    → IsOfLines lines c saying
saying_of_lines lines c saying is = record {
  own = λ es told. recorded_elements lines [] (c ∷ []) es (sym is.own ∙ told);
  offset =
      λ bits told. ranged (is_some (recorded_in lines [] (c ∷ []))) (offset_of lines c) bits (sym is.offset ∙ told);
  beside = λ said within.
      ⊎_elim
      (λ (behind : Contains saying.suffixes said).
      recorded_elements lines [] (c ∷ said.characters) said.elements
      (All-contains (IsSaidBehind lines c) saying.suffixes said is.behind behind))
      (λ (after : Contains saying.prefixes said).
      recorded_elements lines said.characters (c ∷ []) said.elements
      (All-contains (IsSaidAfter lines c) saying.prefixes said is.after after))
      within;
}
  where
    ranged : (b : Bool) (o : Option ℕ) (bits : ℕ) → cond b None o ≡ Some bits → o ≡ Some bits
    ranged true o bits e = absurd (none-some bits e)
    ranged false o bits e = e

pub range_of_lines : (lines : List Record) (c bits : ℕ) → offset_of lines c ≡ Some bits
    → IsOfLines lines c (ranged_saying bits)
range_of_lines lines c bits is = record {
  own = λ es told. absurd (none-some es told);
  offset = λ other told. is ∙ told;
  beside = λ said within. ⊎_elim (λ behind. absurd (none_in said behind)) (λ after. absurd (none_in said after)) within;
}

-- ---- A word within that of a character

module _ (lines : List Record) (c : ℕ) (pools : Pools) (word : ℕ) (saying : Saying) (of_lines : IsOfLines lines c saying) (says : SaysOf pools word saying) where
  -- it says elements of records, or names what moves the primary of a range to the character
  abbrev IsOwnOfLines : ℕ → Type 0
  IsOwnOfLines one =
      ((es : List Element) → elements_of_word pools one ≡ Some es → AreRecorded lines es)
      × ((bits : ℕ) → offset_named pools one ≡ Some bits → offset_of lines c ≡ Some bits)

  lone_of_lines : IsOwnOfLines (lone_word pools word)
  lone_of_lines = (
    λ es told. of_lines.own es (sym says.lone.says ∙ told),
    λ bits told. of_lines.offset bits (sym says.lone.ranged ∙ told),
  )

  pub among_of_lines : (one : ℕ) → IsAmong pools word one → IsOwnOfLines one
  among_of_lines one is =
      ⊎_elim
      (λ (alone : one ≡ lone_word pools word). subst IsOwnOfLines (sym alone) lone_of_lines)
      (λ beside. (
        λ es told. subst (AreRecorded lines) (same_Some beside.0.elements es (sym beside.2.says ∙ told))
            (of_lines.beside beside.0 beside.1),
        λ bits told. absurd (none-some bits (sym beside.2.ranged ∙ told)),
      ))
      (says.within one is)

  named : (one : ℕ) → has_tag Offset one ≡ true → offset_named pools one ≡ Some (slice_index pools.ces (index_of one))
  named one tag = cond-true (has_tag Offset one) (Some (slice_index pools.ces (index_of one))) None tag

  pub ranged_among : (one : ℕ) → IsAmong pools word one → has_tag Offset one ≡ true
      → offset_of lines c ≡ Some (slice_index pools.ces (index_of one))
  ranged_among one is tag = (among_of_lines one is).1 (slice_index pools.ces (index_of one)) (named one tag)

  module _
      (special : CollationSpecialPrimaries)
      (alike : ArePrimariesOf lines special)
      (accepted : AreAccepted lines)
      (sound : AreSoundWeights (weights_of lines))
      (s : scalar c ≡ true) where
    among_sound : (own : Option ℕ) (one : ℕ) → IsAmong pools word one → is_sound_word special pools own c one ≡ true
    unfolding is_sound_word
    among_sound own one is =
        cond_both (has_tag Offset one) _ _ (λ b. b ≡ true)
        (λ tag. offset_sound lines special alike sound accepted c s (slice_index pools.ces (index_of one))
        (ranged_among one is tag))
        (λ other. at (elements_of_word pools one) refl)
      where
        at : (o : Option (List Element)) → elements_of_word pools one ≡ o
            → elim o as (λ _. Bool) [ Some es ↦ are_sound_spelled special own es | None ↦ true ] ≡ true
        at None told = refl
        at (Some es) told =
            or_right (is_own_alone own es) (list_all (is_sound_spelled special) es)
            (all_spelled lines special alike sound es ((among_of_lines one is).0 es told))

    pub words_sound : HasSoundWords special pools c word
    words_sound = (
      among_sound (Some (own_primary c)) (lone_word pools word) (inl refl),
      λ tag readable key number maps. among_sound None (cast_unsigned w32 number)
          (inr (inl (tag, (key, number, readable, maps, refl)))),
      λ tag readable key number maps. among_sound None (cast_unsigned w32 number)
          (inr (inr (tag, (key, number, readable, maps, refl)))),
    )
