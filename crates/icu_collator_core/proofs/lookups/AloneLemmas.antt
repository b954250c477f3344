-- The elements of a character with nothing before or after it: those of its word, or the one that it has by itself.
use Rattle.std.proofs.Common.{◌≡◌, ℕ, Bool, true, false, cond, List, [], ◌∷◌, ◌++◌, Option, Some, None, refl, sym, ◌∙◌, ap, arith, append-nil}
use Rattle.std.proofs.lemmas.Bool.{true≢false}
use Rattle.std.proofs.lemmas.Bool.Decides.{nat_tests}
use Rattle.std.proofs.lemmas.Option.{none-some}
use Rattle.std.specs.List.{slice_index}
use Rattle.std.specs.Option.{is_some, option_and_then, unwrap_or}
use Rattle.icu_collator_types.specs.declared.elements.Element.{Element}
use Rattle.icu_collator_types.specs.declared.elements.word_tags.Tag.TheVariants.{Offset}
use Rattle.icu_collator_types.specs.ElementWords.{has_tag}
use Rattle.icu_normalizer_core.specs.BuiltIn.{is_jamo}
use Rattle.icu_collator_core.specs.Defaults.{default_elements, default_primary, implicit_primary, jamo_primary, primary_element, special_primary}
use Rattle.icu_collator_core.specs.Pools.{Pools, elements_of_word, index_of, lone_word, offset_primary}
use Rattle.icu_collator_core.specs.TableMeaning.{TableWord, is_primary_alone, own_primary, ranged_by, recorded_by, unless_own}
use Rattle.icu_collator_core.specs.ReadWords.{AreSaidBy, default_by, elements_alone_by, elements_spelled_by}
use Rattle.icu_collator_core.specs.Weights.{Weights}

-- the word of a range spells no elements
pub offset_spells_none : (pools : Pools) (word : ℕ) → has_tag Offset word ≡ true → elements_of_word pools word ≡ None
unfolding elements_of_word
offset_spells_none pools word h = grind (arith, nat_tests)

-- elements that are a primary with common weights
alone_is : (p : ℕ) (es : List Element) → is_primary_alone p es ≡ true → es ≡ primary_element p ∷ []
alone_is p [] h = absurd (grind arith)
alone_is p (e ∷ []) h = grind (arith, nat_tests)
alone_is p (e ∷ f ∷ es) h = absurd (grind arith)

module _ (entry : TableWord) (c : ℕ) where
  abbrev spelled : Option (List Element)
  spelled = elements_of_word entry.pools (lone_word entry.pools entry.word)

  ranged_none : (es : List Element) → spelled ≡ Some es → ranged_by entry c ≡ None
  unfolding ranged_by
  ranged_none es e = by_tag (has_tag Offset (lone_word entry.pools entry.word)) refl
    where
      by_tag : (b : Bool) → has_tag Offset (lone_word entry.pools entry.word) ≡ b
          → cond b (Some (offset_primary (slice_index entry.pools.ces (index_of (lone_word entry.pools entry.word))) c)) None ≡ None
      by_tag true is = absurd (none-some es (sym (offset_spells_none entry.pools (lone_word entry.pools entry.word) is) ∙ e))
      by_tag false is = refl

  by_own : (es : List Element) → spelled ≡ Some es → (b : Bool) → is_primary_alone (own_primary c) es ≡ b
      → es ≡ unwrap_or (cond b None (Some es)) (default_by entry c ∷ [])
  unfolding default_by
  by_own es e true own =
      alone_is (own_primary c) es own
      ∙ ap (λ r. primary_element (unwrap_or (special_primary c) (unwrap_or r (cond (is_jamo c) (jamo_primary c) (implicit_primary c)))) ∷ []) (sym (ranged_none es e))
  by_own es e false own = refl

  -- where the word has elements, they are those of the character alone
  alone_found : (es : List Element) → spelled ≡ Some es → es ≡ elements_alone_by entry c
  unfolding elements_alone_by recorded_by
  alone_found es e =
      by_own es e (is_primary_alone (own_primary c) es) refl
      ∙ ap (λ o. unwrap_or (option_and_then (unless_own c) o) (default_by entry c ∷ [])) (sym e)

  alone_default : spelled ≡ None → default_by entry c ∷ [] ≡ elements_alone_by entry c
  unfolding elements_alone_by recorded_by
  alone_default e = ap (λ o. unwrap_or (option_and_then (unless_own c) o) (default_by entry c ∷ [])) (sym e)

  -- the elements of the character alone are those that its lone word spells
  pub alone_spelled : elements_spelled_by entry c (lone_word entry.pools entry.word) ≡ elements_alone_by entry c
  alone_spelled = by_spelled spelled refl
    where
      by_spelled : (o : Option (List Element)) → spelled ≡ o → unwrap_or spelled (default_by entry c ∷ []) ≡ elements_alone_by entry c
      by_spelled (Some es) e = ap (λ o. unwrap_or o (default_by entry c ∷ [])) e ∙ alone_found es e
      by_spelled None e = ap (λ o. unwrap_or o (default_by entry c ∷ [])) e ∙ alone_default e

  module _ (weights : Weights) (said : AreSaidBy weights entry c) where
    pub default_said : default_by entry c ∷ [] ≡ default_elements weights c
    unfolding default_by default_primary
    default_said =
        ap (λ r. primary_element (unwrap_or (special_primary c) (unwrap_or r (cond (is_jamo c) (jamo_primary c) (implicit_primary c)))) ∷ []) (sym said.ranged)

    pub alone_said : elements_alone_by entry c ≡ unwrap_or (weights.recorded [] (c ∷ [])) (default_elements weights c)
    unfolding elements_alone_by
    alone_said =
        ap (λ o. unwrap_or o (default_by entry c ∷ [])) (sym (said.recorded [] [] refl refl))
        ∙ ap (λ es. unwrap_or (weights.recorded [] (c ∷ [])) es) default_said

-- the elements that were appended, by whether some were found
module _ (own : Element) (found : Bool) (spelled : Option (List Element)) (before : List Element) where
  pub pushed_found : (after : List Element) → found ≡ is_some spelled → after ≡ before ++ unwrap_or spelled [] → found ≡ true
      → after ≡ before ++ unwrap_or spelled (own ∷ [])
  pushed_found after says added is = by_spelled spelled says added
    where
      by_spelled : (o : Option (List Element)) → found ≡ is_some o → after ≡ before ++ unwrap_or o [] → after ≡ before ++ unwrap_or o (own ∷ [])
      by_spelled (Some es) e h = h
      by_spelled None e h = absurd (true≢false (sym is ∙ e))

  pub pushed_own : (between after : List Element) → found ≡ is_some spelled → between ≡ before ++ unwrap_or spelled [] → found ≡ false
      → after ≡ between ++ own ∷ [] → after ≡ before ++ unwrap_or spelled (own ∷ [])
  pushed_own between after says added is more = by_spelled spelled says added
    where
      by_spelled : (o : Option (List Element)) → found ≡ is_some o → between ≡ before ++ unwrap_or o [] → after ≡ before ++ unwrap_or o (own ∷ [])
      by_spelled (Some es) e h = absurd (true≢false (sym e ∙ is))
      by_spelled None e h = more ∙ ap (λ l. l ++ own ∷ []) (h ∙ append-nil before)
