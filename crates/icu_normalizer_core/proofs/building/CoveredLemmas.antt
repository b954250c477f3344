-- Each character has its word in a map that has the words of those that are named.
use Rattle.std.proofs.Common.{◌≡◌, ◌≢◌, ℕ, ◌≤◌, ◌⊎◌, inl, inr, ⊎_elim, cond, ◌==◌, List, [], ◌∷◌, ◌++◌, map, Option, Some, None, refl, sym, ap, subst, ◌∙◌, arith}
use Rattle.std.specs.List.{find}
use Rattle.std.specs.Option.{is_some, unwrap_or}
use Rattle.std.proofs.lemmas.Bool.{cases_Bool, cases_eq, cond-true, cond-false, ne_eqb}
use Rattle.std.proofs.lemmas.Bool.Decides.{nat_tests}
use Rattle.icu_codepointtrie.specs.CodePointMaps.{CodePointMap, mapped}
use Rattle.icu_normalizer_core.specs.declared.builder.given.GivenClass.{GivenClass}
use Rattle.icu_normalizer_core.specs.declared.builder.given.GivenMapping.{GivenMapping}
use Rattle.icu_normalizer_core.specs.BuiltIn.{built_in_step, built_in_class, singled_out, is_syllable}
use Rattle.icu_normalizer_core.specs.CanonicalLists.{listed_step}
use Rattle.icu_normalizer_core.specs.CanonicalMaps.{given_class, given_step, mapping_given}
use Rattle.icu_normalizer_core.specs.CharacterWords.{class_with, IsWordOf, HasNamed, HasWords, built_in_named, unnamed_word}
use Rattle.icu_normalizer_core.specs.Settled.{IsAmong}
use Rattle.icu_normalizer_core.proofs.accepted.TableMeanings.{step_in_free}
use Rattle.icu_normalizer_core.proofs.building.CharacterWordLemmas.{syllable_word, zero_word}

pub among_or_not : (xs : List ℕ) (c : ℕ) → IsAmong xs c ⊎ (IsAmong xs c → ⊥)
among_or_not [] c = inr (λ h. h)
among_or_not (x ∷ xs) c =
    ⊎_elim
    (λ (same : x ≡ c). inl (inl same))
    (λ (other : x ≢ c). ⊎_elim (λ later. inl (inr later)) (λ none. inr (λ h. ⊎_elim (λ e. other e) (λ later. none later) h)) (among_or_not xs c))
    (cases_eq x c)

pub not_front : (xs ys : List ℕ) (c : ℕ) → (IsAmong (xs ++ ys) c → ⊥) → IsAmong xs c → ⊥
not_front [] ys c none h = h
not_front (x ∷ xs) ys c none (inl e) = none (inl e)
not_front (x ∷ xs) ys c none (inr h) = not_front xs ys c (λ later. none (inr later)) h

pub not_behind : (xs ys : List ℕ) (c : ℕ) → (IsAmong (xs ++ ys) c → ⊥) → IsAmong ys c → ⊥
not_behind [] ys c none h = none h
not_behind (x ∷ xs) ys c none h = not_behind xs ys c (λ later. none (inr later)) h

pub unclassed : (classes : List GivenClass) (c : ℕ) → (IsAmong (map (λ g. g.character) classes) c → ⊥) → find (λ g. g.character == c) classes ≡ None
unclassed [] c none = refl
unclassed (g ∷ gs) c none =
    cond-false (g.character == c) (Some g) (find (λ h. h.character == c) gs) (ne_eqb g.character c (λ e. none (inl e))) ∙ unclassed gs c (λ later. none (inr later))

pub unmapped : (mappings : List GivenMapping) (c : ℕ) → (IsAmong (map (λ g. g.character) mappings) c → ⊥) → find (λ g. g.character == c) mappings ≡ None
unmapped [] c none = refl
unmapped (g ∷ gs) c none =
    cond-false (g.character == c) (Some g) (find (λ h. h.character == c) gs) (ne_eqb g.character c (λ e. none (inl e))) ∙ unmapped gs c (λ later. none (inr later))

class_of_others : (c : ℕ) → c ≢ 0x300 → c ≢ 0x301 → c ≢ 0x308 → c ≢ 0x313 → c ≢ 0x340 → c ≢ 0x341 → c ≢ 0x343 → c ≢ 0x344 → c ≢ 0xf71 → c ≢ 0xf72
    → c ≢ 0xf74 → c ≢ 0xf80 → c ≢ 0x3099 → c ≢ 0x309a → unwrap_or (built_in_class c) 0 ≡ 0
unfolding built_in_class
class_of_others c a0 a1 a2 a3 a4 a5 a6 a7 b0 b1 b2 b3 d0 d1 = grind (arith, nat_tests)

singled_of_others : (c : ℕ) → c ≢ 0x340 → c ≢ 0x341 → c ≢ 0x343 → c ≢ 0x344 → c ≢ 0xf73 → c ≢ 0xf75 → c ≢ 0xf81 → singled_out c ≡ None
unfolding singled_out
singled_of_others c a0 a1 a2 a3 b0 b1 b2 = grind (arith, nat_tests)

module _ (c : ℕ) (none : IsAmong built_in_named c → ⊥) where
  pub no_class : unwrap_or (built_in_class c) 0 ≡ 0
  no_class =
      class_of_others c
      (λ e. none (inl (sym e)))
      (λ e. none (inr (inl (sym e))))
      (λ e. none (inr (inr (inl (sym e)))))
      (λ e. none (inr (inr (inr (inl (sym e))))))
      (λ e. none (inr (inr (inr (inr (inl (sym e)))))))
      (λ e. none (inr (inr (inr (inr (inr (inl (sym e))))))))
      (λ e. none (inr (inr (inr (inr (inr (inr (inl (sym e)))))))))
      (λ e. none (inr (inr (inr (inr (inr (inr (inr (inl (sym e))))))))))
      (λ e. none (inr (inr (inr (inr (inr (inr (inr (inr (inl (sym e)))))))))))
      (λ e. none (inr (inr (inr (inr (inr (inr (inr (inr (inr (inl (sym e))))))))))))
      (λ e. none (inr (inr (inr (inr (inr (inr (inr (inr (inr (inr (inr (inl (sym e))))))))))))))
      (λ e. none (inr (inr (inr (inr (inr (inr (inr (inr (inr (inr (inr (inr (inr (inl (sym e))))))))))))))))
      (λ e. none (inr (inr (inr (inr (inr (inr (inr (inr (inr (inr (inr (inr (inr (inr (inr (inl (sym e))))))))))))))))))
      (λ e. none (inr (inr (inr (inr (inr (inr (inr (inr (inr (inr (inr (inr (inr (inr (inr (inr (inl (sym e)))))))))))))))))))

  pub not_singled_out : singled_out c ≡ None
  not_singled_out =
      singled_of_others c
      (λ e. none (inr (inr (inr (inr (inl (sym e)))))))
      (λ e. none (inr (inr (inr (inr (inr (inl (sym e))))))))
      (λ e. none (inr (inr (inr (inr (inr (inr (inl (sym e)))))))))
      (λ e. none (inr (inr (inr (inr (inr (inr (inr (inl (sym e))))))))))
      (λ e. none (inr (inr (inr (inr (inr (inr (inr (inr (inr (inr (inl (sym e)))))))))))))
      (λ e. none (inr (inr (inr (inr (inr (inr (inr (inr (inr (inr (inr (inr (inl (sym e)))))))))))))))
      (λ e. none (inr (inr (inr (inr (inr (inr (inr (inr (inr (inr (inr (inr (inr (inr (inl (sym e)))))))))))))))))

unnamed_right : (classes : List GivenClass) (mappings : List GivenMapping) (steps s24 : List ℕ) (c : ℕ)
    → ((d : ℕ) → listed_step steps d ≡ cond (is_some (built_in_step d)) [] (given_step mappings d))
    → (IsAmong ((built_in_named ++ map (λ g. g.character) classes) ++ map (λ g. g.character) mappings) c → ⊥)
    → IsWordOf (class_with classes c) steps s24 c (unnamed_word c)
unnamed_right classes mappings steps s24 c listed none =
    let front = not_front (built_in_named ++ map (λ g. g.character) classes) (map (λ g. g.character) mappings) c none in
    let built_in = not_front built_in_named (map (λ g. g.character) classes) c front in
    let no_given : given_class classes c ≡ 0 =
    ap (λ (o : Option GivenClass). elim o [ Some g ↦ g.class | None ↦ 0 ]) (unclassed classes c (not_behind built_in_named (map (λ g. g.character) classes) c front)) in
    let no_step : given_step mappings c ≡ [] =
    ap (λ (o : Option GivenMapping). elim o [ Some g ↦ mapping_given g | None ↦ [] ])
    (unmapped mappings c (not_behind (built_in_named ++ map (λ g. g.character) classes) (map (λ g. g.character) mappings) c none)) in
    let zero : class_with classes c ≡ 0 = ap (unwrap_or (built_in_class c)) no_given ∙ no_class c built_in in
    ⊎_elim
    (λ t. subst (λ (w : ℕ). IsWordOf (class_with classes c) steps s24 c w) (sym (cond-true (is_syllable c) 1 0 t)) (syllable_word (class_with classes c) steps s24 c t zero))
    (λ f. subst (λ (w : ℕ). IsWordOf (class_with classes c) steps s24 c w) (sym (cond-false (is_syllable c) 1 0 f))
    (zero_word (class_with classes c) steps s24 c zero f (not_singled_out c built_in)
    (λ free. step_in_free steps c free ∙ listed c ∙ ap (λ (o : Option (List ℕ)). cond (is_some o) [] (given_step mappings c)) free ∙ no_step)))
    (cases_Bool (is_syllable c))

-- each character has its word, where those that are named have theirs
pub covered : (classes : List GivenClass) (mappings : List GivenMapping) (steps s24 list : List ℕ) (words : CodePointMap ℕ)
    → HasWords classes steps s24 list words → HasNamed classes mappings list
    → ((c : ℕ) → listed_step steps c ≡ cond (is_some (built_in_step c)) [] (given_step mappings c))
    → (c : ℕ) → c ≤ 0x10_FFFF → IsWordOf (class_with classes c) steps s24 c (mapped words c)
covered classes mappings steps s24 list words has named listed c h =
    ⊎_elim
    (λ yes. has.among c h yes)
    (λ no.
    subst (λ (w : ℕ). IsWordOf (class_with classes c) steps s24 c w) (sym (has.others c h no))
    (unnamed_right classes mappings steps s24 c listed (λ there. no (named c there))))
    (among_or_not list c)
