-- A character that is read alone, whatever stands before and after it.
use Rattle.std.proofs.Common.{◌≡◌, ℕ, zero, suc, ◌<◌, ◌≤◌, ◌==◌, Bool, true, false, cond, ◌&&◌, ltb, List, [], ◌∷◌, ◌++◌, length, take, drop, Option, Some, None, refl, sym, ◌∙◌, ap, arith, inl, inr, append_assoc, append-nil}
use Rattle.std.specs.List.{list_all}
use Rattle.std.specs.Option.{is_some, unwrap_or}
use Rattle.std.proofs.lemmas.Bool.{and_from, and_parts, and_right, cases_Bool, true≢false}
use lib.Utf8.{scalar, scalars}
use Rattle.icu_normalizer_core.specs.Canonical.{Canonical}
use Rattle.icu_collator_types.specs.declared.elements.Element.{Element}
use Rattle.icu_collator_core.specs.Defaults.{default_elements, special_primary}
use Rattle.icu_collator_core.specs.Elements.{Joining, Placed, Reading, at_greatest, characters_of, is_before_accent, joining, match_length, reading, recorded_length, text_match, text_reading}
use Rattle.icu_collator_core.specs.PlainWords.{IsReadAlone, IsReadUncounted}
use Rattle.icu_collator_core.specs.Pools.{element_of}
use Rattle.icu_collator_core.specs.Weights.{Weights}
use Rattle.icu_collator_core.proofs.lookups.MatchLemmas.{scalars_front}
use Rattle.icu_collator_core.proofs.lookups.OpenTextLemmas.{joining_ends, joining_stays}
use Rattle.icu_collator_core.proofs.lookups.LookedUpTextLemmas.{greatest_past}
use Rattle.icu_collator_core.proofs.readings.CaseLemmas.{reading_otherwise}

pub not_some : {A : Type 0} (o : Option A) → is_some o ≡ false → o ≡ None
not_some None e = refl
not_some (Some x) e = absurd (true≢false e)

module _ (canonical : Canonical) (weights : Weights) (c bits : ℕ) (alone : IsReadUncounted weights c bits) where
  -- no mark joins
  joining_none : (between ps : List Placed) → scalars (characters_of ps) ≡ true
      → joining canonical weights (c ∷ []) between ps ≡ record { text = c ∷ []; left = between ++ ps }
  unfolding joining
  joining_none between [] ok = ap (λ ps. record { text = c ∷ []; left = ps }) (sym (append-nil between))
  joining_none between (p ∷ ps) ok =
      let class = canonical.class p.character in
      let parts = and_parts (scalar p.character) (scalars (characters_of ps)) ok in
      let none : is_some (weights.recorded [] (c ∷ p.character ∷ [])) ≡ false = ap (λ o. is_some o) (alone.behind p.character [] (and_first p.character parts.0)) in
      elim (cases_Bool (class == 0)) [
        | inl e ↦ joining_ends canonical weights (c ∷ []) between p ps e
        | inr e ↦
            joining_stays canonical weights (c ∷ []) between p ps e
            (and_right (list_all (λ b. ltb (canonical.class b.character) class) between) (is_some (weights.recorded [] (c ∷ p.character ∷ []))) none)
            ∙ joining_none (between ++ p ∷ []) ps parts.1
            ∙ ap (λ qs. record { text = c ∷ []; left = qs }) (append_assoc between (p ∷ []) ps)
      ]
    where
      and_first : (m : ℕ) → scalar m ≡ true → scalars (m ∷ []) ≡ true
      and_first m e = and_from (scalar m) true e refl

  longer_none : (cs : List ℕ) → scalars cs ≡ true → (k : ℕ) → 1 < k → k ≤ suc (length cs) → recorded_length weights (c ∷ cs) k ≡ None
  longer_none cs ok zero past within = absurd (omega arith)
  longer_none cs ok (suc zero) past within = absurd (omega arith)
  longer_none [] ok (suc (suc j)) past within = absurd (omega arith)
  longer_none (d ∷ ds) ok (suc (suc j)) past within =
      ap (λ b. cond {A = Option ℕ} b (Some (suc (suc j))) None)
      (and_right (ltb 0 (suc (suc j))) (is_some (weights.recorded [] (c ∷ d ∷ take j ds)))
      (ap (λ (o : Option (List Element)). is_some o) (alone.behind d (take j ds) (scalars_front (suc j) (d ∷ ds) ok))))

  one_at_most : (list : List ℕ) → unwrap_or (at_greatest (recorded_length weights list) 1) 1 ≡ 1
  unfolding at_greatest
  one_at_most list = elim (is_some (weights.recorded [] (take 1 list))) as (λ b. unwrap_or (elim (cond {A = Option ℕ} (ltb 0 1 && b) (Some 1) None) as (λ _. Option ℕ) [ Some x ↦ Some x | None ↦ None ]) 1 ≡ 1) [ true ↦ refl | false ↦ refl ]

  one_matches : (cs : List ℕ) → scalars cs ≡ true → match_length weights (c ∷ cs) ≡ 1
  one_matches cs ok =
      ap (λ (o : Option ℕ). unwrap_or o 1)
      (greatest_past (recorded_length weights (c ∷ cs)) 1 (suc (length cs)) (omega arith) (longer_none cs ok))
      ∙ one_at_most (c ∷ cs)

  text_alone : (p : Placed) (ps : List Placed) → p.character ≡ c → scalars (characters_of ps) ≡ true
      → text_reading canonical weights c (p ∷ ps) ≡ record { elements = element_of bits ∷ []; left = ps }
  unfolding text_reading text_match
  text_alone p ps is ok =
      let of : Joining → Reading = λ match. record { elements = unwrap_or (weights.recorded [] match.text) (default_elements weights c); left = match.left } in
      let Match : List ℕ → ℕ → Joining = λ list n. joining canonical weights (take n list) [] (drop n (p ∷ ps)) in
      ap of
      (ap (λ x. Match (x ∷ characters_of ps) (match_length weights (x ∷ characters_of ps))) is
      ∙ ap (Match (c ∷ characters_of ps)) (one_matches (characters_of ps) ok)
      ∙ joining_none [] ps ok)
      ∙ ap (λ (es : List Element). record { elements = es; left = ps }) alone.elements

  -- the reading is its element alone, where it isn't read as a digit and is no dot that is dropped
  pub uncounted_read : (numeric : Bool) (p : Placed) (ps : List Placed) → p.character ≡ c → scalars p.before ≡ true → scalars (characters_of ps) ≡ true
      → special_primary c ≡ None → (numeric && is_some (weights.digit c)) ≡ false → (weights.dot_above && (c == 0x307)) ≡ false
      → reading canonical weights numeric p ps ≡ record { elements = element_of bits ∷ []; left = ps }
  uncounted_read numeric p ps is before behind ordinary uncounted undropped =
      reading_otherwise canonical weights numeric p ps (ap special_primary is ∙ ordinary)
      (ap (λ x. numeric && is_some (weights.digit x)) is ∙ uncounted)
      (ap (λ x. weights.dot_above && (x == 0x307) && is_before_accent ps) is ∙ ap (λ b. b && is_before_accent ps) undropped)
      ∙ ap (λ (o : Option (List Element)). elim o as (λ _. Reading) [ Some es ↦ record { elements = es; left = ps } | None ↦ text_reading canonical weights p.character (p ∷ ps) ]) (alone.before p is before)
      ∙ ap (λ x. text_reading canonical weights x (p ∷ ps)) is
      ∙ text_alone p ps is behind

-- the same of one that is no digit and no dot above
pub alone_read : (canonical : Canonical) (weights : Weights) (c bits : ℕ) → IsReadAlone weights c bits
    → (numeric : Bool) (p : Placed) (ps : List Placed) → p.character ≡ c → scalars p.before ≡ true → scalars (characters_of ps) ≡ true
    → special_primary c ≡ None → (c == 0x307) ≡ false
    → reading canonical weights numeric p ps ≡ record { elements = element_of bits ∷ []; left = ps }
alone_read canonical weights c bits alone numeric p ps is before behind ordinary undotted =
    uncounted_read canonical weights c bits alone.uncounted numeric p ps is before behind ordinary
    (and_right numeric (is_some (weights.digit c)) (ap (λ o. is_some o) alone.digit)) (and_right weights.dot_above (c == 0x307) undotted)
