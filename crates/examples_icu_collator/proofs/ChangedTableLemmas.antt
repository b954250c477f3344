-- The table with a record that has changed says the same of a text that doesn't reach it.
use Rattle.std.proofs.Common.{◌≡◌, ◌≢◌, ℕ, List, [], ◌∷◌, refl, sym, subst, ◌==◌, ◌&&◌, ◌⊎◌, inl, inr, arith, Option, Some, None}
use Rattle.std.proofs.lemmas.Bool.{cond_both, and_parts, eqb-true}
use Rattle.std.proofs.lemmas.List.Elements.{All-from_recursion, All-contains}
use Rattle.std.specs.Prelude.{All}
use Rattle.icu_normalizer_core.specs.BuiltIn.{built_in_step, built_in_compatibility_step, singled_out}
use Rattle.icu_normalizer_core.specs.Canonical.{Reaches, stands, steps}
use Rattle.icu_collator_types.specs.declared.elements.Element.{Element}
use Rattle.icu_collator_core.specs.Sameness.{AreSameLeads, AreSameMappings, AreSameOf}
use Rattle.icu_collator_core.specs.SameSettings.{AreSameSettings}
use Rattle.examples_icu_collator.specs.Letters.{acute_composed, letters}
use Rattle.examples_icu_collator.specs.SameTables.{changed_collation, ranged_collation, ReachesNoB}
use Rattle.examples_icu_collator.specs.Tables.{is_same_text, recorded_of, step_of}

-- the record is found for no text that begins otherwise
recorded_alike : (before : List ℕ) (c : ℕ) (rest : List ℕ) → c ≢ 0x62
    → ranged_collation.weights.recorded before (c ∷ rest) ≡ changed_collation.weights.recorded before (c ∷ rest)
unfolding recorded_of
recorded_alike before c rest ne =
    let own = ranged_collation.weights.recorded before (c ∷ rest)
    in cond_both (is_same_text [] before && ((0x62 == c) && is_same_text [] rest)) _ None
    (λ (o : Option (List Element)). own ≡ elim o as (λ _. Option (List Element)) [ Some y ↦ Some y | None ↦ own ])
    (λ t.
    let is = eqb-true 0x62 c (and_parts (0x62 == c) (is_same_text [] rest) (and_parts (is_same_text [] before) _ t).1).0
    in absurd (ne (sym is)))
    (λ _. refl)

pub same_steps : (text : List ℕ) → AreSameMappings (Reaches letters.step text) ranged_collation.canonical changed_collation.canonical
same_steps text = record { class = λ c r. refl; step = λ c r. refl }

pub read_alike : (text : List ℕ) → ReachesNoB text → AreSameOf ranged_collation changed_collation text
read_alike text none =
    record {
      mappings = same_steps text;
      readings =
          record {
            recorded = λ before c rest p r q. recorded_alike before c rest (none c r);
            digit = λ c r. refl;
            ranged_primary = λ c r n. refl;
            numeric_lead = refl;
            dot_above = refl;
          };
    }

pub same_settings : AreSameSettings ranged_collation changed_collation
same_settings = record { reordered = λ p. refl; backward = refl; groups = refl }

pub same_leads : AreSameLeads ranged_collation.weights changed_collation.weights
same_leads lead = refl

-- "a" with an acute, the two, and a dot below
abbrev IsOfAcute : ℕ → Type 0
IsOfAcute c = (c ≡ 0xe1) ⊎ ((c ≡ 0x323) ⊎ ((c ≡ 0x61) ⊎ (c ≡ 0x301)))

step_of_acute : (c : ℕ) → IsOfAcute c → All IsOfAcute (letters.step c)
unfolding step_of built_in_step built_in_compatibility_step singled_out
step_of_acute c k =
    let P : ℕ → Type 0 = λ x. All IsOfAcute (letters.step x)
    in elim k [
      | inl is ↦
          subst P (sym is) (All-from_recursion IsOfAcute (letters.step 0xe1) (inr (inr (inl refl)), (inr (inr (inr refl)), tt)))
      | inr k ↦
          elim k [
            | inl is ↦ subst P (sym is) (All-from_recursion IsOfAcute (letters.step 0x323) tt)
            | inr k ↦
                elim k [
                  | inl is ↦ subst P (sym is) (All-from_recursion IsOfAcute (letters.step 0x61) tt)
                  | inr is ↦ subst P (sym is) (All-from_recursion IsOfAcute (letters.step 0x301) tt)
                ]
          ]
    ]

reached_of_acute : (text : List ℕ) (c : ℕ) → All IsOfAcute text → Reaches letters.step text c → IsOfAcute c
reached_of_acute text c all (stands t x h) = All-contains IsOfAcute t x all h
reached_of_acute text c all (steps t x y h r) =
    reached_of_acute (letters.step x) y (step_of_acute x (All-contains IsOfAcute t x all h)) r

no_b : (c : ℕ) → IsOfAcute c → c ≢ 0x62
no_b c k = grind arith

pub acute_reaches_no_b : ReachesNoB acute_composed
acute_reaches_no_b c r =
    no_b c (reached_of_acute acute_composed c (All-from_recursion IsOfAcute acute_composed (inl refl, (inr (inl refl), tt))) r)
