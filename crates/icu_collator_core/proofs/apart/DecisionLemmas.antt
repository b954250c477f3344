-- What the lists of all that tables spell say of the tables.
use Rattle.std.proofs.Common.{◌≡◌, ◌↔◌, inl, inr, ⊎_elim, ℕ, ◌/◌, ◌^◌, Bool, true, false, List, Option, Some, None, MatchOption, IsTrue, refl, sym, ap, ◌∙◌, subst, slice_index}
use Rattle.std.specs.List.{Contains, list_all}
use Rattle.std.proofs.lemmas.Bool.{false≢true}
use Rattle.icu_collator_types.specs.declared.elements.Element.{Element}
use Rattle.icu_collator_core.specs.declared.tables.CollationTables.{CollationTables}
use Rattle.icu_collator_core.specs.declared.tables.data.CollationData.{CollationData}
use Rattle.icu_collator_core.specs.Pools.{index_of, offset_primary}
use Rattle.icu_collator_core.specs.PrefixFaults.{AreWeightsApart, IsRanged, IsRangedIn, IsSpelled}
use Rattle.icu_collator_core.specs.WeightLists.{IsLeadOf, IsRangedLead, Lists, is_beside_lead}
use Rattle.icu_collator_core.specs.WeightRules.{are_apart_elements, is_beside_ranged}
use Rattle.icu_collator_core.proofs.apart.ApartSpellingLemmas.{all_pass, lead_of_range}

-- ---- Leads of ranges

lead_in : (source : CollationData) (p : ℕ) → IsRangedIn source p → IsLeadOf source (p / 2 ^ 24)
lead_in source p r =
    (r.1, (r.0, r.2), (r.3, ap (λ n. n / 2 ^ 24) r.4 ∙ lead_of_range (slice_index source.ces (index_of r.1)) r.0))

range_in : (source : CollationData) (lead : ℕ) → IsLeadOf source lead → (p : ℕ) × IsRangedIn source p × (p / 2 ^ 24 ≡ lead)
range_in source lead w =
    let bits = slice_index source.ces (index_of w.0) in
    (offset_primary bits w.1.0, (w.1.0, w.0, w.1.1, w.2.0, refl), lead_of_range bits w.1.0 ∙ sym w.2.1)

lead_option : (o : Option CollationData) (p : ℕ) → MatchOption o ⊥ (λ source. IsRangedIn source p) → MatchOption o ⊥ (λ source. IsLeadOf source (p / 2 ^ 24))
lead_option (Some source) p r = lead_in source p r
lead_option None p r = r

range_option : (o : Option CollationData) (lead : ℕ) → MatchOption o ⊥ (λ source. IsLeadOf source lead)
    → (p : ℕ) × MatchOption o ⊥ (λ source. IsRangedIn source p) × (p / 2 ^ 24 ≡ lead)
range_option (Some source) lead w = range_in source lead w
range_option None lead w = absurd w

lead_from : (tables : CollationTables) (p : ℕ) → IsRanged tables p → IsRangedLead tables (p / 2 ^ 24)
lead_from tables p r = ⊎_elim (λ h. inl (lead_in tables.root p h)) (λ h. inr (lead_option tables.tailoring p h)) r

range_from : (tables : CollationTables) (lead : ℕ) → IsRangedLead tables lead → (p : ℕ) × IsRanged tables p × (p / 2 ^ 24 ≡ lead)
range_from tables lead w =
    ⊎_elim
    (λ h. let r = range_in tables.root lead h in (r.0, inl r.1, r.2))
    (λ h. let r = range_option tables.tailoring lead h in (r.0, inr r.1, r.2))
    w

-- ---- The decision

module _ (tables : CollationTables) (elements : List Element) (leads : List ℕ)
    (spelled : Lists (IsSpelled tables) elements) (ranged : Lists (IsRangedLead tables) leads) where
  abbrev are_beside : Bool
  are_beside = list_all (λ lead. list_all (is_beside_lead lead) elements) leads

  abbrev AllApart : Type 0
  AllApart = (d e : Element) → Contains elements d → Contains elements e → are_apart_elements d e ≡ true

  all_beside : are_beside ≡ true → (p : ℕ) (e : Element) → IsRanged tables p → IsSpelled tables e → is_beside_ranged p e ≡ true
  all_beside t p e r s =
      let of_lead = (all_pass (λ lead. list_all (is_beside_lead lead) elements) leads).0 t (p / 2 ^ 24) ((ranged (p / 2 ^ 24)).1 (lead_from tables p r)) in
      (all_pass (is_beside_lead (p / 2 ^ 24)) elements).0 of_lead e ((spelled e).1 s)

  beside_all : AreWeightsApart tables → are_beside ≡ true
  beside_all apart =
      (all_pass (λ lead. list_all (is_beside_lead lead) elements) leads).1 (λ lead c.
      (all_pass (is_beside_lead lead) elements).1 (λ e k.
      let r = range_from tables lead ((ranged lead).0 c) in
      subst (λ lead. is_beside_lead lead e ≡ true) r.2 (apart.beside r.0 e r.1 ((spelled e).0 k))))

  pub decided : (answer beside : Bool) → beside ≡ are_beside → beside ≡ true → (IsTrue answer ↔ AllApart) → IsTrue answer ↔ AreWeightsApart tables
  decided answer beside is t told = (
    λ a. record {
      apart = λ d e s k. told.0 a d e ((spelled d).1 s) ((spelled e).1 k);
      beside = all_beside (sym is ∙ t);
    },
    λ apart. told.1 (λ d e c k. apart.apart d e ((spelled d).0 c) ((spelled e).0 k)),
  )

  pub refused : (beside : Bool) → beside ≡ are_beside → beside ≡ false → IsTrue false ↔ AreWeightsApart tables
  refused beside is f = (
    λ t. absurd (false≢true t),
    λ apart. sym f ∙ is ∙ beside_all apart,
  )
