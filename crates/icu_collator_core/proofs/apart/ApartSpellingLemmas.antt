-- The elements that words spell and the leads that they give, gathered; and what is decided of them.
use Rattle.std.proofs.Common.{◌≡◌, ◌↔◌, ◌⊎◌, inl, inr, ⊎_elim, ℕ, ◌/◌, ◌^◌, Bool, true, List, [], ◌∷◌, Option, Some, None, MatchOption, IsTrue, refl, sym, ◌∙◌, subst, arith, unwrap_or}
use Rattle.std.specs.List.{Contains, list_all}
use Rattle.std.proofs.lemmas.Bool.{and_from, and_parts}
use Rattle.icu_collator_core.specs.Pools.{offset_primary}
use Rattle.icu_collator_core.proofs.apart.GrowthLemmas.{first_in, first_or_later, later_in, none_in}
use Rattle.icu_collator_core.proofs.weights.RangePrimaryLemmas.{moved_lead}

-- ---- What words give

module _ {X : Type 0} where
  -- items of a list that may be missing
  pub optional : (o : Option (List X)) (x : X) → Contains (unwrap_or o []) x ↔ ((xs : List X) × (o ≡ Some xs) × Contains xs x)
  optional (Some ys) x = (λ h. (ys, refl, h), λ w. subst (λ o. Contains (unwrap_or o []) x) (sym w.1) w.2)
  optional None x = (λ h. absurd (none_in x h), λ w. subst (λ o. Contains (unwrap_or o []) x) (sym w.1) w.2)

  -- what words give, where the words are known
  pub given_in : (IsIn : ℕ → ℕ → Type 0) (Gives : ℕ → X → Type 0) (words : List ℕ)
      → ((word : ℕ) → Contains words word ↔ ((c : ℕ) × IsIn c word)) → (x : X)
      → ((word : ℕ) × Contains words word × Gives word x) ↔ ((c : ℕ) × (word : ℕ) × IsIn c word × Gives word x)
  given_in IsIn Gives words told x = (
    λ w. let h = (told w.0).0 w.1 in (h.0, w.0, h.1, w.2),
    λ v. (v.1, (told v.1).1 (v.0, v.2), v.3),
  )

  pub given_by : (IsOne : ℕ → Type 0) (Gives : ℕ → X → Type 0) (words : List ℕ) → ((word : ℕ) → Contains words word ↔ IsOne word) → (x : X)
      → ((word : ℕ) × Contains words word × Gives word x) ↔ ((word : ℕ) × IsOne word × Gives word x)
  given_by IsOne Gives words told x = (λ w. (w.0, (told w.0).0 w.1, w.2), λ w. (w.0, (told w.0).1 w.1, w.2))

  pub given_by_both : (Gives : ℕ → X → Type 0) (f : ℕ → ℕ) (words firsts seconds : List ℕ)
      → ((word : ℕ) → Contains words word ↔ (((n : ℕ) × Contains firsts n × (word ≡ f n)) ⊎ Contains seconds word)) → (x : X)
      → ((word : ℕ) × Contains words word × Gives word x)
      ↔ (((n : ℕ) × Contains firsts n × Gives (f n) x) ⊎ ((word : ℕ) × Contains seconds word × Gives word x))
  given_by_both Gives f words firsts seconds told x = (
    λ w. ⊎_elim
        (λ h. inl (h.0, h.1, subst (λ word. Gives word x) h.2 w.2))
        (λ h. inr (w.0, h, w.2))
        ((told w.0).0 w.1),
    λ s. ⊎_elim
        (λ h. (f h.0, (told (f h.0)).1 (inl (h.0, h.1, refl)), h.2))
        (λ h. (h.0, (told h.0).1 (inr h.1), h.2))
        s,
  )

module _ {S : Type 0} (P : S → Type 0) where
  pub there_is : (o : Option S) (s : S) → o ≡ Some s → P s ↔ MatchOption o ⊥ P
  there_is o s e = subst (λ o. P s ↔ MatchOption o ⊥ P) (sym e) (λ p. p, λ p. p)

-- ---- Tests of all

module _ {X : Type 0} (p : X → Bool) where
  pub all_pass : (xs : List X) → IsTrue (list_all p xs) ↔ ((x : X) → Contains xs x → p x ≡ true)
  all_pass [] = (λ t x c. absurd (none_in x c), λ h. refl)
  all_pass (y ∷ ys) = (
    λ t x c.
        let both = and_parts (p y) (list_all p ys) t in
        ⊎_elim (λ e. subst (λ x. p x ≡ true) e both.0) (λ l. (all_pass ys).0 both.1 x l) (first_or_later y x ys c),
    λ h. and_from (p y) (list_all p ys) (h y (first_in y ys)) ((all_pass ys).1 (λ x c. h x (later_in y x ys c))),
  )

-- ---- Leads of ranges

pub lead_of_range : (bits c : ℕ) → offset_primary bits c / 2 ^ 24 ≡ bits / 2 ^ 56
unfolding offset_primary
lead_of_range bits c = moved_lead _ (bits / 2 ^ 32) _ ∙ omega arith
