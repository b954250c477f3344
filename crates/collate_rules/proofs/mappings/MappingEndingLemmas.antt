-- Steps without a loop end: a chain of steps never has a number twice.
use Rattle.std.proofs.Common.{◌≡◌, ℕ, zero, suc, ◌+◌, ◌<◌, ◌≤◌, List, [], ◌∷◌, ◌++◌, length, flat_map, eqb, false, refl, sym, subst, append-nil, arith, length-append, ⊎_elim}
use Rattle.std.specs.List.{Contains, list_any, IsDistinct}
use Rattle.std.specs.Cmp.{nat_eq_equiv}
use Rattle.std.proofs.lemmas.Bool.{eqb-true, false_from_ne_true}
use Rattle.std.proofs.lemmas.List.Elements.{Contains-push, Contains-append_right, Contains-append_left, Contains-push_cases}
use Rattle.std.proofs.lemmas.Map.Views.{Contains-from_any}
use Rattle.std.proofs.lemmas.Map.Keys.{IsDistinct-push}
use Rattle.std.proofs.lemmas.Map.Steps.{length-le_from_distinct_below}
use Rattle.icu_normalizer_core.specs.Canonical.{Reaches, stands, Leaves, nothing, unmapped, mapped}
use Rattle.icu_normalizer_core.proofs.settling.LeftLemmas.{left_append}
use Rattle.collate_rules.specs.Meaning.{expanded}
use Rattle.collate_rules.proofs.lists.RuleFullListLemmas.{by_first, expanded-suc}
use Rattle.collate_rules.proofs.mappings.LoopLemmas.{reaches_on}

pub Contains-head : (d : ℕ) (ds : List ℕ) → Contains (d ∷ ds) d
Contains-head d ds = Contains-append_left (d ∷ []) ds d (Contains-push [] d)

pub Contains-tail : (d : ℕ) (ds : List ℕ) (e : ℕ) → Contains ds e → Contains (d ∷ ds) e
Contains-tail d ds e h = Contains-append_right (d ∷ []) ds e h

-- what is left of each character, one after another
Leaves-each : (step : ℕ → List ℕ) (f : ℕ → List ℕ) (ds : List ℕ) → ((d : ℕ) → Contains ds d → Leaves step (d ∷ []) (f d)) → Leaves step ds (flat_map f ds)
Leaves-each step f [] each = nothing
Leaves-each step f (d ∷ ds) each =
    left_append step (d ∷ []) ds (f d) (flat_map f ds) (each d (Contains-head d ds)) (Leaves-each step f ds (λ e h. each e (Contains-tail d ds e h)))

-- what is left of a character, by its first step
Leaves-by_first : (step : ℕ → List ℕ) (n c : ℕ) (ds : List ℕ) → step c ≡ ds → ((d : ℕ) → Contains ds d → Leaves step (d ∷ []) (expanded step n d))
    → Leaves step (c ∷ []) (by_first step n c ds)
Leaves-by_first step n c [] e each = unmapped c [] [] e nothing
Leaves-by_first step n c (d ∷ ds) e each =
    mapped c d ds [] (flat_map (expanded step n) (d ∷ ds)) e
    (subst (λ (t : List ℕ). Leaves step t (flat_map (expanded step n) (d ∷ ds))) (sym (append-nil (d ∷ ds))) (Leaves-each step (expanded step n) (d ∷ ds) each))

-- what led to a character, in steps: numbers below a limit, none twice, and from each of them steps lead to the character
record LeadsTo (step : ℕ → List ℕ) (limit : ℕ) (seen : List ℕ) (c : ℕ) : Type 0 where
  distinct : IsDistinct eqb seen
  below : (d : ℕ) → Contains seen d → d < limit
  above : (d : ℕ) → Contains seen d → Reaches step (step d) c

module _ (step : ℕ → List ℕ) (limit : ℕ) (P : ℕ → Type 0) (within : (c : ℕ) → P c → c < limit) (keeps : (c d : ℕ) → P c → Contains (step c) d → P d)
    (no_loop : (c : ℕ) → Reaches step (step c) c → ⊥) where
  absent : (seen : List ℕ) (c : ℕ) → LeadsTo step limit seen c → list_any (eqb c) seen ≡ false
  absent seen c leads = false_from_ne_true _ (λ e. no_loop c (leads.above c (Contains-from_any eqb-true c seen e)))

  below_more : (seen : List ℕ) (c : ℕ) → P c → LeadsTo step limit seen c → (d : ℕ) → Contains (seen ++ c ∷ []) d → d < limit
  below_more seen c p leads d h =
      ⊎_elim (λ old. leads.below d old) (λ same. subst (λ (x : ℕ). x < limit) same (within c p)) (Contains-push_cases seen c d h)

  more : (seen : List ℕ) (c : ℕ) → P c → LeadsTo step limit seen c → (d : ℕ) → Contains (step c) d → LeadsTo step limit (seen ++ c ∷ []) d
  more seen c p leads d h = record {
    distinct = IsDistinct-push nat_eq_equiv seen c leads.distinct (absent seen c leads);
    below = below_more seen c p leads;
    above = λ f g. ⊎_elim
        (λ old. reaches_on step (step f) c d (leads.above f old) (stands (step c) d h))
        (λ same. subst (λ (x : ℕ). Reaches step (step x) d) same (stands (step c) d h))
        (Contains-push_cases seen c f g);
  }

  short : (seen : List ℕ) (c : ℕ) → P c → LeadsTo step limit seen c → length seen < limit
  short seen c p leads =
      let fits : length (seen ++ c ∷ []) ≤ limit =
      length-le_from_distinct_below (seen ++ c ∷ []) limit (IsDistinct-push nat_eq_equiv seen c leads.distinct (absent seen c leads))
      (λ q e. below_more seen c p leads q (Contains-from_any eqb-true q (seen ++ c ∷ []) e))
      in omega (arith, length-append seen (c ∷ []))

  ends_within : (n : ℕ) (seen : List ℕ) (c : ℕ) → P c → LeadsTo step limit seen c → limit ≤ n + length seen → Leaves step (c ∷ []) (expanded step n c)
  ends_within zero seen c p leads enough = absurd (omega (arith, short seen c p leads))
  ends_within (suc n) seen c p leads enough =
      subst (λ (t : List ℕ). Leaves step (c ∷ []) t) (sym (expanded-suc step n c))
      (Leaves-by_first step n c (step c) refl (λ d h. ends_within n (seen ++ c ∷ []) d (keeps c d p h) (more seen c p leads d h) (omega (arith, length-append seen (c ∷ [])))))

  -- as many steps as there are numbers below the limit leave nothing to do
  pub ends : (c : ℕ) → P c → Leaves step (c ∷ []) (expanded step limit c)
  unfolding IsDistinct
  ends c p = ends_within limit [] c p (record { distinct = tt; below = λ d h. absurd (omega (arith, h.1)); above = λ d h. absurd (omega (arith, h.1)) }) (omega arith)
