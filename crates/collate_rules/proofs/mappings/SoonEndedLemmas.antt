-- what ends after two steps, as what is built in does
use Rattle.std.proofs.Common.{◌≡◌, ℕ, suc, ◌*◌, ◌≤◌, List, [], ◌∷◌, ◌++◌, length, flat_map, All, refl, sym, ap, ◌∙◌, arith, subst, length-append}
use Rattle.std.proofs.lemmas.List.Elements.{All-cons, All-nil, All-head, All-tail}
use Rattle.collate_rules.specs.Meaning.{expanded}
use Rattle.collate_rules.proofs.lists.RuleFullListLemmas.{by_first, expanded-suc, expanded_unmapped}

module _ (step : ℕ → List ℕ) where
  -- no step leads on from what one step gives
  abbrev pub EndsSoon : ℕ → Type 0
  EndsSoon c = All (λ d. step d ≡ []) (step c)

  pub unmapped-ends_soon : (c : ℕ) → step c ≡ [] → EndsSoon c
  unmapped-ends_soon c e = subst (All (λ d. step d ≡ [])) (sym e) (All-nil (λ d. step d ≡ []))

  pub two-ends_soon : (c a b : ℕ) → step c ≡ a ∷ b ∷ [] → step a ≡ [] → step b ≡ [] → EndsSoon c
  two-ends_soon c a b e first second =
      subst (All (λ d. step d ≡ [])) (sym e)
      (All-cons (λ d. step d ≡ []) a (b ∷ []) first (All-cons (λ d. step d ≡ []) b [] second (All-nil (λ d. step d ≡ []))))

  -- what is left of characters that are left alone
  pub flat_map-unmapped : (n : ℕ) (ds : List ℕ) → All (λ d. step d ≡ []) ds → flat_map (expanded step (suc n)) ds ≡ ds
  flat_map-unmapped n [] h = refl
  flat_map-unmapped n (d ∷ ds) h =
      ap (λ xs. xs ++ flat_map (expanded step (suc n)) ds) (expanded_unmapped step (suc n) d (All-head (λ x. step x ≡ []) d ds h))
      ∙ ap (λ xs. d ∷ xs) (flat_map-unmapped n ds (All-tail (λ x. step x ≡ []) d ds h))

  pub short_by_first : (n c : ℕ) (ds : List ℕ) → All (λ d. step d ≡ []) ds → length ds ≤ 2 → length (by_first step (suc n) c ds) ≤ 2
  short_by_first n c [] h short = omega arith
  short_by_first n c (d ∷ ds) h short = let e = ap length (flat_map-unmapped n (d ∷ ds) h) in omega (arith, e)

  pub short_soon : ((c : ℕ) → length (step c) ≤ 2) → (n c : ℕ) → EndsSoon c → length (expanded step (suc (suc n)) c) ≤ 2
  short_soon short n c soon = subst (λ xs. length xs ≤ 2) (sym (expanded-suc step (suc n) c)) (short_by_first n c (step c) soon (short c))

  pub length-flat_map : (f : ℕ → List ℕ) (ds : List ℕ) → ((d : ℕ) → All EndsSoon (d ∷ []) → length (f d) ≤ 2) → All EndsSoon ds → length (flat_map f ds) ≤ 2 * length ds
  length-flat_map f [] each soon = omega arith
  length-flat_map f (d ∷ ds) each soon =
      let first = each d (All-cons EndsSoon d [] (All-head EndsSoon d ds soon) (All-nil EndsSoon)) in
      let rest = length-flat_map f ds each (All-tail EndsSoon d ds soon) in
      omega (arith, length-append (f d) (flat_map f ds))

  pub bounded_by_first : ((c : ℕ) → length (step c) ≤ 2) → (n c : ℕ) (ds : List ℕ) → All EndsSoon ds → length ds ≤ 2 → length (by_first step (suc (suc n)) c ds) ≤ 8
  bounded_by_first short n c [] soon few = omega arith
  bounded_by_first short n c (d ∷ ds) soon few =
      let h = length-flat_map (expanded step (suc (suc n))) (d ∷ ds) (λ e k. short_soon short n e (All-head EndsSoon e [] k)) soon in omega arith

  pub bounded_built_in : ((c : ℕ) → length (step c) ≤ 2) → (n c : ℕ) → All EndsSoon (step c) → length (expanded step (suc (suc (suc n))) c) ≤ 8
  bounded_built_in short n c soon =
      subst (λ xs. length xs ≤ 8) (sym (expanded-suc step (suc (suc n)) c)) (bounded_by_first short n c (step c) soon (short c))
