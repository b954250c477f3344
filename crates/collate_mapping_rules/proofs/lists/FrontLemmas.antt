-- The fronts of full lists, one character after another in the order of their steps.
use Rattle.std.proofs.Common.{◌≡◌, ◌≢◌, ℕ, zero, suc, ◌+◌, ◌-◌, ◌<◌, ◌≤◌, min, List, [], ◌∷◌, ◌++◌, length, flat_map, refl, sym, ap, ◌∙◌, subst, arith, length-append, Option, Some, cond, eqb, ⊎_elim}
use Rattle.std.specs.BTreeMap.{BTreeMap, get}
use Rattle.std.specs.Ordering.{nat_cmp}
use Rattle.std.proofs.lemmas.Bool.{cases_eq, cond-true, cond-false, eq-eqb, ne_eqb}
use Rattle.collate_mapping_rules.specs.Fronts.{AreFronts}
use Rattle.std.specs.List.{Contains, slice_get, slice_index}
use Rattle.std.specs.Option.{option_or}
use Rattle.icu_normalizer_core.specs.StepOrder.{AreInOrder}
use Rattle.collate_rules.specs.Meaning.{expanded}
use Rattle.collate_rules.specs.Lists.{IsFront}
use Rattle.collate_rules.specs.declared.full_list.Front.{Front}
use Rattle.collate_rules.proofs.lists.RuleFullListLemmas.{by_first, expanded-suc, expanded_some, expanded_unmapped}

-- the first of two lists, one after the other
pub first_of_two : (xs ys : List ℕ) → slice_get (xs ++ ys) 0 ≡ option_or (slice_get xs 0) (slice_get ys 0)
first_of_two [] ys = refl
first_of_two (x ∷ xs) ys = refl

-- the front of two lists
pub front_of_two : (front more both : Front) (xs ys : List ℕ) → both.first ≡ option_or front.first more.first
    → both.count ≡ min (min (front.count + more.count) 255) 9 → IsFront front xs → IsFront more ys → IsFront both (xs ++ ys)
front_of_two front more both xs ys first count h k =
    let n = h.1 in let m = k.1 in let l = length-append xs ys in (
      first ∙ ap (λ (o : Option ℕ). option_or o more.first) h.0 ∙ ap (option_or (slice_get xs 0)) k.0 ∙ sym (first_of_two xs ys),
      omega arith,
    )

-- the front of a list of over eight characters is that of any longer one
pub front_of_long : (front : Front) (xs ys : List ℕ) → 8 < front.count → IsFront front xs → IsFront front (xs ++ ys)
front_of_long front [] ys more h = let n = h.1 in absurd (omega arith)
front_of_long front (x ∷ xs) ys more h = let n = h.1 in let l = length-append (x ∷ xs) ys in (h.0, omega arith)

-- functions that agree on a list
flat_same : (f g : ℕ → List ℕ) (xs : List ℕ) → ((x : ℕ) → Contains xs x → f x ≡ g x) → flat_map f xs ≡ flat_map g xs
flat_same f g [] agree = refl
flat_same f g (x ∷ xs) agree =
    ap (λ (l : List ℕ). l ++ flat_map f xs) (agree x (0, omega arith, refl))
    ∙ ap (λ (l : List ℕ). g x ++ l) (flat_same f g xs (λ y h. let within = h.1 in agree y (suc h.0, omega arith, h.2)))

module _ (step : ℕ → List ℕ) (order : List ℕ) (in_order : AreInOrder step order) where
  -- one step more changes nothing, by what the first step gives
  stays_by : (m k : ℕ) (given : List ℕ) → step (slice_index order k) ≡ given
      → ((x : ℕ) → Contains given x → (n : ℕ) × (m ≡ suc n) × (expanded step n x ≡ expanded step (suc n) x))
      → expanded step m (slice_index order k) ≡ expanded step (suc m) (slice_index order k)
  stays_by m k [] e later = expanded_unmapped step m (slice_index order k) e ∙ sym (expanded_unmapped step (suc m) (slice_index order k) e)
  stays_by zero k (d ∷ ds) e later = let w = later d (0, omega arith, refl) in let n = w.1 in absurd (omega arith)
  stays_by (suc m) k (d ∷ ds) e later =
      expanded-suc step m (slice_index order k) ∙ ap (by_first step m (slice_index order k)) e
      ∙ flat_same (expanded step m) (expanded step (suc m)) (d ∷ ds)
      (λ x h. let w = later x h in let same : w.0 ≡ m = let n = w.1 in omega arith in
      let P : ℕ → Type 0 = λ n. expanded step n x ≡ expanded step (suc n) x in subst P same w.2)
      ∙ sym (expanded-suc step (suc m) (slice_index order k) ∙ ap (by_first step (suc m) (slice_index order k)) e)

  -- as many steps as there are indices before a character leave what more steps leave
  pub stays : (m k : ℕ) → k < length order → k ≤ m → expanded step m (slice_index order k) ≡ expanded step (suc m) (slice_index order k)
  stays zero k within low =
      stays_by zero k (step (slice_index order k)) refl (λ x h. let at = in_order.behind k within x h in let less = at.1 in absurd (omega arith))
  stays (suc m) k within low =
      stays_by (suc m) k (step (slice_index order k)) refl
      (λ x h. let at = in_order.behind k within x h in let less = at.1 in
      let P : ℕ → Type 0 = λ y. expanded step m y ≡ expanded step (suc m) y in
      (m, refl, subst P at.2 (stays m at.0 (omega arith) (omega arith))))

  -- the full list of a character by those of the characters that its step gives
  pub full_by_step : (n i c : ℕ) (given : List ℕ) → length order ≤ n → i < length order → c ≡ slice_index order i → given ≡ step c → given ≢ []
      → expanded step n c ≡ flat_map (expanded step n) given
  full_by_step n i c given fits within at e some =
      expanded_some step n c given (λ none. absurd (omega arith)) (sym e) some
      ∙ flat_same (expanded step (n - 1)) (expanded step n) given
      (λ x h. let P : List ℕ → Type 0 = λ l. Contains l x in
      let before = in_order.behind i within x (subst P (e ∙ ap step at) h) in
      let less = before.1 in
      let Q : ℕ → Type 0 = λ y. expanded step (n - 1) y ≡ expanded step (suc (n - 1)) y in
      let next : suc (n - 1) ≡ n = omega arith in
      subst Q before.2 (stays (n - 1) before.0 (omega arith) (omega arith)) ∙ ap (λ (m : ℕ). expanded step m x) next)

-- a front by the step, where it gives nothing and where it gives something
pub front_of_step : (full : ℕ → List ℕ) (c : ℕ) (given : List ℕ) (front : Front) → (given ≡ [] → IsFront front (c ∷ []))
    → (given ≢ [] → IsFront front (flat_map full given)) → (given ≡ [] → full c ≡ c ∷ []) → (given ≢ [] → full c ≡ flat_map full given) → IsFront front (full c)
front_of_step full c [] front alone joined none some = subst (IsFront front) (sym (none refl)) (alone refl)
front_of_step full c (d ∷ ds) front alone joined none some =
    let apart : d ∷ ds ≢ [] = λ e. cc in
    subst (IsFront front) (sym (some apart)) (joined apart)

-- one front more
pub front_noted : (full : ℕ → List ℕ) (before after : BTreeMap ℕ Front) (c : ℕ) (front : Front) → AreFronts full before → IsFront front (full c)
    → ((d : ℕ) → get nat_cmp after d ≡ cond (eqb d c) (Some front) (get nat_cmp before d)) → AreFronts full after
front_noted full before after c front so_far is noted d f e =
    ⊎_elim
    (λ (same : d ≡ c).
    let new : get nat_cmp after d ≡ Some front = noted d ∙ cond-true (eqb d c) (Some front) (get nat_cmp before d) (eq-eqb d c same) in
    let at : front ≡ f = cc in
    subst (λ (g : Front). IsFront g (full d)) at (subst (λ (n : ℕ). IsFront front (full n)) (sym same) is))
    (λ (apart : d ≢ c).
    so_far d f (sym (noted d ∙ cond-false (eqb d c) (Some front) (get nat_cmp before d) (ne_eqb d c apart)) ∙ e))
    (cases_eq d c)

-- what a step gives, put in a list that was cleared
pub step_read : (read given cleared stepped : List ℕ) → read ≡ given → given ≡ cleared ++ stepped → cleared ≡ [] → read ≡ stepped
step_read read given cleared stepped e f g = e ∙ f ∙ ap (λ (l : List ℕ). l ++ stepped) g
