-- Lists that grow by just the items of a kind, step by step.
use Rattle.std.proofs.Common.{◌≡◌, ◌↔◌, ◌⊎◌, inl, inr, ⊎_elim, ℕ, zero, suc, ◌+◌, ◌<◌, ◌≤◌, List, [], ◌∷◌, ◌++◌, length, get_or, refl, sym, subst, arith}
use Rattle.std.specs.List.{Contains}
use Rattle.std.proofs.lemmas.Bool.{cases_lt}
use Rattle.std.proofs.lemmas.List.Elements.{Contains-append_left, Contains-append_right, Contains-append_cases}
use Rattle.icu_collator_core.specs.WeightLists.{Grows, Lists}

module _ {X : Type 0} where
  -- ---- Items of a list

  pub none_in : (x : X) → Contains [] x → ⊥
  none_in x w = absurd (omega (arith, w.1))

  pub first_in : (x : X) (xs : List X) → Contains (x ∷ xs) x
  first_in x xs = (0, omega arith, refl)

  pub later_in : (x y : X) (xs : List X) → Contains xs y → Contains (x ∷ xs) y
  later_in x y xs w = (suc w.0, (let lt = w.1 in omega arith), w.2)

  pub first_or_later : (x y : X) (xs : List X) → Contains (x ∷ xs) y → (x ≡ y) ⊎ Contains xs y
  first_or_later x y xs (zero, lt, e) = inl e
  first_or_later x y xs (suc k, lt, e) = inr (k, (let l = lt in omega arith), e)

  pub alone_in : (x y : X) → Contains (x ∷ []) y → y ≡ x
  alone_in x y w = ⊎_elim (λ e. sym e) (λ h. absurd (none_in y h)) (first_or_later x y [] w)

  -- what stands at an index within a list
  pub item_at : (xs : List X) (k : ℕ) → k < length xs → (x : X) × ((d : X) → get_or xs k d ≡ x)
  item_at [] k lt = absurd (omega (arith, lt))
  item_at (x ∷ xs) zero lt = (x, λ d. refl)
  item_at (x ∷ xs) (suc k) lt = item_at xs k (let l = lt in omega arith)

  -- ---- Growth

  pub grown_by_none : (P : X → Type 0) (xs : List X) → ((x : X) → P x → ⊥) → Grows P xs xs
  grown_by_none P xs none x = (λ w. inl w, λ s. ⊎_elim (λ w. w) (λ p. absurd (none x p)) s)

  pub grown_same : (P Q : X → Type 0) (xs ys : List X) → ((x : X) → P x ↔ Q x) → Grows P xs ys → Grows Q xs ys
  grown_same P Q xs ys same g x = (
    λ w. ⊎_elim (λ h. inl h) (λ p. inr ((same x).0 p)) ((g x).0 w),
    λ s. (g x).1 (⊎_elim (λ h. inl h) (λ q. inr ((same x).1 q)) s),
  )

  pub grown_twice : (P Q : X → Type 0) (xs ys zs : List X) → Grows P xs ys → Grows Q ys zs → Grows (λ x. P x ⊎ Q x) xs zs
  grown_twice P Q xs ys zs g h x = (
    λ w. ⊎_elim (λ b. ⊎_elim (λ a. inl a) (λ p. inr (inl p)) ((g x).0 b)) (λ q. inr (inr q)) ((h x).0 w),
    λ s. (h x).1 (⊎_elim (λ a. inl ((g x).1 (inl a))) (λ t. ⊎_elim (λ p. inl ((g x).1 (inr p))) (λ q. inr q) t) s),
  )

  pub grown_thrice : (P Q R : X → Type 0) (ws xs ys zs : List X) → Grows P ws xs → Grows Q xs ys → Grows R ys zs
      → Grows (λ x. P x ⊎ (Q x ⊎ R x)) ws zs
  grown_thrice P Q R ws xs ys zs g h i =
      grown_twice P (λ x. Q x ⊎ R x) ws xs zs g (grown_twice Q R xs ys zs h i)

  pub grown_behind : (P : X → Type 0) (xs ys zs : List X) → zs ≡ xs ++ ys → ((x : X) → Contains ys x ↔ P x) → Grows P xs zs
  grown_behind P xs ys zs e same =
      subst (λ zs. Grows P xs zs) (sym e) (λ x. (
        λ w. ⊎_elim (λ h. inl h) (λ h. inr ((same x).0 h)) (Contains-append_cases xs ys x w),
        λ s. ⊎_elim (λ h. Contains-append_left xs ys x h) (λ p. Contains-append_right xs ys x ((same x).1 p)) s,
      ))

  pub grown_by_one : (y : X) (xs zs : List X) → zs ≡ xs ++ y ∷ [] → Grows (λ x. x ≡ y) xs zs
  grown_by_one y xs zs e =
      grown_behind (λ x. x ≡ y) xs (y ∷ []) zs e (λ x. (λ w. alone_in y x w, λ same. subst (λ x. Contains (y ∷ []) x) (sym same) (first_in y [])))

  pub listed : (P : X → Type 0) (xs : List X) → Grows P [] xs → Lists P xs
  listed P xs g x = (λ w. ⊎_elim (λ h. absurd (none_in x h)) (λ p. p) ((g x).0 w), λ p. (g x).1 (inr p))

  pub listed_more : (P Q : X → Type 0) (xs ys : List X) → Lists P xs → Grows Q xs ys → Lists (λ x. P x ⊎ Q x) ys
  listed_more P Q xs ys l g x = (
    λ w. ⊎_elim (λ h. inl ((l x).0 h)) (λ q. inr q) ((g x).0 w),
    λ s. (g x).1 (⊎_elim (λ p. inl ((l x).1 p)) (λ q. inr q) s),
  )

  pub listed_same : (P Q : X → Type 0) (xs : List X) → ((x : X) → P x ↔ Q x) → Lists P xs → Lists Q xs
  listed_same P Q xs same l x = (λ w. (same x).0 ((l x).0 w), λ q. (l x).1 ((same x).1 q))

  -- ---- Growth by what stands at the first indices, or by what the first numbers give

  abbrev pub UpTo : (ℕ → X → Type 0) → ℕ → X → Type 0
  UpTo P i x = (k : ℕ) × (k < i) × P k x

  pub grown_up_to_none : (P : ℕ → X → Type 0) (xs : List X) → Grows (UpTo P 0) xs xs
  grown_up_to_none P xs = grown_by_none (UpTo P 0) xs (λ x w. absurd (omega (arith, w.1)))

  -- between two numbers nothing comes that the first doesn't give
  abbrev pub GivesNoMore : (ℕ → X → Type 0) → ℕ → ℕ → Type 0
  GivesNoMore P i j = (k : ℕ) (x : X) → i < k → k < j → P k x → P i x

  last_or_before : (P : ℕ → X → Type 0) (i j : ℕ) → i < j → GivesNoMore P i j → (x : X) → (UpTo P i x ⊎ P i x) ↔ UpTo P j x
  last_or_before P i j less no_more x = (
    λ s. ⊎_elim (λ w. (w.0, (let lt = w.1 in omega (arith, lt, less)), w.2)) (λ p. (i, less, p)) s,
    λ w. ⊎_elim
        (λ (lt : w.0 < i). inl (w.0, lt, w.2))
        (λ (ge : i ≤ w.0). inr (⊎_elim
        (λ (gt : i < w.0). no_more w.0 x gt w.1 w.2)
        (λ (le : w.0 ≤ i). subst (λ k. P k x) (omega (arith, le, ge)) w.2)
        (cases_lt i w.0)))
        (cases_lt w.0 i),
  )

  pub grown_up_to_later : (P : ℕ → X → Type 0) (i j : ℕ) → i < j → GivesNoMore P i j → (xs ys zs : List X)
      → Grows (UpTo P i) xs ys → Grows (P i) ys zs → Grows (UpTo P j) xs zs
  grown_up_to_later P i j less no_more xs ys zs g h =
      grown_same (λ x. UpTo P i x ⊎ P i x) (UpTo P j) xs zs (last_or_before P i j less no_more) (grown_twice (UpTo P i) (P i) xs ys zs g h)

  pub grown_up_to_next : (P : ℕ → X → Type 0) (i : ℕ) (xs ys zs : List X) → Grows (UpTo P i) xs ys → Grows (P i) ys zs
      → Grows (UpTo P (i + 1)) xs zs
  grown_up_to_next P i = grown_up_to_later P i (i + 1) (omega arith) (λ k x gt lt. absurd (omega (arith, gt, lt)))

  pub grown_where : (A : Type 0) (P : X → Type 0) (xs ys : List X) → A → Grows P xs ys → Grows (λ x. A × P x) xs ys
  grown_where A P xs ys a g = grown_same P (λ x. A × P x) xs ys (λ x. (λ p. (a, p), λ w. w.1)) g
