-- One step of a loop over a list: what is asked of the rest of it, at one element.
use Rattle.std.proofs.Common.{◌≡◌, ℕ, suc, ◌+◌, ◌-◌, ◌<◌, Bool, true, false, ◌&&◌, ◌||◌, List, ◌∷◌, length, get_or, take, drop, sym, ◌∙◌, ap, add-one, arith}
use Rattle.std.specs.Prelude.{ltb}
use Rattle.std.specs.List.{list_all, list_any}
use Rattle.std.proofs.lemmas.List.{length-drop, take_all}
use Rattle.std.proofs.Math.Seq.{drop-cons}
use Rattle.collate_rules.specs.RecordRules.{has_starter_behind, is_disordered}

-- the rest from an element on
pub rest_from : {A : Type 0} (xs : List A) (i : ℕ) (x : A) → i < length xs → x ≡ get_or xs i x → drop i xs ≡ x ∷ drop (i + 1) xs
rest_from xs i x within is = drop-cons xs i x within ∙ ap (λ y. y ∷ drop (suc i) xs) (sym is) ∙ ap (λ k. x ∷ drop k xs) (sym (add-one i))

module _ {A : Type 0} (p : A → Bool) (xs : List A) (i : ℕ) (x : A) (within : i < length xs) (is : x ≡ get_or xs i x) where
  pub any_hit : p x ≡ true → list_any p (drop i xs) ≡ list_any p xs → true ≡ list_any p xs
  any_hit h inv = sym (ap (λ (b : Bool). b || list_any p (drop (i + 1) xs)) h) ∙ sym (ap (list_any p) (rest_from xs i x within is)) ∙ inv

  pub any_miss : p x ≡ false → list_any p (drop i xs) ≡ list_any p xs → list_any p (drop (i + 1) xs) ≡ list_any p xs
  any_miss h inv = sym (ap (λ (b : Bool). b || list_any p (drop (i + 1) xs)) h) ∙ sym (ap (list_any p) (rest_from xs i x within is)) ∙ inv

  pub all_hit : p x ≡ false → list_all p (drop i xs) ≡ list_all p xs → false ≡ list_all p xs
  all_hit h inv = sym (ap (λ (b : Bool). b && list_all p (drop (i + 1) xs)) h) ∙ sym (ap (list_all p) (rest_from xs i x within is)) ∙ inv

  pub all_miss : p x ≡ true → list_all p (drop i xs) ≡ list_all p xs → list_all p (drop (i + 1) xs) ≡ list_all p xs
  all_miss h inv = sym (ap (λ (b : Bool). b && list_all p (drop (i + 1) xs)) h) ∙ sym (ap (list_all p) (rest_from xs i x within is)) ∙ inv

-- the rest as a slice to the end
rest_part : (xs : List ℕ) (k : ℕ) → take (length xs - k) (drop k xs) ≡ drop k xs
rest_part xs k = take_all (length xs - k) (drop k xs) (omega (arith, length-drop k xs))

module _ (m s : ℕ → Bool) (xs : List ℕ) (i x : ℕ) (within : i < length xs) (is : x ≡ get_or xs i x) where
  abbrev behind : List ℕ
  behind = take (length xs - (i + 1)) (drop (i + 1) xs)

  at : (b : Bool) → (m x && list_any s behind) ≡ b → has_starter_behind m s (drop i xs) ≡ (b || has_starter_behind m s (drop (i + 1) xs))
  at b h =
      ap (has_starter_behind m s) (rest_from xs i x within is)
      ∙ ap (λ (c : Bool). c || has_starter_behind m s (drop (i + 1) xs)) (ap (λ (ys : List ℕ). m x && list_any s ys) (sym (rest_part xs (i + 1))) ∙ h)

  pub behind_hit : (m x && list_any s behind) ≡ true → has_starter_behind m s (drop i xs) ≡ has_starter_behind m s xs → true ≡ has_starter_behind m s xs
  behind_hit h inv = sym (at true h) ∙ inv

  pub behind_miss : (m x && list_any s behind) ≡ false → has_starter_behind m s (drop i xs) ≡ has_starter_behind m s xs
      → has_starter_behind m s (drop (i + 1) xs) ≡ has_starter_behind m s xs
  behind_miss h inv = sym (at false h) ∙ inv

module _ (f : ℕ → ℕ) (xs : List ℕ) (i a b : ℕ) (within : i + 1 < length xs) (first : a ≡ get_or xs i a) (second : b ≡ get_or xs (i + 1) b) where
  abbrev is_pair : Bool
  is_pair = ltb 0 (f b) && ltb (f b) (f a)

  two : is_disordered f (drop i xs) ≡ (is_pair || is_disordered f (drop (i + 1) xs))
  two =
      let front = rest_from xs i a (omega (arith, within)) first in
      let next = rest_from xs (i + 1) b within second in
      ap (is_disordered f) (front ∙ ap (λ (ys : List ℕ). a ∷ ys) next) ∙ ap (λ (ys : List ℕ). is_pair || is_disordered f ys) (sym next)

  pub disordered_hit : is_pair ≡ true → is_disordered f (drop i xs) ≡ is_disordered f xs → true ≡ is_disordered f xs
  disordered_hit h inv = sym (two ∙ ap (λ (c : Bool). c || is_disordered f (drop (i + 1) xs)) h) ∙ inv

  pub disordered_miss : is_pair ≡ false → is_disordered f (drop i xs) ≡ is_disordered f xs → is_disordered f (drop (i + 1) xs) ≡ is_disordered f xs
  disordered_miss h inv = sym (two ∙ ap (λ (c : Bool). c || is_disordered f (drop (i + 1) xs)) h) ∙ inv
