-- Notes of characters, one after another.
use Rattle.std.proofs.Common.{◌≡◌, ℕ, ◌+◌, ◌<◌, ◌≤◌, List, [], ◌∷◌, ◌++◌, ⊎_elim, get_or, length, sym, subst, arith}
use Rattle.std.proofs.lemmas.Bool.{cases_lt}
use Rattle.std.proofs.lemmas.List.{get_or_append_left, get_or_past, get_or_push, length_push}

-- notes of any kind: what is said of a character that has none is true of each
module _ {N : Type 0} (Says : ℕ → N → Type 0) (other : N) (nothing : (c : ℕ) → Says c other) where
  -- one of the next character
  pub noted_more : (notes : List N) (note : N) (code : ℕ) → length notes ≡ code
      → Says code note → ((c : ℕ) → Says c (get_or notes c other)) → (c : ℕ) → Says c (get_or (notes ++ note ∷ []) c other)
  noted_more notes note code many is are c =
      let more : length (notes ++ note ∷ []) ≡ length notes + 1 = length_push notes note in
      ⊎_elim
      (λ (before : c < code).
      let inside : c < length notes = omega arith in
      subst (λ (n : N). Says c n) (sym (get_or_append_left notes (note ∷ []) other c inside)) (are c))
      (λ (behind : code ≤ c). ⊎_elim
      (λ (past : code < c).
      let beyond : length (notes ++ note ∷ []) ≤ c = omega arith in
      subst (λ (n : N). Says c n) (sym (get_or_past (notes ++ note ∷ []) c other beyond)) (nothing c))
      (λ (near : c ≤ code).
      let here : c ≡ code = omega arith in
      let last : length notes ≡ c = omega arith in
      subst (λ (n : N). Says c n) (sym (get_or_push notes note other c last)) (subst (λ (d : ℕ). Says d note) (sym here) is))
      (cases_lt code c))
      (cases_lt c code)
