-- A character put before a list whose marks are in order: its index, and the list that is left.
use Rattle.std.proofs.Common.{◌≡◌, ℕ, suc, ◌+◌, ◌-◌, ◌<◌, ◌≤◌, ◌&&◌, ltb, Bool, true, false, List, [], ◌∷◌, ◌++◌, length, get_or, take, drop, refl, sym, ap, ◌∙◌, append_assoc, add-one, drop-cons}
use Rattle.std.proofs.lemmas.Bool.{cond-true, cond-false}
use Rattle.std.proofs.lemmas.List.{take_more}
use Rattle.std.proofs.Math.ListN.{drop_of_length-le}
use Rattle.icu_normalizer_core.specs.Canonical.{put_in_order, marks_in_order}
use Rattle.collate_rules.specs.Meaning.{expanded}

module _ (class : ℕ → ℕ) where
  -- whether a mark of a class goes before a character
  abbrev passes : ℕ → ℕ → Bool
  passes c d = ltb 0 (class d) && ltb (class d) (class c)

  put_past : (c d : ℕ) (ds : List ℕ) → passes c d ≡ true → put_in_order class c (d ∷ ds) ≡ d ∷ put_in_order class c ds
  unfolding put_in_order
  put_past c d ds e = cond-true _ _ _ e

  pub put_here : (c d : ℕ) (ds : List ℕ) → passes c d ≡ false → put_in_order class c (d ∷ ds) ≡ c ∷ d ∷ ds
  unfolding put_in_order
  put_here c d ds e = cond-false _ _ _ e

  pub put_last : (c : ℕ) → put_in_order class c [] ≡ c ∷ []
  unfolding put_in_order
  put_last c = refl

  -- whether it does, by the two classes
  pub passes_as : (c d k m : ℕ) (b t : Bool) → k ≡ class d → m ≡ class c → b ≡ (ltb 0 k && ltb k m) → b ≡ t → passes c d ≡ t
  passes_as c d k m b t e f is h =
      sym (ap (λ (n : ℕ). ltb 0 n && ltb n (class c)) e) ∙ sym (ap (λ (n : ℕ). ltb 0 k && ltb k n) f) ∙ sym is ∙ h

  -- past a mark of a lower class
  pub index_further : (c : ℕ) (list : List ℕ) (i : ℕ) → i < length list → passes c (get_or list i 0) ≡ true
      → take (i + 1) list ++ put_in_order class c (drop (i + 1) list) ≡ take i list ++ put_in_order class c (drop i list)
  index_further c list i within e =
      let d = get_or list i 0 in
      ap (λ (l : List ℕ). l ++ put_in_order class c (drop (i + 1) list)) (take_more list i 0 within)
      ∙ append_assoc (take i list) (d ∷ []) (put_in_order class c (drop (i + 1) list))
      ∙ ap (λ (n : ℕ). take i list ++ d ∷ put_in_order class c (drop n list)) (add-one i)
      ∙ ap (λ (l : List ℕ). take i list ++ l) (sym (put_past c d (drop (suc i) list) e))
      ∙ ap (λ (l : List ℕ). take i list ++ put_in_order class c l) (sym (drop-cons list i 0 within))

  -- before what isn't one
  pub index_here : (c : ℕ) (list : List ℕ) (i : ℕ) → i < length list → passes c (get_or list i 0) ≡ false
      → take i list ++ put_in_order class c (drop i list) ≡ take i list ++ c ∷ drop i list
  index_here c list i within e =
      let d = get_or list i 0 in
      let rest = drop-cons list i 0 within in
      ap (λ (l : List ℕ). take i list ++ put_in_order class c l) rest
      ∙ ap (λ (l : List ℕ). take i list ++ l) (put_here c d (drop (suc i) list) e)
      ∙ ap (λ (l : List ℕ). take i list ++ c ∷ l) (sym rest)

  -- at the end
  pub index_last : (c : ℕ) (list : List ℕ) (i : ℕ) → length list ≤ i
      → take i list ++ put_in_order class c (drop i list) ≡ take i list ++ c ∷ drop i list
  index_last c list i past =
      let none : drop i list ≡ [] = drop_of_length-le list past in
      ap (λ (l : List ℕ). take i list ++ put_in_order class c l) none
      ∙ ap (λ (l : List ℕ). take i list ++ l) (put_last c)
      ∙ ap (λ (l : List ℕ). take i list ++ c ∷ l) (sym none)

  pub in_order_cons : (c : ℕ) (cs : List ℕ) → marks_in_order class (c ∷ cs) ≡ put_in_order class c (marks_in_order class cs)
  unfolding marks_in_order
  in_order_cons c cs = refl

  pub in_order_none : marks_in_order class [] ≡ []
  unfolding marks_in_order
  in_order_none = refl

  -- one character of a full list, put before what follows it
  pub put_one : (step : ℕ → List ℕ) (n c : ℕ) (old new rest : List ℕ) → expanded step n c ≡ c ∷ [] → old ≡ marks_in_order class rest
      → new ≡ put_in_order class c old → new ≡ marks_in_order class (expanded step n c ++ rest)
  put_one step n c old new rest one e put =
      put ∙ ap (put_in_order class c) e ∙ sym (in_order_cons c rest) ∙ ap (λ (l : List ℕ). marks_in_order class (l ++ rest)) (sym one)

  -- the full lists of the two characters of a mapping, the second first
  pub put_two : (step : ℕ → List ℕ) (n c d e : ℕ) (new rest : List ℕ) → expanded step n c ≡ expanded step (n - 1) d ++ expanded step (n - 1) e
      → new ≡ marks_in_order class (expanded step (n - 1) d ++ (expanded step (n - 1) e ++ rest)) → new ≡ marks_in_order class (expanded step n c ++ rest)
  put_two step n c d e new rest two put =
      put ∙ ap (marks_in_order class) (sym (append_assoc (expanded step (n - 1) d) (expanded step (n - 1) e) rest))
      ∙ ap (λ (l : List ℕ). marks_in_order class (l ++ rest)) (sym two)
