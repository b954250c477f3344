-- Lists that composing makes one character of.
use Rattle.std.proofs.Common.{◌≡◌, ◌≢◌, ℕ, ◌+◌, ◌-◌, ◌<◌, ◌≤◌, ⊎_elim, cond, ltb, List, [], ◌∷◌, ◌++◌, length, take, drop, slice_index, Option, Some, None, refl, sym, ap, subst, ◌∙◌, arith, length-append}
use Rattle.std.specs.List.{list_all}
use Rattle.std.proofs.lemmas.Bool.{cond-true, cond-false, cond_both, eq-eqb, ne_eqb, cases_eq}
use Rattle.std.proofs.lemmas.List.{append-nil, drop_more, take_all, length-drop}
use Rattle.std.proofs.Math.ListN.{drop_of_length-le}
use Rattle.icu_normalizer_core.specs.Canonical.{Canonical, is_starter, decomposed, marks_in_order, composing, recomposed, composed}

-- what composing makes of a list, once it is known whether the next character joins the starter
abbrev joined : Canonical → ℕ → List ℕ → ℕ → List ℕ → Option ℕ → List ℕ
joined canonical starter marks c cs o =
    let left = cond (is_starter canonical c) ((starter ∷ marks) ++ composing canonical c [] cs) (composing canonical starter (marks ++ c ∷ []) cs)
    in elim o [ Some z ↦ composing canonical z marks cs | None ↦ left ]

-- it keeps the starter and the marks
pub composing_long : (canonical : Canonical) (starter : ℕ) (marks cs : List ℕ) → length marks < length (composing canonical starter marks cs)
unfolding composing
composing_long canonical starter marks [] = omega arith
composing_long canonical starter marks (c ∷ cs) =
    elim (cond (list_all (λ m. ltb (canonical.class m) (canonical.class c)) marks) (canonical.pair starter c) None) as (λ o. length marks < length (joined canonical starter marks c cs o)) [
      | Some z ↦ composing_long canonical z marks cs
      | None ↦
          cond_both (is_starter canonical c) ((starter ∷ marks) ++ composing canonical c [] cs) (composing canonical starter (marks ++ c ∷ []) cs)
          (λ (xs : List ℕ). length marks < length xs)
          (λ _. omega (arith, length-append marks (composing canonical c [] cs)))
          (λ _. let kept = composing_long canonical starter (marks ++ c ∷ []) cs in omega (arith, kept, length-append marks (c ∷ [])))
    ]

-- the next character joins the starter
pub composing_joined : (canonical : Canonical) (starter d z : ℕ) (ds : List ℕ) → canonical.pair starter d ≡ Some z
    → composing canonical starter [] (d ∷ ds) ≡ composing canonical z [] ds
unfolding composing
composing_joined canonical starter d z ds e = ap (joined canonical starter [] d ds) e

-- or it stays
composing_apart : (canonical : Canonical) (starter d : ℕ) (ds : List ℕ) → canonical.pair starter d ≡ None
    → 2 ≤ length (composing canonical starter [] (d ∷ ds))
unfolding composing
composing_apart canonical starter d ds e =
    let same : composing canonical starter [] (d ∷ ds) ≡ joined canonical starter [] d ds None = ap (joined canonical starter [] d ds) e in
    subst (λ (xs : List ℕ). 2 ≤ length xs) (sym same)
    (cond_both (is_starter canonical d) ((starter ∷ []) ++ composing canonical d [] ds) (composing canonical starter (d ∷ []) ds) (λ (xs : List ℕ). 2 ≤ length xs)
    (λ _. let long = composing_long canonical d [] ds in omega (arith, long))
    (λ _. let long = composing_long canonical starter (d ∷ []) ds in omega (arith, long)))

pub not_one : (canonical : Canonical) (starter d c : ℕ) (ds : List ℕ) → canonical.pair starter d ≡ None → composing canonical starter [] (d ∷ ds) ≢ c ∷ []
not_one canonical starter d c ds e same = let long = composing_apart canonical starter d ds e in let size = ap length same in absurd (omega (arith, long, size))

-- nothing is left to compose
pub composing_end : (canonical : Canonical) (starter : ℕ) → composing canonical starter [] [] ≡ starter ∷ []
unfolding composing
composing_end canonical starter = refl

-- the same of a list from an index on
pub joined_at : (canonical : Canonical) (starter z i : ℕ) (rest : List ℕ) → i < length rest → canonical.pair starter (slice_index rest i) ≡ Some z
    → composing canonical starter [] (drop i rest) ≡ composing canonical z [] (drop (i + 1) rest)
joined_at canonical starter z i rest h e =
    ap (composing canonical starter []) (drop_more rest i 0 h) ∙ composing_joined canonical starter (slice_index rest i) z (drop (i + 1) rest) e

pub apart_at : (canonical : Canonical) (starter c i : ℕ) (rest : List ℕ) → i < length rest → canonical.pair starter (slice_index rest i) ≡ None
    → composing canonical starter [] (drop i rest) ≢ c ∷ []
apart_at canonical starter c i rest h e same =
    not_one canonical starter (slice_index rest i) c (drop (i + 1) rest) e (sym (ap (composing canonical starter []) (drop_more rest i 0 h)) ∙ same)

pub end_at : (canonical : Canonical) (starter i : ℕ) (rest : List ℕ) → length rest ≤ i → composing canonical starter [] (drop i rest) ≡ starter ∷ []
end_at canonical starter i rest h = ap (composing canonical starter []) (drop_of_length-le rest h) ∙ composing_end canonical starter

-- ---- Lists that begin with a starter, or a mark

pub recomposed_starter : (canonical : Canonical) (c : ℕ) (cs : List ℕ) → canonical.class c ≡ 0 → recomposed canonical (c ∷ cs) ≡ composing canonical c [] cs
unfolding recomposed
recomposed_starter canonical c cs e = cond-true _ _ _ (eq-eqb (canonical.class c) 0 e)

recomposed_mark : (canonical : Canonical) (c : ℕ) (cs : List ℕ) → canonical.class c ≢ 0 → recomposed canonical (c ∷ cs) ≡ c ∷ recomposed canonical cs
unfolding recomposed
recomposed_mark canonical c cs ne = cond-false _ _ _ (ne_eqb (canonical.class c) 0 ne)

pub recomposed_nothing : (canonical : Canonical) → recomposed canonical [] ≡ []
unfolding recomposed
recomposed_nothing canonical = refl

recomposed_long : (canonical : Canonical) (c : ℕ) (cs : List ℕ) → 0 < length (recomposed canonical (c ∷ cs))
recomposed_long canonical c cs =
    ⊎_elim
    (λ e. let long = composing_long canonical c [] cs in let size = ap length (recomposed_starter canonical c cs e) in omega (arith, long, size))
    (λ ne. let size = ap length (recomposed_mark canonical c cs ne) in omega (arith, size))
    (cases_eq (canonical.class c) 0)

-- a mark in front is one character only if it stands alone
pub mark_alone : (canonical : Canonical) (c : ℕ) → canonical.class c ≢ 0 → recomposed canonical (c ∷ []) ≡ c ∷ []
mark_alone canonical c ne = recomposed_mark canonical c [] ne ∙ ap (λ (xs : List ℕ). c ∷ xs) (recomposed_nothing canonical)

pub mark_first : (canonical : Canonical) (c d : ℕ) (cs : List ℕ) → canonical.class c ≢ 0 → recomposed canonical (c ∷ cs) ≡ d ∷ [] → (cs ≡ []) × (c ≡ d)
mark_first canonical c d [] ne e = (refl, (let same = sym (mark_alone canonical c ne) ∙ e in cc))
mark_first canonical c d (x ∷ xs) ne e =
    let same = sym (recomposed_mark canonical c (x ∷ xs) ne) ∙ e in
    let size = ap length same in
    let long = recomposed_long canonical x xs in
    absurd (omega (arith, size, long))

-- the same of a list by its first character and the others
front_is : (list : List ℕ) → 0 < length list → list ≡ slice_index list 0 ∷ drop 1 list
front_is [] h = absurd (omega arith)
front_is (x ∷ xs) h = refl

pub rest_whole : (list : List ℕ) → take (length list - 1) (drop 1 list) ≡ drop 1 list
rest_whole list = let size = length-drop 1 list in take_all (length list - 1) (drop 1 list) (omega arith)

nothing_is : (list : List ℕ) → length list ≡ 0 → list ≡ []
nothing_is [] e = refl
nothing_is (x ∷ xs) e = absurd (omega arith)

pub none_of_nothing : (canonical : Canonical) (list : List ℕ) (c : ℕ) → length list ≡ 0 → recomposed canonical list ≢ c ∷ []
none_of_nothing canonical list c e same =
    let none : [] ≡ c ∷ [] = sym (ap (recomposed canonical) (nothing_is list e) ∙ recomposed_nothing canonical) ∙ same in cc

pub one_of_mark : (canonical : Canonical) (list : List ℕ) (c : ℕ) → 0 < length list → canonical.class (slice_index list 0) ≢ 0 → length (drop 1 list) ≡ 0
    → slice_index list 0 ≡ c → recomposed canonical list ≡ c ∷ []
one_of_mark canonical list c h ne e at =
    ap (recomposed canonical) (front_is list h ∙ ap (λ (xs : List ℕ). slice_index list 0 ∷ xs) (nothing_is (drop 1 list) e))
    ∙ mark_alone canonical (slice_index list 0) ne
    ∙ ap (λ (x : ℕ). x ∷ []) at

pub mark_of_one : (canonical : Canonical) (list : List ℕ) (c : ℕ) → 0 < length list → canonical.class (slice_index list 0) ≢ 0 → recomposed canonical list ≡ c ∷ []
    → (length (drop 1 list) ≡ 0) × (slice_index list 0 ≡ c)
mark_of_one canonical list c h ne e =
    let w = mark_first canonical (slice_index list 0) c (drop 1 list) ne (sym (ap (recomposed canonical) (front_is list h)) ∙ e) in
    (ap length w.0, w.1)

pub starter_front : (canonical : Canonical) (list : List ℕ) → 0 < length list → canonical.class (slice_index list 0) ≡ 0
    → recomposed canonical list ≡ composing canonical (slice_index list 0) [] (drop 1 list)
starter_front canonical list h e = ap (recomposed canonical) (front_is list h) ∙ recomposed_starter canonical (slice_index list 0) (drop 1 list) e

-- ---- One character's composed list

pub composed_one : (canonical : Canonical) (c : ℕ) → composed canonical (c ∷ []) ≡ recomposed canonical (marks_in_order canonical.class (canonical.full c))
unfolding composed decomposed
composed_one canonical c = ap (λ (xs : List ℕ). recomposed canonical (marks_in_order canonical.class xs)) (append-nil (canonical.full c))
