-- The steps of a run, over its list and the two indices in it.
use Rattle.std.proofs.Common.{◌≡◌, ℕ, ◌+◌, ◌<◌, ◌≤◌, Bool, true, false, cond, ltb, List, [], ◌∷◌, ◌++◌, length, get_or, take, drop, refl, sym, ap, ap₂, ◌∙◌, arith, append_assoc, append-nil, take_all, take-append-drop, length-take-le, get_or-take, length-append, length-drop}
use Rattle.std.proofs.lemmas.Bool.{and_parts, and_from}
use Rattle.std.proofs.lemmas.Bool.Decides.{nat_tests}
use Rattle.std.proofs.lemmas.List.{drop_more, drop_all, take-append-le, drop-append-le}
use Rattle.std.specs.List.{list_all}
use Rattle.icu_normalizer_core.specs.Canonical.{put_in_order, marks_in_order}
use Rattle.icu_normalizer_core.specs.declared.decomposition.run.Run.{Run}
use Rattle.icu_normalizer_core.specs.Marks.{is_mark}
use Rattle.icu_normalizer_core.specs.Run.{data_of, reordered, held, KeepsOutput}
use Rattle.icu_normalizer_core.proofs.decomposed_lists.DecomposedLemmas.{order_before}

module _ (class : ℕ → ℕ) where
  -- what comes out of a list of which the first characters were taken, and others are ready
  abbrev pub out : List ℕ → ℕ → ℕ → List ℕ → List ℕ
  out xs next ready rest = drop next (take ready xs) ++ marks_in_order class (drop ready xs ++ rest)

  pub order_nothing : marks_in_order class [] ≡ []
  unfolding marks_in_order
  order_nothing = refl

  pub order_one : (c : ℕ) → marks_in_order class (c ∷ []) ≡ c ∷ []
  unfolding marks_in_order put_in_order
  order_one c = refl

  pub out_pop : (xs : List ℕ) (next ready x : ℕ) (rest : List ℕ) → next < ready → ready ≤ length xs → x ≡ get_or xs next x → out xs next ready rest ≡ x ∷ out xs (next + 1) ready rest
  out_pop xs next ready x rest before within read =
      let inside : next < length (take ready xs) = omega (arith, length-take-le ready xs within) in
      ap (λ l. l ++ marks_in_order class (drop ready xs ++ rest))
      (drop_more (take ready xs) next x inside ∙ ap (λ y. y ∷ drop (next + 1) (take ready xs)) (get_or-take ready xs next x before ∙ sym read))

  pub out_shift : (xs : List ℕ) (next ready : ℕ) (rest : List ℕ) → ready ≤ next → ready ≤ length xs → out xs next ready rest ≡ out (drop ready xs) 0 0 rest
  out_shift xs next ready rest taken within =
      ap (λ l. l ++ marks_in_order class (drop ready xs ++ rest)) (drop_all next (take ready xs) (omega (arith, length-take-le ready xs within)))

  pub out_empty : (xs : List ℕ) (next ready : ℕ) (rest : List ℕ) → length xs ≤ next → next ≤ ready → out xs next ready rest ≡ marks_in_order class rest
  out_empty xs next ready rest taken le =
      ap₂ (λ front back. front ++ marks_in_order class (back ++ rest))
      (ap (drop next) (take_all ready xs (omega arith)) ∙ drop_all next xs taken) (drop_all ready xs (omega arith))

  pub out_mark : (xs : List ℕ) (next ready c : ℕ) (rest : List ℕ) → ready ≤ length xs → out xs next ready (c ∷ rest) ≡ out (xs ++ c ∷ []) next ready rest
  out_mark xs next ready c rest within =
      ap₂ (λ front back. drop next front ++ marks_in_order class back) (sym (take-append-le ready xs (c ∷ []) within))
      (sym (append_assoc (drop ready xs) (c ∷ []) rest) ∙ ap (λ l. l ++ rest) (sym (drop-append-le ready xs (c ∷ []) within)))

  pub out_ready : (xs : List ℕ) (next ready : ℕ) (rest : List ℕ) → length xs ≤ ready → out xs next ready rest ≡ drop next xs ++ marks_in_order class rest
  out_ready xs next ready rest all =
      ap₂ (λ front back. drop next front ++ marks_in_order class (back ++ rest)) (take_all ready xs all) (drop_all ready xs all)

  pub out_sorted : (xs ys : List ℕ) (next ready n : ℕ) → next ≤ ready → ready ≤ length xs → ys ≡ take ready xs ++ marks_in_order class (drop ready xs) → length ys ≤ n → out ys next n [] ≡ out xs next ready []
  out_sorted xs ys next ready n le within sorted all =
      out_ready ys next n [] all ∙ ap (λ l. drop next ys ++ l) order_nothing ∙ append-nil (drop next ys) ∙ ap (drop next) sorted
      ∙ drop-append-le next (take ready xs) _ (omega (arith, length-take-le ready xs within))
      ∙ ap (λ l. drop next (take ready xs) ++ marks_in_order class l) (sym (append-nil (drop ready xs)))

  order_short : (xs : List ℕ) → length xs ≤ 1 → marks_in_order class xs ≡ xs
  order_short [] h = order_nothing
  order_short (x ∷ []) h = order_one x
  order_short (x ∷ y ∷ xs) h = absurd (omega arith)

  pub short_is_sorted : (xs : List ℕ) (ready : ℕ) → length xs ≤ ready + 1 → xs ≡ take ready xs ++ marks_in_order class (drop ready xs)
  short_is_sorted xs ready h =
      sym (take-append-drop ready xs) ∙ ap (λ l. take ready xs ++ l) (sym (order_short (drop ready xs) (omega (arith, length-drop ready xs))))

  -- before a starter all that is held comes out
  pub out_before_starter : (xs : List ℕ) (next ready c : ℕ) (rest : List ℕ) → class c ≡ 0 → out xs next ready (c ∷ rest) ≡ out xs next ready [] ++ c ∷ marks_in_order class rest
  out_before_starter xs next ready c rest starter =
      ap (λ l. drop next (take ready xs) ++ l)
      (order_before class c (drop ready xs) rest starter ∙ ap (λ l. marks_in_order class l ++ c ∷ marks_in_order class rest) (sym (append-nil (drop ready xs))))
      ∙ sym (append_assoc (drop next (take ready xs)) _ _)

  pub out_starter : (xs : List ℕ) (next ready n c : ℕ) (rest : List ℕ) → next ≤ length xs → length xs ≤ ready → length xs + 1 ≤ n → out xs next ready [] ++ c ∷ marks_in_order class rest ≡ out (xs ++ c ∷ []) next n rest
  out_starter xs next ready n c rest within all more =
      ap (λ l. l ++ c ∷ marks_in_order class rest) (out_ready xs next ready [] all ∙ ap (λ l. drop next xs ++ l) order_nothing ∙ append-nil (drop next xs))
      ∙ sym (append_assoc (drop next xs) (c ∷ []) (marks_in_order class rest))
      ∙ ap (λ l. l ++ marks_in_order class rest) (sym (drop-append-le next xs (c ∷ []) within))
      ∙ sym (out_ready (xs ++ c ∷ []) next n rest (omega (arith, length-append xs (c ∷ []))))

  pub mark_from : (n : ℕ) → 0 < n → ltb 0 n ≡ true
  mark_from n h = grind (arith, nat_tests)

  pub all_pushed : (xs : List ℕ) (y : ℕ) → list_all (is_mark class) xs ≡ true → is_mark class y ≡ true → list_all (is_mark class) (xs ++ y ∷ []) ≡ true
  all_pushed [] y front last = and_from _ _ last refl
  all_pushed (x ∷ xs) y front last =
      let parts = and_parts (is_mark class x) (list_all (is_mark class) xs) front in and_from _ _ parts.0 (all_pushed xs y parts.1 last)

  marks_push : (xs : List ℕ) (ready c : ℕ) → ready ≤ length xs → list_all (is_mark class) (drop ready xs) ≡ true → is_mark class c ≡ true → list_all (is_mark class) (drop ready (xs ++ c ∷ [])) ≡ true
  marks_push xs ready c within marks mark =
      ap (list_all (is_mark class)) (drop-append-le ready xs (c ∷ []) within) ∙ all_pushed (drop ready xs) c marks mark

  pub marks_pushed : (ys xs : List ℕ) (ready c : ℕ) (pushed : Bool) → ys ≡ cond pushed (xs ++ c ∷ []) xs → ready ≤ length xs → list_all (is_mark class) (drop ready xs) ≡ true → 0 < class c → list_all (is_mark class) (drop ready ys) ≡ true
  marks_pushed ys xs ready c true e within marks mark = rw e (marks_push xs ready c within marks (mark_from (class c) mark))
  marks_pushed ys xs ready c false e within marks mark = rw e marks

pub keeps_more : (a b c : Run) (xs : List ℕ) (x : ℕ) → KeepsOutput a xs [] b → KeepsOutput b (x ∷ []) [] c → KeepsOutput a (xs ++ x ∷ []) [] c
keeps_more a b c xs x first second =
    record { at = λ rest. ap (reordered a) (append_assoc xs (x ∷ []) rest) ∙ first.at (x ∷ rest) ∙ second.at rest }

-- nothing is held
pub reordered_empty : (run : Run) (rest : List ℕ) → held run ≡ 0 → reordered run rest ≡ marks_in_order (data_of run).class rest
unfolding reordered
reordered_empty run rest h = out_empty (data_of run).class run.chars.items run.next run.ready rest (omega arith) run.taken
