-- Words of lists that are settled, one after another.
use Rattle.std.proofs.Common.{◌≡◌, ℕ, zero, suc, ◌+◌, ◌<◌, ◌≤◌, ⊎_elim, List, [], ◌∷◌, ◌++◌, length, take, slice_index, slice_get, slice_index_or, Option, Some, None, refl, sym, ap, subst, ◌∙◌, arith, length-append}
use Rattle.std.specs.Option.{unwrap_or}
use Rattle.std.specs.Prelude.{cond, ltb, sum_by}
use Rattle.std.proofs.lemmas.Bool.{cases_lt, cond-false, le-ltb}
use Rattle.std.proofs.lemmas.List.Sums.{sum_by_more}
use Rattle.icu_normalizer_core.specs.declared.canonical.check.left.Left.{Left}
use Rattle.icu_normalizer_core.specs.ListWords.{KeepsStating, StateSettled, StatesSettled, slots_of, settled_slots}
use Rattle.icu_normalizer_core.specs.Settled.{left_items}
use Rattle.icu_normalizer_core.proofs.building.InOrderLemmas.{index_before, index_last}
use Rattle.icu_normalizer_core.proofs.building.ListWordLemmas.{keeps_stating}

pub got_here : {X : Type 0} (xs : List X) (i : ℕ) (d x : X) → i < length xs → slice_index_or xs i d ≡ x → slice_get xs i ≡ Some x
got_here [] i d x h e = absurd (omega arith)
got_here (y ∷ xs) zero d x h e = ap (λ (z : _). Some z) e
got_here (y ∷ xs) (suc i) d x h e = got_here xs i d x (omega arith) e

pub take_length : {X : Type 0} (n : ℕ) (xs : List X) → n ≤ length xs → length (take n xs) ≡ n
take_length zero xs h = refl
take_length (suc n) [] h = absurd (omega arith)
take_length (suc n) (x ∷ xs) h = ap suc (take_length n xs (omega arith))

pub take_short : {X : Type 0} (n : ℕ) (xs : List X) → length (take n xs) ≤ n
take_short zero xs = omega arith
take_short (suc n) [] = omega arith
take_short (suc n) (x ∷ xs) = let h = take_short n xs in omega arith

pub over_eight : (found : Option (Option Left)) (left : Left) → found ≡ Some (Some left) → 8 < length (left_items left)
    → (other : Left) → found ≡ Some (Some other) → 8 < length (left_items other)
over_eight found left is h other e =
    let same : Some (Some left) ≡ Some (Some other) = sym is ∙ e in
    subst (λ (l : Left). 8 < length (left_items l)) (ap (λ (o : Option (Option Left)). unwrap_or (unwrap_or o None) left) same) h

few_slots : (list : List ℕ) → length list ≤ 8 → cond (ltb 8 (length list)) 0 (slots_of list) ≡ slots_of list
few_slots list few = cond-false (ltb 8 (length list)) 0 (slots_of list) (le-ltb 8 (length list) few)

index_here : (xs : List (Option Left)) (i : ℕ) (d x : Option Left) → slice_get xs i ≡ Some x → (i < length xs) × (slice_index_or xs i d ≡ x)
index_here [] i d x e = absurd cc
index_here (y ∷ xs) zero d x e = (omega arith, let same : y ≡ x = cc in same)
index_here (y ∷ xs) (suc i) d x e = let later = index_here xs i d x e in (omega (arith, later.0), later.1)

-- one settled list more takes its places
slots_more : (settled : List (Option Left)) (i : ℕ) (left : Left) → slice_get settled i ≡ Some (Some left) → length (left_items left) ≤ 8
    → sum_by settled_slots (take (i + 1) settled) ≡ sum_by settled_slots (take i settled) + slots_of (left_items left)
slots_more settled i left found few =
    let at = index_here settled i None (Some left) found in
    sum_by_more settled_slots settled i None at.0
    ∙ ap (λ (n : ℕ). sum_by settled_slots (take i settled) + n) (ap settled_slots at.1 ∙ few_slots (left_items left) few)

pub more_settled : (s24 new : List ℕ) (settled : List (Option Left)) (words after : List ℕ) (i word : ℕ) (left : Left)
    → StateSettled s24 settled words i → slice_get settled i ≡ Some (Some left) → length (left_items left) ≤ 8
    → (more : List ℕ) × (new ≡ s24 ++ more) × (length more ≤ slots_of (left_items left)) → KeepsStating [] new word (left_items left) → after ≡ words ++ word ∷ []
    → StateSettled new settled after (i + 1)
more_settled s24 new settled words after i word left so_far found few grown keeps pushed =
    let here : i ≡ length words = sym so_far.count in
    record {
      count = ap length pushed ∙ length-append words (word ∷ []) ∙ ap (λ (n : ℕ). n + 1) so_far.count;
      size = omega (arith, so_far.size, ap length grown.1, length-append s24 grown.0, grown.2, slots_more settled i left found few);
      each = λ j h. ⊎_elim
          (λ (lt : j < i).
          let old = so_far.each j lt in
          let kept : KeepsStating [] new (slice_index words j) (left_items old.0) =
          subst (λ (t : List ℕ). KeepsStating [] t (slice_index words j) (left_items old.0)) (sym grown.1) (keeps_stating [] s24 grown.0 (slice_index words j) (left_items old.0) old.3) in
          let at : slice_index after j ≡ slice_index words j = ap (λ (t : List ℕ). slice_index t j) pushed ∙ index_before words (word ∷ []) j (omega arith) in
          subst (λ (w : ℕ). StatesSettled [] new (slice_get settled j) w) (sym at) (old.0, old.1, old.2, kept))
          (λ (ge : i ≤ j).
          let last : j ≡ i = omega arith in
          let at : slice_index after i ≡ word = ap (λ (t : List ℕ). slice_index t i) pushed ∙ ap (λ (n : ℕ). slice_index (words ++ word ∷ []) n) here ∙ index_last words word in
          subst (λ (k : ℕ). StatesSettled [] new (slice_get settled k) (slice_index after k)) (sym last)
          (subst (λ (w : ℕ). StatesSettled [] new (slice_get settled i) w) (sym at) (left, found, few, keeps)))
          (cases_lt j i);
    }
