-- The lines that say something, and their numbers among all.
use Rattle.std.proofs.Common.{◌≡◌, ℕ, ◌+◌, ◌<◌, ◌≤◌, Bool, true, false, cond, List, [], ◌∷◌, ◌++◌, length, take, get_or, suc, zero, Some, refl, sym, ap, ◌∙◌, arith}
use Rattle.std.specs.Prelude.{filter, slice_get}
use Rattle.collate_lines.specs.Record.{Record, nothing}
use Rattle.collate_lines.specs.Repeats.{says_something}
use Rattle.collate_lines.specs.Lines.{numbers_from}

-- line `index` of all is the one at index j of those that say something
pub record IsNumbered (n : ℕ) (all : List Record) (j i : ℕ) : Type 0 where
  pub index : ℕ
  pub is : i ≡ n + index
  pub within : index < length all
  pub says : says_something (get_or all index nothing) ≡ true
  pub before : take j (filter says_something all) ≡ filter says_something (take index all)
  pub here : slice_get (filter says_something all) j ≡ Some (get_or all index nothing)

-- a line more in front
filter_head : (r : Record) (rs : List Record) (b : Bool) → says_something r ≡ b → filter says_something (r ∷ rs) ≡ cond b (r ∷ filter says_something rs) (filter says_something rs)
filter_head r rs b e = ap (λ (t : Bool). cond t (r ∷ filter says_something rs) (filter says_something rs)) e

first_numbered : (n : ℕ) (r : Record) (rs : List Record) (i : ℕ) → says_something r ≡ true → n ≡ i → IsNumbered n (r ∷ rs) 0 i
first_numbered n r rs i says e = record {
  index = 0;
  is = omega arith;
  within = omega arith;
  says = says;
  before = refl;
  here = ap (λ (l : List Record). slice_get l 0) (filter_head r rs true says);
}

later_numbered : (n : ℕ) (r : Record) (rs : List Record) (j i : ℕ) → says_something r ≡ true → IsNumbered (n + 1) rs j i → IsNumbered n (r ∷ rs) (suc j) i
later_numbered n r rs j i says w = record {
  index = suc w.index;
  is = omega (arith, w.is);
  within = omega (arith, w.within);
  says = w.says;
  before = ap (take (suc j)) (filter_head r rs true says) ∙ ap (λ (l : List Record). r ∷ l) w.before ∙ sym (filter_head r (take w.index rs) true says);
  here = ap (λ (l : List Record). slice_get l (suc j)) (filter_head r rs true says) ∙ w.here;
}

past_numbered : (n : ℕ) (r : Record) (rs : List Record) (j i : ℕ) → says_something r ≡ false → IsNumbered (n + 1) rs j i → IsNumbered n (r ∷ rs) j i
past_numbered n r rs j i says w = record {
  index = suc w.index;
  is = omega (arith, w.is);
  within = omega (arith, w.within);
  says = w.says;
  before = ap (take j) (filter_head r rs false says) ∙ w.before ∙ sym (filter_head r (take w.index rs) false says);
  here = ap (λ (l : List Record). slice_get l j) (filter_head r rs false says) ∙ w.here;
}

pub numbered : (n : ℕ) (all : List Record) (j i : ℕ) → slice_get (numbers_from n all) j ≡ Some i → IsNumbered n all j i
numbered n [] j i e = absurd (cc)
numbered n (r ∷ rs) j i e = by (says_something r) j refl (λ k. numbered (n + 1) rs k i) e
  where
    by : (b : Bool) (j : ℕ) → says_something r ≡ b → ((k : ℕ) → slice_get (numbers_from (n + 1) rs) k ≡ Some i → IsNumbered (n + 1) rs k i)
        → slice_get (cond b (n ∷ numbers_from (n + 1) rs) (numbers_from (n + 1) rs)) j ≡ Some i → IsNumbered n (r ∷ rs) j i
    by true zero says later at = let same : n ≡ i = cc in first_numbered n r rs i says same
    by true (suc k) says later at = later_numbered n r rs k i says (later k at)
    by false k says later at = past_numbered n r rs k i says (later k at)

-- a line that says something has an index among those
pub number_here : (n : ℕ) (all : List Record) (k : ℕ) → k < length all → says_something (get_or all k nothing) ≡ true
    → slice_get (numbers_from n all) (length (filter says_something (take k all))) ≡ Some (n + k)
number_here n [] k within says = absurd (omega arith)
number_here n (r ∷ rs) zero within says =
    let whole : n ≡ n + 0 = omega arith in
    ap (λ (b : Bool). slice_get (cond b (n ∷ numbers_from (n + 1) rs) (numbers_from (n + 1) rs)) 0) says ∙ ap Some whole
number_here n (r ∷ rs) (suc k) within says = by (says_something r) refl (number_here (n + 1) rs k (omega arith) says)
  where
    moved : n + 1 + k ≡ n + suc k
    moved = omega arith

    by : (b : Bool) → says_something r ≡ b → slice_get (numbers_from (n + 1) rs) (length (filter says_something (take k rs))) ≡ Some (n + 1 + k)
        → slice_get (cond (says_something r) (n ∷ numbers_from (n + 1) rs) (numbers_from (n + 1) rs)) (length (cond (says_something r) (r ∷ filter says_something (take k rs)) (filter says_something (take k rs)))) ≡ Some (n + suc k)
    by true e later =
        ap (λ (b : Bool). slice_get (cond b (n ∷ numbers_from (n + 1) rs) (numbers_from (n + 1) rs)) (length (cond b (r ∷ filter says_something (take k rs)) (filter says_something (take k rs))))) e
        ∙ later ∙ ap Some moved
    by false e later =
        ap (λ (b : Bool). slice_get (cond b (n ∷ numbers_from (n + 1) rs) (numbers_from (n + 1) rs)) (length (cond b (r ∷ filter says_something (take k rs)) (filter says_something (take k rs))))) e
        ∙ later ∙ ap Some moved

-- there are as many numbers as lines that say something
pub length-numbers : (n : ℕ) (all : List Record) → length (numbers_from n all) ≡ length (filter says_something all)
length-numbers n [] = refl
length-numbers n (r ∷ rs) = by (says_something r) (length-numbers (n + 1) rs)
  where
    by : (b : Bool) → length (numbers_from (n + 1) rs) ≡ length (filter says_something rs)
        → length (cond b (n ∷ numbers_from (n + 1) rs) (numbers_from (n + 1) rs)) ≡ length (cond b (r ∷ filter says_something rs) (filter says_something rs))
    by true e = ap suc e
    by false e = e

-- a number is at least the first
number_from : (n : ℕ) (all : List Record) (j i : ℕ) → slice_get (numbers_from n all) j ≡ Some i → n ≤ i
number_from n all j i e = let w = numbered n all j i e in omega (arith, w.is)

-- numbers rise
pub numbers_rise : (n : ℕ) (all : List Record) (j k i m : ℕ) → slice_get (numbers_from n all) j ≡ Some i → slice_get (numbers_from n all) k ≡ Some m → i < m → j < k
numbers_rise n [] j k i m e f less = absurd (cc)
numbers_rise n (r ∷ rs) j k i m e f less = by (says_something r) j k (λ (x y : ℕ). numbers_rise (n + 1) rs x y i m) e f
  where
    by : (b : Bool) (j k : ℕ)
        → ((x y : ℕ) → slice_get (numbers_from (n + 1) rs) x ≡ Some i → slice_get (numbers_from (n + 1) rs) y ≡ Some m → i < m → x < y)
        → slice_get (cond b (n ∷ numbers_from (n + 1) rs) (numbers_from (n + 1) rs)) j ≡ Some i
        → slice_get (cond b (n ∷ numbers_from (n + 1) rs) (numbers_from (n + 1) rs)) k ≡ Some m → j < k
    by true zero zero later at to = let first : n ≡ i = cc in let other : n ≡ m = cc in absurd (omega arith)
    by true zero (suc y) later at to = omega arith
    by true (suc x) zero later at to = let same : n ≡ m = cc in absurd (omega (arith, number_from (n + 1) rs x i at))
    by true (suc x) (suc y) later at to = omega (arith, later x y at to less)
    by false x y later at to = later x y at to less

-- a line more at the end
pub numbers_push : (n : ℕ) (xs : List Record) (r : Record) → numbers_from n (xs ++ r ∷ []) ≡ numbers_from n xs ++ cond (says_something r) ((n + length xs) ∷ []) []
numbers_push n [] r = let whole : n ≡ n + 0 = omega arith in ap (λ (k : ℕ). cond (says_something r) (k ∷ []) []) whole
numbers_push n (x ∷ xs) r = by (says_something x) (numbers_push (n + 1) xs r ∙ ap (λ (k : ℕ). numbers_from (n + 1) xs ++ cond (says_something r) (k ∷ []) []) moved)
  where
    moved : n + 1 + length xs ≡ n + suc (length xs)
    moved = omega arith

    by : (b : Bool) → numbers_from (n + 1) (xs ++ r ∷ []) ≡ numbers_from (n + 1) xs ++ cond (says_something r) ((n + suc (length xs)) ∷ []) []
        → cond b (n ∷ numbers_from (n + 1) (xs ++ r ∷ [])) (numbers_from (n + 1) (xs ++ r ∷ [])) ≡ cond b (n ∷ numbers_from (n + 1) xs) (numbers_from (n + 1) xs) ++ cond (says_something r) ((n + suc (length xs)) ∷ []) []
    by true e = ap (λ (l : List ℕ). n ∷ l) e
    by false e = e
