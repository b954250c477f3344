-- Facts on inversion lists that are joined of parts.
use Rattle.std.proofs.Common.{◌≡◌, ℕ, zero, suc, ◌+◌, ◌%◌, ◌<◌, ◌≤◌, Bool, true, false, not, cond, nat_lt, ◌==◌, List, [], ◌∷◌, ◌++◌, length, get_or, take, drop, refl, sym, ap, ◌∙◌, arith, inl, inr}
use mathlib.Core.Bool.{beq}
use Rattle.std.proofs.lemmas.Bool.{cases_lt}
use Rattle.std.proofs.lemmas.Bool.Decides.{nat_tests}
use Rattle.std.proofs.lemmas.List.{take-append-drop, length-append, length-take-le}
use Rattle.icu_collections_sets.specs.CodePoints.{Rises, IsInversionList, is_in, holds}
use Rattle.icu_collections_sets.specs.Operations.{differ}
use Rattle.icu_collections_sets.specs.SetEdits.{IsSetTo, is_within, stretch, IsCountBelow}
use Rattle.icu_collections_sets.proofs.sets.InversionListLemmas.{turned, turned_out, Rises_lower, is_in_past}

-- all numbers are below a bound
abbrev pub Below : ℕ → List ℕ → Type 0
Below bound [] = Unit {0}
Below bound (x ∷ xs) = (x < bound) × Below bound xs

pub turned-add : (now : Bool) (m n : ℕ) → turned now (m + n) ≡ turned (turned now m) n
unfolding turned
turned-add now zero n = let e : 0 + n ≡ n = omega arith in ap (turned now) e
turned-add now (suc m) n = let e : suc m + n ≡ suc (m + n) = omega arith in ap (turned now) e ∙ turned-add (not now) m n

pub is_in_past_all : (now : Bool) (xs ys : List ℕ) (c : ℕ) → Below (c + 1) xs → is_in now (xs ++ ys) c ≡ is_in (turned now (length xs)) ys c
unfolding turned
is_in_past_all now [] ys c h = refl
is_in_past_all now (x ∷ xs) ys c h =
    let rest = is_in_past_all (not now) xs ys c h.1 in
    let past : x ≤ c = omega (arith, h.0) in
    grind (arith, nat_tests, rest)

pub is_in_early : (now : Bool) (ys : List ℕ) (c least : ℕ) → c < least → Rises least ys → is_in now ys c ≡ now
is_in_early now [] c least h r = refl
is_in_early now (y ∷ ys) c least h r = let before : c < y = omega (arith, r.0) in grind (arith, nat_tests)

pub is_in_before_all : (now : Bool) (xs ys : List ℕ) (c least : ℕ) → c < least → Rises least ys → is_in now (xs ++ ys) c ≡ is_in now xs c
is_in_before_all now [] ys c least h r = is_in_early now ys c least h r
is_in_before_all now (x ∷ xs) ys c least h r =
    let rest = is_in_before_all (not now) xs ys c least h r in
    ap (λ b. cond (nat_lt c x) now b) rest

pub Rises-take : (least : ℕ) (xs : List ℕ) (n : ℕ) → Rises least xs → Rises least (take n xs)
Rises-take least xs zero r = tt
Rises-take least [] (suc n) r = tt
Rises-take least (x ∷ xs) (suc n) r = (r.0, r.1, Rises-take (x + 1) xs n r.2)

pub Rises-drop : (least : ℕ) (xs : List ℕ) (n bound : ℕ) → Rises least xs → ((k d : ℕ) → n ≤ k → k < length xs → bound ≤ get_or xs k d) → Rises bound (drop n xs)
Rises-drop least [] zero bound r h = tt
Rises-drop least (x ∷ xs) zero bound r h = (h 0 0 (omega arith) (omega arith), r.1, r.2)
Rises-drop least [] (suc n) bound r h = tt
Rises-drop least (x ∷ xs) (suc n) bound r h = Rises-drop (x + 1) xs n bound r.2 (λ k d a b. h (suc k) d (omega arith) (omega arith))

pub Below-take : (xs : List ℕ) (n bound : ℕ) → ((k d : ℕ) → k < n → k < length xs → get_or xs k d < bound) → Below bound (take n xs)
Below-take xs zero bound h = tt
Below-take [] (suc n) bound h = tt
Below-take (x ∷ xs) (suc n) bound h = (h 0 0 (omega arith) (omega arith), Below-take xs n bound (λ k d a b. h (suc k) d (omega arith) (omega arith)))

pub Below_higher : (low high : ℕ) (xs : List ℕ) → low ≤ high → Below low xs → Below high xs
Below_higher low high [] h b = tt
Below_higher low high (x ∷ xs) h b = (omega (arith, b.0), Below_higher low high xs h b.1)

pub Rises-append : (least bound : ℕ) (xs ys : List ℕ) → least ≤ bound → Rises least xs → Below bound xs → Rises bound ys → Rises least (xs ++ ys)
Rises-append least bound [] ys h r b s = Rises_lower least bound ys h s
Rises-append least bound (x ∷ xs) ys h r b s = (r.0, r.1, Rises-append (x + 1) bound xs ys (omega (arith, b.0)) r.2 b.1 s)

-- a list is even where it turns back
pub even_turns : (xs : List ℕ) → length xs % 2 ≡ 0 → turned false (length xs) ≡ false
even_turns xs e = (turned_out (length xs)).0 ∙ grind (arith, nat_tests)

pub turns_even : (xs : List ℕ) → turned false (length xs) ≡ false → length xs % 2 ≡ 0
turns_even xs e =
    let test : (length xs % 2 == 1) ≡ false = sym (turned_out (length xs)).0 ∙ e in
    grind (arith, nat_tests)

-- ---- a stretch in the place of the edges within it

module _ (from till : ℕ) (rise : from < till) (rest : List ℕ) (rest_rises : Rises (till + 1) rest) where
  closing : (closes : Bool) → till ≤ 1114112 → Rises till (stretch false from closes till ++ rest)
  closing true h = (omega arith, h, rest_rises)
  closing false h = Rises_lower till (till + 1) rest (omega arith) rest_rises

  stretch_rises : (opens closes : Bool) → till ≤ 1114112 → Rises from (stretch opens from closes till ++ rest)
  stretch_rises true closes h = (omega arith, omega arith, Rises_lower (from + 1) till (stretch false from closes till ++ rest) (omega arith) (closing closes h))
  stretch_rises false closes h = Rises_lower from till (stretch false from closes till ++ rest) (omega arith) (closing closes h)

  stretch_below : (opens closes : Bool) → Below (till + 1) (stretch opens from closes till)
  stretch_below true true = (omega arith, (omega arith, tt))
  stretch_below true false = (omega arith, tt)
  stretch_below false true = (omega arith, tt)
  stretch_below false false = tt

  stretch_turns : (before behind held : Bool) → turned before (length (stretch (differ before held) from (differ behind held) till)) ≡ behind
  unfolding turned
  stretch_turns true true true = refl
  stretch_turns true true false = refl
  stretch_turns true false true = refl
  stretch_turns true false false = refl
  stretch_turns false true true = refl
  stretch_turns false true false = refl
  stretch_turns false false true = refl
  stretch_turns false false false = refl

  stretch_within : (before behind held : Bool) (c : ℕ) → till ≤ 1114112 → from ≤ c → c < till → is_in before (stretch (differ before held) from (differ behind held) till ++ rest) c ≡ held
  stretch_within true behind true c e h l = is_in_early true (stretch false from (differ behind true) till ++ rest) c till l (closing (differ behind true) e)
  stretch_within true behind false c e h l =
      let others = stretch false from (differ behind false) till ++ rest in
      is_in_past true from others c h ∙ is_in_early false others c till l (closing (differ behind false) e)
  stretch_within false behind true c e h l =
      let others = stretch false from (differ behind true) till ++ rest in
      is_in_past false from others c h ∙ is_in_early true others c till l (closing (differ behind true) e)
  stretch_within false behind false c e h l = is_in_early false (stretch false from (differ behind false) till ++ rest) c till l (closing (differ behind false) e)

-- what stands in the place of the edges from the first count to the second
unfoldable pub edited : (xs : List ℕ) (from till p q : ℕ) (held : Bool) → List ℕ
edited xs from till p q held = take p xs ++ (stretch (differ (turned false p) held) from (differ (turned false q) held) till ++ drop q xs)

module _ (xs : List ℕ) (from till p q : ℕ) (held : Bool) (list : IsInversionList xs) (rise : from < till) (end : till ≤ 1114112) (front : IsCountBelow xs from p) (back : IsCountBelow xs (till + 1) q) where
  in_front : length (take p xs) ≡ p
  in_front = length-take-le p xs front.within

  up_to_back : length (take q xs) ≡ q
  up_to_back = length-take-le q xs back.within

  front_below : Below from (take p xs)
  front_below = Below-take xs p from (λ k d h l. front.before k d h)

  back_rises : Rises (till + 1) (drop q xs)
  back_rises = Rises-drop 0 xs q (till + 1) list.rises back.behind

  middle_rises : Rises from (stretch (differ (turned false p) held) from (differ (turned false q) held) till ++ drop q xs)
  middle_rises = stretch_rises from till rise (drop q xs) back_rises (differ (turned false p) held) (differ (turned false q) held) end

  middle_turns : turned (turned false p) (length (stretch (differ (turned false p) held) from (differ (turned false q) held) till)) ≡ turned false q
  middle_turns = stretch_turns from till rise (drop q xs) back_rises (turned false p) (turned false q) held

  edited_before : (c : ℕ) → c < from → holds (edited xs from till p q held) c ≡ holds xs c
  unfolding edited
  edited_before c h =
      let rest = stretch (differ (turned false p) held) from (differ (turned false q) held) till ++ drop q xs in
      is_in_before_all false (take p xs) rest c from h middle_rises
      ∙ sym (is_in_before_all false (take p xs) (drop p xs) c from h (Rises-drop 0 xs p from list.rises front.behind))
      ∙ ap (λ ys. holds ys c) (take-append-drop p xs)

  edited_within : (c : ℕ) → from ≤ c → c < till → holds (edited xs from till p q held) c ≡ held
  unfolding edited
  edited_within c h l =
      let rest = stretch (differ (turned false p) held) from (differ (turned false q) held) till ++ drop q xs in
      is_in_past_all false (take p xs) rest c (Below_higher from (c + 1) (take p xs) (omega arith) front_below)
      ∙ ap (λ n. is_in (turned false n) rest c) in_front
      ∙ stretch_within from till rise (drop q xs) back_rises (turned false p) (turned false q) held c end h l

  edited_behind : (c : ℕ) → till ≤ c → holds (edited xs from till p q held) c ≡ holds xs c
  unfolding edited
  edited_behind c h =
      let middle = stretch (differ (turned false p) held) from (differ (turned false q) held) till in
      is_in_past_all false (take p xs) (middle ++ drop q xs) c (Below_higher from (c + 1) (take p xs) (omega arith) front_below)
      ∙ ap (λ n. is_in (turned false n) (middle ++ drop q xs) c) in_front
      ∙ is_in_past_all (turned false p) middle (drop q xs) c (Below_higher (till + 1) (c + 1) middle (omega arith) (stretch_below from till rise (drop q xs) back_rises (differ (turned false p) held) (differ (turned false q) held)))
      ∙ ap (λ b. is_in b (drop q xs) c) middle_turns
      ∙ sym (is_in_past_all false (take q xs) (drop q xs) c (Below_higher (till + 1) (c + 1) (take q xs) (omega arith) (Below-take xs q (till + 1) (λ k d a b. back.before k d a)))
      ∙ ap (λ n. is_in (turned false n) (drop q xs) c) up_to_back)
      ∙ ap (λ ys. holds ys c) (take-append-drop q xs)

  pub edited_holds : IsSetTo held (is_within from till) xs (edited xs from till p q held)
  edited_holds c = elim (cases_lt c from) [
    | inl before ↦ let same = edited_before c before in grind (arith, nat_tests)
    | inr past ↦ elim (cases_lt c till) [
      | inl within ↦ let same = edited_within c past within in grind (arith, nat_tests)
      | inr behind ↦ let same = edited_behind c behind in grind (arith, nat_tests)
    ]
  ]

  pub edited_list : IsInversionList (edited xs from till p q held)
  unfolding edited
  edited_list =
      let middle = stretch (differ (turned false p) held) from (differ (turned false q) held) till in
      let rest = middle ++ drop q xs in
      let total : turned false (length (take p xs ++ rest)) ≡ false =
      ap (turned false) (length-append (take p xs) rest) ∙ ap (λ n. turned false (n + length rest)) in_front ∙ turned-add false p (length rest)
      ∙ ap (turned (turned false p)) (length-append middle (drop q xs)) ∙ turned-add (turned false p) (length middle) (length (drop q xs))
      ∙ ap (λ b. turned b (length (drop q xs))) middle_turns
      ∙ sym (turned-add false q (length (drop q xs))) ∙ ap (λ n. turned false (n + length (drop q xs))) (sym up_to_back)
      ∙ sym (ap (turned false) (length-append (take q xs) (drop q xs))) ∙ ap (λ ys. turned false (length ys)) (take-append-drop q xs) ∙ even_turns xs list.even in
      record {
        even = turns_even (take p xs ++ rest) total;
        rises = Rises-append 0 from (take p xs) rest (omega arith) (Rises-take 0 xs p list.rises) front_below middle_rises;
      }

differ_test : (b held : Bool) → not (beq b held) ≡ differ b held
differ_test true true = refl
differ_test true false = refl
differ_test false true = refl
differ_test false false = refl

pub differ_from_count : (p : ℕ) (held : Bool) → not (beq (p % 2 == 1) held) ≡ differ (turned false p) held
differ_from_count p held = differ_test (p % 2 == 1) held ∙ ap (λ b. differ b held) (sym (turned_out p).0)

-- where the code has put a stretch
pub edited_from_put : (xs ys : List ℕ) (from till p q : ℕ) (held : Bool) → ys ≡ take p xs ++ (stretch (not (beq (p % 2 == 1) held)) from (not (beq (q % 2 == 1) held)) till ++ drop q xs) → ys ≡ edited xs from till p q held
unfolding edited
edited_from_put xs ys from till p q held e =
    e ∙ ap (λ opens. take p xs ++ (stretch opens from (not (beq (q % 2 == 1) held)) till ++ drop q xs)) (differ_from_count p held)
    ∙ ap (λ closes. take p xs ++ (stretch (differ (turned false p) held) from closes till ++ drop q xs)) (differ_from_count q held)
