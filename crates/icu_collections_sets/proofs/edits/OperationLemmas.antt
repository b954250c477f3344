-- Two inversion lists read side by side.
use Rattle.std.proofs.Common.{◌≡◌, ℕ, ◌+◌, ◌<◌, ◌≤◌, Bool, true, false, not, min, Some, None, List, [], ◌∷◌, ◌++◌, length, refl, sym, ap, ◌∙◌, subst, arith, inl, inr, Option}
use mathlib.Core.Bool.{beq}
use Rattle.std.proofs.lemmas.Bool.{cases_lt, false≢true}
use Rattle.std.proofs.lemmas.List.{append-nil, length-append}
use Rattle.icu_collections_sets.specs.CodePoints.{Rises, IsInversionList, is_in, holds}
use Rattle.icu_collections_sets.specs.Operations.{operated, IsOperated, PassesEdge, IsNextEdge}
use Rattle.icu_collections_sets.specs.declared.codepointinvlist.operation.Operation.{Operation}
use Rattle.icu_collections_sets.specs.declared.codepointinvlist.operation.Operation.TheVariants.{Union, Difference, Intersection, SymmetricDifference}
use Rattle.icu_collections_sets.proofs.sets.InversionListLemmas.{turned, Rises_lower, is_in_past, is_in_before}
use Rattle.icu_collections_sets.proofs.edits.SetEditLemmas.{Below, Below_higher, turned-add, is_in_past_all, is_in_before_all, is_in_early, Rises-append, even_turns, turns_even}

-- the edge is the next of one of the lists, and no edge of either is below it
pub record Next (xs ys : List ℕ) (edge bound : ℕ) : Type 0 where
  pub above : bound ≤ edge
  pub within : edge ≤ 1114112
  pub first : Rises edge xs
  pub second : Rises edge ys

pub next_is : (xs ys : List ℕ) (r : Option ℕ) (edge bound : ℕ) → IsNextEdge xs ys r → r ≡ Some edge → Rises bound xs → Rises bound ys → Next xs ys edge bound
next_is [] [] r edge bound n e rx ry = let no : None ≡ Some edge = sym n ∙ e in cc
next_is (x ∷ xs) [] r edge bound n e rx ry =
    let same : x ≡ edge = cc in
    record { above = omega (arith, rx.0); within = omega (arith, rx.1); first = (omega arith, rx.1, rx.2); second = tt }
next_is [] (y ∷ ys) r edge bound n e rx ry =
    let same : y ≡ edge = cc in
    record { above = omega (arith, ry.0); within = omega (arith, ry.1); first = tt; second = (omega arith, ry.1, ry.2) }
next_is (x ∷ xs) (y ∷ ys) r edge bound n e rx ry =
    let same : min x y ≡ edge = cc in
    record { above = omega (arith, rx.0, ry.0); within = omega (arith, rx.1); first = (omega arith, rx.1, rx.2); second = (omega arith, ry.1, ry.2) }

pub no_next : (xs ys : List ℕ) (r : Option ℕ) → IsNextEdge xs ys r → r ≡ None → (xs ≡ []) × (ys ≡ [])
no_next [] [] r n e = (refl, refl)
no_next (x ∷ xs) [] r n e = let no : None ≡ Some x = sym e ∙ n in cc
no_next [] (y ∷ ys) r n e = let no : None ≡ Some y = sym e ∙ n in cc
no_next (x ∷ xs) (y ∷ ys) r n e = let no : None ≡ Some (min x y) = sym e ∙ n in cc

-- a list that rises from an edge on either has the edge next or rises from after it on
pub passes : (edge next : ℕ) (others : List ℕ) (inside : Bool) → Rises edge (next ∷ others) → next ≡ edge → PassesEdge (next ∷ others) inside edge others (not inside)
passes edge next others inside r e =
    record {
      rises = Rises_lower (edge + 1) (next + 1) others (omega arith) r.2;
      before = λ c h. is_in_before inside next others c (omega arith);
      from_edge = λ c h. is_in_past inside next others c (omega arith);
      passed = inr (ap (λ x. x ∷ others) e, refl);
    }

pub stays : (edge : ℕ) (rest : List ℕ) (inside : Bool) → Rises (edge + 1) rest → PassesEdge rest inside edge rest inside
stays edge rest inside r =
    record {
      rises = r;
      before = λ c h. is_in_early inside rest c (edge + 1) (omega arith) r;
      from_edge = λ c h. refl;
      passed = inl (refl, refl);
    }

-- ---- the walk over both lists

pub record Merging (operation : Operation) (xs ys rest_x : List ℕ) (in_x : Bool) (rest_y : List ℕ) (in_y : Bool) (out : List ℕ) (held : Bool) (bound : ℕ) : Type 0 where
  pub first : Rises bound rest_x
  pub second : Rises bound rest_y
  pub first_same : (c : ℕ) → bound ≤ c → holds xs c ≡ is_in in_x rest_x c
  pub second_same : (c : ℕ) → bound ≤ c → holds ys c ≡ is_in in_y rest_y c
  pub first_turns : turned in_x (length rest_x) ≡ false
  pub second_turns : turned in_y (length rest_y) ≡ false
  pub done : (c : ℕ) → c < bound → holds out c ≡ operated operation (holds xs c) (holds ys c)
  pub rises : Rises 0 out
  pub below : Below bound out
  pub turns : turned false (length out) ≡ held
  pub held_is : held ≡ operated operation in_x in_y

out_of_both : (operation : Operation) → operated operation false false ≡ false
out_of_both Union = refl
out_of_both Difference = refl
out_of_both Intersection = refl
out_of_both SymmetricDifference = refl

pub Merging-none : (operation : Operation) (xs ys : List ℕ) → IsInversionList xs → IsInversionList ys → Merging operation xs ys xs false ys false [] false 0
unfolding turned
Merging-none operation xs ys first second = record {
  first = first.rises;
  second = second.rises;
  first_same = λ c h. refl;
  second_same = λ c h. refl;
  first_turns = even_turns xs first.even;
  second_turns = even_turns ys second.even;
  done = λ c h. absurd (omega arith);
  rises = tt;
  below = tt;
  turns = refl;
  held_is = sym (out_of_both operation);
}

-- what the output holds after its edges
pub held_behind : (out : List ℕ) (bound : ℕ) (held : Bool) (c : ℕ) → Below bound out → turned false (length out) ≡ held → bound ≤ c → holds out c ≡ held
held_behind out bound held c b t h =
    ap (λ xs. holds xs c) (sym (append-nil out)) ∙ is_in_past_all false out [] c (Below_higher bound (c + 1) out (omega arith) b) ∙ t

pub Merging-all : (operation : Operation) (xs ys : List ℕ) (in_x in_y : Bool) (out : List ℕ) (held : Bool) (bound : ℕ) → Merging operation xs ys [] in_x [] in_y out held bound → IsInversionList out × IsOperated operation (holds xs) (holds ys) out
unfolding turned
Merging-all operation xs ys in_x in_y out held bound w =
    let none : held ≡ false = w.held_is ∙ ap (λ b. operated operation b in_y) w.first_turns ∙ ap (operated operation false) w.second_turns ∙ out_of_both operation in (
      record { even = turns_even out (w.turns ∙ none); rises = w.rises },
      λ c. elim (cases_lt c bound) [
        | inl before ↦ w.done c before
        | inr behind ↦ held_behind out bound held c w.below w.turns behind ∙ w.held_is ∙ sym (ap (λ b. operated operation b (holds ys c)) (w.first_same c behind) ∙ ap (operated operation in_x) (w.second_same c behind))
      ],
    )

below_push : (xs : List ℕ) (edge : ℕ) → Below edge xs → Below (edge + 1) (xs ++ edge ∷ [])
below_push [] edge b = (omega arith, tt)
below_push (x ∷ xs) edge b = (omega (arith, b.0), below_push xs edge b.1)

turned_passed : (rest : List ℕ) (inside : Bool) (edge : ℕ) (left : List ℕ) (now : Bool) → PassesEdge rest inside edge left now → turned inside (length rest) ≡ turned now (length left)
unfolding turned
turned_passed rest inside edge left now p = elim p.passed [
  | inl same ↦ ap (λ b. turned b (length rest)) (sym same.1) ∙ ap (λ zs. turned now (length zs)) (sym same.0)
  | inr moved ↦ ap (λ zs. turned inside (length zs)) moved.0 ∙ ap (λ b. turned b (length left)) (sym moved.1)
]

module _ (operation : Operation) (xs ys rest_x : List ℕ) (in_x : Bool) (rest_y : List ℕ) (in_y : Bool) (out : List ℕ) (held : Bool) (bound edge : ℕ) (left_x : List ℕ) (now_x : Bool) (left_y : List ℕ) (now_y : Bool) (w : Merging operation xs ys rest_x in_x rest_y in_y out held bound) (n : Next rest_x rest_y edge bound) (px : PassesEdge rest_x in_x edge left_x now_x) (py : PassesEdge rest_y in_y edge left_y now_y) where
  -- between the bound and the edge nothing turns
  between : (c : ℕ) → bound ≤ c → c < edge → held ≡ operated operation (holds xs c) (holds ys c)
  between c h l = w.held_is ∙ sym (ap (λ b. operated operation b (holds ys c)) (w.first_same c h ∙ px.before c l) ∙ ap (operated operation in_x) (w.second_same c h ∙ py.before c l))

  at_edge : operated operation now_x now_y ≡ operated operation (holds xs edge) (holds ys edge)
  at_edge =
      let first = w.first_same edge n.above ∙ px.from_edge edge (omega arith) ∙ is_in_early now_x left_x edge (edge + 1) (omega arith) px.rises in
      let second = w.second_same edge n.above ∙ py.from_edge edge (omega arith) ∙ is_in_early now_y left_y edge (edge + 1) (omega arith) py.rises in
      sym (ap (λ b. operated operation b (holds ys edge)) first ∙ ap (operated operation now_x) second)

  pub Merging-same : operated operation now_x now_y ≡ held → Merging operation xs ys left_x now_x left_y now_y out held (edge + 1)
  Merging-same same = record {
    first = px.rises;
    second = py.rises;
    first_same = λ c h. w.first_same c (omega (arith, n.above)) ∙ px.from_edge c (omega arith);
    second_same = λ c h. w.second_same c (omega (arith, n.above)) ∙ py.from_edge c (omega arith);
    first_turns = sym (turned_passed rest_x in_x edge left_x now_x px) ∙ w.first_turns;
    second_turns = sym (turned_passed rest_y in_y edge left_y now_y py) ∙ w.second_turns;
    done = λ c h. elim (cases_lt c bound) [
      | inl before ↦ w.done c before
      | inr behind ↦ held_behind out bound held c w.below w.turns behind ∙ elim (cases_lt c edge) [
        | inl early ↦ between c behind early
        | inr late ↦
            let here : edge ≡ c = omega arith in
            subst (λ k. held ≡ operated operation (holds xs k) (holds ys k)) here (sym same ∙ at_edge)
      ]
    ];
    rises = w.rises;
    below = Below_higher bound (edge + 1) out (omega (arith, n.above)) w.below;
    turns = w.turns;
    held_is = sym same;
  }

  pub Merging-turn : operated operation now_x now_y ≡ not held → Merging operation xs ys left_x now_x left_y now_y (out ++ edge ∷ []) (not held) (edge + 1)
  unfolding turned
  Merging-turn turn =
      let last : Rises edge (edge ∷ []) = (omega arith, n.within, tt) in
      let below_edge = Below_higher bound edge out n.above w.below in
      record {
        first = px.rises;
        second = py.rises;
        first_same = λ c h. w.first_same c (omega (arith, n.above)) ∙ px.from_edge c (omega arith);
        second_same = λ c h. w.second_same c (omega (arith, n.above)) ∙ py.from_edge c (omega arith);
        first_turns = sym (turned_passed rest_x in_x edge left_x now_x px) ∙ w.first_turns;
        second_turns = sym (turned_passed rest_y in_y edge left_y now_y py) ∙ w.second_turns;
        done = λ c h. elim (cases_lt c edge) [
          | inl early ↦ is_in_before_all false out (edge ∷ []) c edge early last ∙ elim (cases_lt c bound) [
            | inl before ↦ w.done c before
            | inr behind ↦ held_behind out bound held c w.below w.turns behind ∙ between c behind early
          ]
          | inr late ↦
              let here : edge ≡ c = omega arith in
              is_in_past_all false out (edge ∷ []) c (Below_higher edge (c + 1) out (omega arith) below_edge)
              ∙ ap (λ b. is_in b (edge ∷ []) c) w.turns ∙ is_in_past held edge [] c late
              ∙ subst (λ k. not held ≡ operated operation (holds xs k) (holds ys k)) here (sym turn ∙ at_edge)
        ];
        rises = Rises-append 0 edge out (edge ∷ []) (omega arith) w.rises below_edge last;
        below = below_push out edge below_edge;
        turns = ap (turned false) (length-append out (edge ∷ [])) ∙ turned-add false (length out) 1 ∙ ap not w.turns;
        held_is = sym turn;
      }

-- what a test of two answers says
pub turned_about : (a b : Bool) → not (beq a b) ≡ true → a ≡ not b
turned_about true true h = absurd (false≢true h)
turned_about true false h = refl
turned_about false true h = refl
turned_about false false h = absurd (false≢true h)

pub turned_same : (a b : Bool) → not (beq a b) ≡ false → a ≡ b
turned_same true true h = refl
turned_same true false h = absurd (false≢true (sym h))
turned_same false true h = absurd (false≢true (sym h))
turned_same false false h = refl
