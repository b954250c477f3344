-- Lists in which marks changed places.
use Rattle.std.proofs.Common.{◌≡◌, ℕ, ◌+◌, ◌-◌, ◌<◌, ◌≤◌, ◌==◌, Bool, true, not, ◌&&◌, ◌||◌, List, [], ◌∷◌, ◌++◌, length, take, drop, refl, sym, ◌∙◌, ap, subst, arith, append_assoc, length-append, length-drop, inl, inr}
use Rattle.std.specs.Prelude.{slice_index}
use Rattle.std.specs.List.{list_all}
use Rattle.std.proofs.lemmas.Bool.{false≢true, and_from, and_parts, eqb-true, or_cases, or_right}
use Rattle.std.proofs.lemmas.List.Folds.{list_all-append}
use borrow.Rule.Slice.PartMut.{put_mid}
use Rattle.std.proofs.lemmas.List.{drop-append-le, drop-drop, drop-take, drop_at, length-take-le, take-append-drop, take-take, take_at, take_more}
use Rattle.icu_collator_core.specs.JoinedTexts.{brought_forward}
use Rattle.icu_collator_core.specs.MovedMarks.{moves_marks}
use Rattle.icu_collator_core.proofs.readings.MovedMarkLemmas.{moved_itself}

module _ (class : ℕ → ℕ) where
  abbrev pub is_mark : ℕ → Bool
  is_mark c = not (class c == 0)

  -- a character, or a mark in the place of a mark
  abbrev may_stand : ℕ → ℕ → Bool
  may_stand c d = (c == d) || (is_mark c && is_mark d)

  stands_then : (b c d : ℕ) → may_stand b c ≡ true → may_stand c d ≡ true → may_stand b d ≡ true
  stands_then b c d h g =
      elim (or_cases (b == c) (is_mark b && is_mark c) h) [
        | inl e ↦ subst (λ x. may_stand x d ≡ true) (sym (eqb-true b c e)) g
        | inr m ↦
            elim (or_cases (c == d) (is_mark c && is_mark d) g) [
              | inl e ↦ subst (λ x. may_stand b x ≡ true) (eqb-true c d e) h
              | inr n ↦ or_right (b == d) (is_mark b && is_mark d) (and_from (is_mark b) (is_mark d) (and_parts (is_mark b) (is_mark c) m).0 (and_parts (is_mark c) (is_mark d) n).1)
            ]
      ]

  pub moves_then : (bs cs ds : List ℕ) → moves_marks class bs cs ≡ true → moves_marks class cs ds ≡ true → moves_marks class bs ds ≡ true
  unfolding moves_marks
  moves_then [] [] [] h g = refl
  moves_then [] [] (d ∷ ds) h g = g
  moves_then [] (c ∷ cs) ds h g = absurd (false≢true h)
  moves_then (b ∷ bs) [] ds h g = absurd (false≢true h)
  moves_then (b ∷ bs) (c ∷ cs) [] h g = g
  moves_then (b ∷ bs) (c ∷ cs) (d ∷ ds) h g =
      let first = and_parts (may_stand b c) (moves_marks class bs cs) h in
      let second = and_parts (may_stand c d) (moves_marks class cs ds) g in
      and_from (may_stand b d) (moves_marks class bs ds) (stands_then b c d first.0 second.0) (moves_then bs cs ds first.1 second.1)

  pub moves_append : (bs cs ds es : List ℕ) → moves_marks class bs cs ≡ true → moves_marks class ds es ≡ true → moves_marks class (bs ++ ds) (cs ++ es) ≡ true
  unfolding moves_marks
  moves_append [] [] ds es h g = g
  moves_append [] (c ∷ cs) ds es h g = absurd (false≢true h)
  moves_append (b ∷ bs) [] ds es h g = absurd (false≢true h)
  moves_append (b ∷ bs) (c ∷ cs) ds es h g =
      let parts = and_parts (may_stand b c) (moves_marks class bs cs) h in
      and_from (may_stand b c) (moves_marks class (bs ++ ds) (cs ++ es)) parts.0 (moves_append bs cs ds es parts.1 g)

  pub marks_move : (bs cs : List ℕ) → length bs ≡ length cs → list_all is_mark bs ≡ true → list_all is_mark cs ≡ true → moves_marks class bs cs ≡ true
  unfolding moves_marks
  marks_move [] [] e h g = refl
  marks_move [] (c ∷ cs) e h g = absurd (omega (arith, e))
  marks_move (b ∷ bs) [] e h g = absurd (omega (arith, e))
  marks_move (b ∷ bs) (c ∷ cs) e h g =
      let first = and_parts (is_mark b) (list_all is_mark bs) h in
      let second = and_parts (is_mark c) (list_all is_mark cs) g in
      and_from (may_stand b c) (moves_marks class bs cs)
      (or_right (b == c) (is_mark b && is_mark c) (and_from (is_mark b) (is_mark c) first.0 second.0))
      (marks_move bs cs (omega (arith, e)) first.1 second.1)

module _ (list : List ℕ) (from index : ℕ) (order : from ≤ index) (inside : index < length list) where
  -- what stands from the one index up to the other
  abbrev between : List ℕ
  between = drop from (take index list)

  abbrev here : ℕ
  here = slice_index list index

  between_length : length between ≡ index - from
  between_length =
      let cut = length-drop from (take index list) in
      let front = length-take-le index list (omega (arith, inside)) in
      omega (arith, cut, front)

  front_length : length (take from list) ≡ from
  front_length = length-take-le from list (omega (arith, order, inside))

  front_parts : take index list ≡ take from list ++ between
  front_parts = sym (take-append-drop from (take index list)) ∙ ap (λ l. l ++ between) (take-take from index list order)

  pub list_parts : take from list ++ (between ++ here ∷ []) ++ drop (index + 1) list ≡ list
  list_parts =
      ap (λ l. l ++ drop (index + 1) list)
      (sym (append_assoc (take from list) between (here ∷ [])) ∙ ap (λ l. l ++ here ∷ []) (sym front_parts) ∙ sym (take_more list index 0 inside))
      ∙ take-append-drop (index + 1) list

  moved_length : length (take from list ++ here ∷ between) ≡ index + 1
  moved_length =
      let whole = length-append (take from list) (here ∷ between) in
      let some = between_length in
      let front = front_length in
      omega (arith, whole, some, front, order)

  -- after the index nothing changes
  pub brought_rest : drop (index + 1) (brought_forward list from index) ≡ drop (index + 1) list
  brought_rest = drop_at (take from list ++ here ∷ between) (drop (index + 1) list) (index + 1) moved_length

  -- what stood between stands one index on
  pub brought_between : drop (from + 1) (take (index + 1) (brought_forward list from index)) ≡ between
  brought_between =
      let one : length (take from list ++ here ∷ []) ≡ from + 1 =
      let count = length-append (take from list) (here ∷ []) in let front = front_length in omega (arith, count, front) in
      ap (drop (from + 1))
      (take_at (take from list ++ here ∷ between) (drop (index + 1) list) (index + 1) moved_length ∙ sym (append_assoc (take from list) (here ∷ []) between))
      ∙ drop_at (take from list ++ here ∷ []) between (from + 1) one

  pub brought_length : length (brought_forward list from index) ≡ length list
  brought_length =
      let whole = length-append (take from list ++ here ∷ between) (drop (index + 1) list) in
      let front = moved_length in
      let rest = length-drop (index + 1) list in
      omega (arith, whole, front, rest, inside)

  -- marks alone change places, where the character is a mark and those before it are
  pub brought_moves : (class : ℕ → ℕ) → list_all (is_mark class) between ≡ true → is_mark class here ≡ true
      → moves_marks class list (brought_forward list from index) ≡ true
  brought_moves class marks mark =
      let rest = drop (index + 1) list in
      let turned : moves_marks class (between ++ here ∷ []) (here ∷ between) ≡ true =
      marks_move class (between ++ here ∷ []) (here ∷ between)
      (let count = length-append between (here ∷ []) in omega (arith, count))
      (list_all-append (is_mark class) between (here ∷ [])
      ∙ and_from (list_all (is_mark class) between) (is_mark class here && true) marks (and_from (is_mark class here) true mark refl))
      (and_from (is_mark class here) (list_all (is_mark class) between) mark marks) in
      subst (λ l. moves_marks class l (brought_forward list from index) ≡ true) list_parts
      (moves_append class (take from list ++ (between ++ here ∷ [])) (take from list ++ here ∷ between) rest rest
      (moves_append class (take from list) (take from list) (between ++ here ∷ []) (here ∷ between) (moved_itself class (take from list)) turned)
      (moved_itself class rest))

  -- the part that a rotation by one turns
  abbrev part : List ℕ
  part = take (index + 1 - from) (drop from list)

  part_is : part ≡ between ++ here ∷ []
  part_is =
      let count : from + (index + 1 - from) ≡ index + 1 = omega (arith, order) in
      let front : from ≤ length (take index list) = let cut = length-take-le index list (omega (arith, inside)) in omega (arith, cut, order) in
      sym (drop-take from (index + 1 - from) list)
      ∙ ap (λ n. drop from (take n list)) count
      ∙ ap (drop from) (take_more list index 0 inside)
      ∙ drop-append-le from (take index list) (here ∷ []) front

  pub rotated_is : (turned : List ℕ) → turned ≡ drop (length part - 1) part ++ take (length part - 1) part
      → put_mid from (index + 1 - from) list turned ≡ brought_forward list from index
  rotated_is turned e =
      let last : length part - 1 ≡ length between =
      let whole = ap length part_is in let count = length-append between (here ∷ []) in omega (arith, whole, count) in
      let is : turned ≡ here ∷ between =
      e
      ∙ ap (λ n. drop n part ++ take n part) last
      ∙ ap (λ l. drop (length between) l ++ take (length between) l) part_is
      ∙ ap (λ l. l ++ take (length between) (between ++ here ∷ [])) (drop_at between (here ∷ []) (length between) refl)
      ∙ ap (λ l. here ∷ l) (take_at between (here ∷ []) (length between) refl) in
      let behind : drop (index + 1 - from) (drop from list) ≡ drop (index + 1) list =
      drop-drop (index + 1 - from) from list ∙ ap (λ n. drop n list) (omega (arith, order)) in
      ap (λ l. take from list ++ (l ++ drop (index + 1 - from) (drop from list))) is
      ∙ ap (λ l. take from list ++ (here ∷ between ++ l)) behind
      ∙ sym (append_assoc (take from list) (here ∷ between) (drop (index + 1) list))
