-- Secondaries backward, as ranks, one element after another.
use Rattle.std.proofs.Common.{◌≡◌, ℕ, ◌+◌, ◌<◌, ◌≤◌, Bool, true, false, cond, Option, Some, None, List, [], ◌∷◌, ◌++◌, length, drop, get_or, map, reverse, refl, sym, ap, ◌∙◌, append_assoc}
use Rattle.std.specs.Prelude.{option_map}
use Rattle.std.proofs.lemmas.List.{drop_more, map-append, drop_all, reverse-append}
use Rattle.icu_collator.specs.LevelLists.{counted_by, counted_list}
use Rattle.icu_collator.specs.Levels.{SecondaryPlace, segment_end, backward_from, is_segment_end, secondary_at}
use Rattle.icu_collator.specs.Order.{secondary_rank}
use Rattle.icu_collator.specs.Shifted.{Counted}

-- what is added before a rank, where there is one
abbrev pub behind_rank : Option ℕ → List ℕ → List ℕ
behind_rank (Some rank) before = rank ∷ before
behind_rank None before = before

-- the ranks, reversed in each segment; these stand before in the segment, the last first
unfoldable pub ranks_from : List ℕ → List Counted → List ℕ
ranks_from before [] = before
ranks_from before (e ∷ es) =
    let ended = before ++ 0 ∷ ranks_from [] es
    in let further = ranks_from (behind_rank (option_map secondary_rank (secondary_at e)) before) es
    in cond (is_segment_end e) ended further

-- they are those of the places
module _ (before : List SecondaryPlace) (e : Counted) (es : List Counted)
    (each : (ps : List SecondaryPlace) → map secondary_rank (backward_from ps es) ≡ ranks_from (map secondary_rank ps) es) where
  abbrev further : Option SecondaryPlace → List SecondaryPlace
  further o = elim o [ Some s ↦ backward_from (s ∷ before) es | None ↦ backward_from before es ]

  further_ranks : (o : Option SecondaryPlace)
      → map secondary_rank (further o) ≡ ranks_from (behind_rank (option_map secondary_rank o) (map secondary_rank before)) es
  further_ranks (Some s) = each (s ∷ before)
  further_ranks None = each before

  chosen_ranks : (b : Bool) → map secondary_rank (cond b (before ++ segment_end ∷ backward_from [] es) (further (secondary_at e)))
      ≡ cond b (map secondary_rank before ++ 0 ∷ ranks_from [] es) (ranks_from (behind_rank (option_map secondary_rank (secondary_at e)) (map secondary_rank before)) es)
  chosen_ranks true = map-append secondary_rank before (segment_end ∷ backward_from [] es) ∙ ap (λ rest. map secondary_rank before ++ 0 ∷ rest) (each [])
  chosen_ranks false = further_ranks (secondary_at e)

  one_more : map secondary_rank (backward_from before (e ∷ es)) ≡ ranks_from (map secondary_rank before) (e ∷ es)
  unfolding backward_from ranks_from
  one_more = chosen_ranks (is_segment_end e)

pub backward_ranks_are : (before : List SecondaryPlace) (es : List Counted) → map secondary_rank (backward_from before es) ≡ ranks_from (map secondary_rank before) es
unfolding backward_from ranks_from
backward_ranks_are before [] = refl
backward_ranks_are before (e ∷ es) = one_more before e es (λ ps. backward_ranks_are ps es)

-- what is left from a place on
pub left_from : (end : ℕ) (xs : List ℕ) (i x : ℕ) → i < length xs → x ≡ get_or xs i x
    → counted_list end (drop i xs) ≡ counted_by end x ∷ counted_list end (drop (i + 1) xs)
left_from end xs i x within is =
    ap (λ ys. counted_list end ys) (drop_more xs i x within) ∙ ap (λ y. counted_by end y ∷ counted_list end (drop (i + 1) xs)) (sym is)

-- the first element, where it ends a segment, and where it doesn't
first_ended : (before : List ℕ) (e : Counted) (es : List Counted) → is_segment_end e ≡ true → ranks_from before (e ∷ es) ≡ before ++ 0 ∷ ranks_from [] es
unfolding ranks_from
first_ended before e es test = rw test refl

first_other : (before : List ℕ) (e : Counted) (es : List Counted) → is_segment_end e ≡ false
    → ranks_from before (e ∷ es) ≡ ranks_from (behind_rank (option_map secondary_rank (secondary_at e)) before) es
unfolding ranks_from
first_other before e es test = rw test refl

module _ (end : ℕ) (xs : List ℕ) (i x : ℕ) (within : i < length xs) (is : x ≡ get_or xs i x) (list segment all : List ℕ)
    (so_far : list ++ ranks_from (reverse segment) (counted_list end (drop i xs)) ≡ all) where
  here : (ranks : List ℕ) → ranks_from (reverse segment) (counted_by end x ∷ counted_list end (drop (i + 1) xs)) ≡ ranks → list ++ ranks ≡ all
  here ranks e = ap (λ more. list ++ more) (sym e ∙ sym (ap (λ es. ranks_from (reverse segment) es) (left_from end xs i x within is))) ∙ so_far

  pub ended_more : (moved pushed emptied : List ℕ) → is_segment_end (counted_by end x) ≡ true → moved ≡ list ++ reverse segment → pushed ≡ moved ++ 0 ∷ []
      → emptied ≡ [] → pushed ++ ranks_from (reverse emptied) (counted_list end (drop (i + 1) xs)) ≡ all
  ended_more moved pushed emptied test m p e =
      let rest = ranks_from [] (counted_list end (drop (i + 1) xs))
      in rw (e, p, m, append_assoc (list ++ reverse segment) (0 ∷ []) rest, append_assoc list (reverse segment) (0 ∷ rest))
      (here (reverse segment ++ 0 ∷ rest) (first_ended (reverse segment) (counted_by end x) (counted_list end (drop (i + 1) xs)) test))

  pub rank_more : (rank : ℕ) (pushed : List ℕ) → is_segment_end (counted_by end x) ≡ false → Some rank ≡ option_map secondary_rank (secondary_at (counted_by end x))
      → pushed ≡ segment ++ rank ∷ [] → list ++ ranks_from (reverse pushed) (counted_list end (drop (i + 1) xs)) ≡ all
  rank_more rank pushed test given p =
      let rest = counted_list end (drop (i + 1) xs)
      in let turned : reverse pushed ≡ rank ∷ reverse segment = ap reverse p ∙ reverse-append segment (rank ∷ [])
      in rw turned (here (ranks_from (rank ∷ reverse segment) rest) (first_other (reverse segment) (counted_by end x) rest test ∙ ap (λ o. ranks_from (behind_rank o (reverse segment)) rest) (sym given)))

  pub none_more : is_segment_end (counted_by end x) ≡ false → None ≡ option_map secondary_rank (secondary_at (counted_by end x))
      → list ++ ranks_from (reverse segment) (counted_list end (drop (i + 1) xs)) ≡ all
  none_more test given =
      let rest = counted_list end (drop (i + 1) xs)
      in here (ranks_from (reverse segment) rest) (first_other (reverse segment) (counted_by end x) rest test ∙ ap (λ o. ranks_from (behind_rank o (reverse segment)) rest) (sym given))

-- at the end the last segment is left
pub backward_all : (end : ℕ) (xs : List ℕ) (i : ℕ) (list segment moved : List ℕ) → length xs ≤ i
    → list ++ ranks_from (reverse segment) (counted_list end (drop i xs)) ≡ ranks_from [] (counted_list end xs) → moved ≡ list ++ reverse segment
    → moved ≡ map secondary_rank (backward_from [] (counted_list end xs))
unfolding ranks_from
backward_all end xs i list segment moved past so_far m =
    m ∙ (rw (drop_all i xs past) at so_far) ∙ sym (backward_ranks_are [] (counted_list end xs))
