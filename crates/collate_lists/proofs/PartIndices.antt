-- Ranks, and the lists in which they are.
use Rattle.std.proofs.Common.{◌≡◌, ℕ, ◌+◌, ◌-◌, ◌<◌, ◌≤◌, List, [], ◌∷◌, ◌++◌, All, get_or, length, set, take, drop, refl, sym, ap, ◌∙◌, inl, inr, subst, arith, append-nil, length-set, get_or-set_same}
use Rattle.std.proofs.Math.Nat.{zero-add}
use Rattle.std.proofs.Math.Seq.{get_or-append_seam}
use Rattle.std.proofs.lemmas.List.{length-map, length_push, take_all, take_at}
use Rattle.std.proofs.lemmas.Bool.{cases_lt}
use Rattle.std.proofs.lemmas.List.Edits.{length-insert, get_or-insert_below, get_or-insert_at, insert_end}
use Rattle.std.proofs.lemmas.List.Elements.{All-drop, All-push, All-weaker}
use Rattle.std.specs.Prelude.{insert, slice_index, vec_capacity}
use Rattle.std.specs.Global.{Vec}
use Rattle.collate_lists.specs.declared.list_rows.TheConstants.{FULL}
use Rattle.collate_lists.specs.declared.windows.FrontedSlot.{FrontedSlot}
use Rattle.collate_lists.specs.Lists.{joined, lengths, starts_from, starts_of, AreRoomy}
use Rattle.collate_lists.specs.Parts.{IsIndexOf, IsFreeFor}
use Rattle.collate_lists.specs.Starts.{IsAround}
use Rattle.collate_lists.proofs.Rows.{joined-append, length_at, start_at, start_next, length-starts_from, starts_from-append, starts_from_high, starts_from_low, drop-starts_from}

-- where there are values there are lists
pub some_list : (lists : List (Vec FrontedSlot)) → 0 < length (joined lists) → 0 < length lists
some_list [] h = h
some_list (list ∷ lists) h = omega arith

pub first_start : (lists : List (Vec FrontedSlot)) (rank : ℕ) → 0 < length lists → slice_index (starts_of lists) 0 ≤ rank
first_start [] rank h = absurd (omega arith)
first_start (list ∷ lists) rank h = omega arith

-- the list around a rank has the rank's slot
pub found : (lists : List (Vec FrontedSlot)) (starts : List ℕ) (count rank part : ℕ) → starts ≡ starts_of lists → count ≡ length (joined lists) → rank ≤ count → IsAround starts rank part
    → IsIndexOf lists rank part (rank - slice_index starts part) × (rank < count → rank - slice_index starts part < slice_index (lengths lists) part)
found lists starts count rank part are counts h around =
    let within : part < length lists = omega (arith, around.within, ap length are, length-starts_from 0 lists) in
    let here : slice_index starts part ≡ length (joined (take part lists)) = ap (λ xs. slice_index xs part) are ∙ start_at 0 lists part within ∙ zero-add (length (joined (take part lists))) in
    let next : length (joined (take (part + 1) lists)) ≡ length (joined (take part lists)) + slice_index (lengths lists) part = start_next lists part within in
    let long : length starts ≡ length lists = ap length are ∙ length-starts_from 0 lists in
    elim (cases_lt (part + 1) (length lists)) [
      | inl more ↦
          let behind : slice_index starts (part + 1) ≡ length (joined (take (part + 1) lists)) =
          ap (λ xs. slice_index xs (part + 1)) are ∙ start_at 0 lists (part + 1) more ∙ zero-add (length (joined (take (part + 1) lists))) in
          let below : rank < slice_index starts (part + 1) = around.before (omega arith) in
          (record { within = within; upto = omega (arith, around.from); ranked = omega (arith, around.from) }, λ inside. omega (arith, around.from))
      | inr last ↦
          let all : length (joined (take (part + 1) lists)) ≡ length (joined lists) = ap (λ xs. length (joined xs)) (take_all (part + 1) lists last) in
          (record { within = within; upto = omega (arith, around.from); ranked = omega (arith, around.from) }, λ inside. omega (arith, around.from))
    ]

-- the halves of a full list have its slots, and neither is full
pub free_in_halves : (lists new : List (Vec FrontedSlot)) (part place rank half : ℕ) → half < FULL → slice_index (lengths lists) part ≡ half + half
    → starts_of new ≡ insert (starts_of lists) (part + 1) (slice_index (starts_of lists) part + half) → lengths new ≡ insert (set (lengths lists) part half) (part + 1) half
    → IsIndexOf lists rank part place → (place ≤ half → IsFreeFor new rank part place) × (half < place → IsFreeFor new rank (part + 1) (place - half))
free_in_halves lists new part place rank half small full starts long at =
    let within : part < length lists = at.within in
    let many : length (lengths lists) ≡ length lists = length-map lists (λ (l : Vec FrontedSlot). length l.items) in
    let many_set : length (set (lengths lists) part half) ≡ length lists = length-set (lengths lists) part half ∙ many in
    let many_new : length new ≡ length lists + 1 =
    sym (length-map new (λ (l : Vec FrontedSlot). length l.items)) ∙ ap length long ∙ length-insert (set (lengths lists) part half) (part + 1) half (omega arith) ∙ ap (λ n. n + 1) many_set in
    let many_starts : length (starts_of lists) ≡ length lists = length-starts_from 0 lists in
    let low : slice_index (lengths new) part ≡ half =
    ap (λ xs. slice_index xs part) long ∙ get_or-insert_below (set (lengths lists) part half) (part + 1) half 0 part (omega arith) (omega arith) ∙ get_or-set_same (lengths lists) part half 0 (omega arith) in
    let high : slice_index (lengths new) (part + 1) ≡ half =
    ap (λ xs. slice_index xs (part + 1)) long ∙ get_or-insert_at (set (lengths lists) part half) (part + 1) half 0 (omega arith) in
    let start : length (joined (take part new)) ≡ length (joined (take part lists)) =
    omega (
      arith,
      start_at 0 new part (omega arith),
      ap (λ xs. slice_index xs part) starts,
      get_or-insert_below (starts_of lists) (part + 1) (slice_index (starts_of lists) part + half) 0 part (omega arith) (omega arith),
      start_at 0 lists part within,
    ) in
    let next : length (joined (take (part + 1) new)) ≡ length (joined (take part new)) + half = start_next new part (omega arith) ∙ ap (λ n. length (joined (take part new)) + n) low in (
      λ h. record { at = record { within = omega arith; upto = omega arith; ranked = omega (arith, at.ranked) }; space = omega arith },
      λ h. record { at = record { within = omega arith; upto = omega (arith, at.upto); ranked = omega (arith, at.ranked) }; space = omega arith },
    )

-- an empty list after all others
module _ (lists : List (Vec FrontedSlot)) (empty : Vec FrontedSlot) (none : empty.items ≡ []) where
  pub joined_behind : joined (lists ++ empty ∷ []) ≡ joined lists
  joined_behind = joined-append lists (empty ∷ []) ∙ ap (λ xs. joined lists ++ (xs ++ [])) none ∙ append-nil (joined lists)

  pub starts_behind : (count : ℕ) → count ≡ length (joined lists) → insert (starts_of lists) (length lists) count ≡ starts_of (lists ++ empty ∷ [])
  starts_behind count e =
      let start : 0 + length (joined lists) ≡ count = omega (arith, e) in
      ap (λ n. insert (starts_of lists) n count) (sym (length-starts_from 0 lists))
      ∙ insert_end (starts_of lists) count
      ∙ sym (starts_from-append 0 lists (empty ∷ []) ∙ ap (λ n. starts_of lists ++ n ∷ []) start)

  pub roomy_behind : AreRoomy lists → FULL ≤ vec_capacity empty → AreRoomy (lists ++ empty ∷ [])
  roomy_behind roomy memory =
      All-push (λ (list : Vec FrontedSlot). (length list.items ≤ FULL) × (FULL ≤ vec_capacity list)) lists empty roomy (omega (arith, ap length none), memory)

  pub free_behind : (count : ℕ) → count ≡ length (joined lists) → IsFreeFor (lists ++ empty ∷ []) count (length lists) 0
  free_behind count e =
      let more : List (Vec FrontedSlot) = lists ++ empty ∷ [] in
      let longer : length more ≡ length lists + 1 = length_push lists empty in
      let held : slice_index (lengths more) (length lists) ≡ 0 =
      length_at more (length lists) empty (omega arith) (sym (get_or-append_seam lists empty [] empty)) ∙ ap length none in
      let start : length (joined (take (length lists) more)) ≡ length (joined lists) =
      ap (λ (ls : List (Vec FrontedSlot)). length (joined ls)) (take_at lists (empty ∷ []) (length lists) refl) in
      record { at = record { within = omega arith; upto = omega arith; ranked = omega (arith, e) }; space = omega arith }

-- the slot after the values of the last list
pub free_last : (lists : List (Vec FrontedSlot)) (part : ℕ) (list : Vec FrontedSlot) (count : ℕ) → part + 1 ≡ length lists → list ≡ get_or lists part list → length list.items < FULL → count ≡ length (joined lists)
    → IsFreeFor lists count part (length list.items)
free_last lists part list count last is space e =
    let held : slice_index (lengths lists) part ≡ length list.items = length_at lists part list (omega arith) is in
    let all : length (joined (take (part + 1) lists)) ≡ length (joined lists) = ap (λ (ls : List (Vec FrontedSlot)). length (joined ls)) (take_all (part + 1) lists (omega arith)) in
    record {
      at = record { within = omega arith; upto = omega (arith, held); ranked = omega (arith, held, all, e, start_next lists part (omega arith)) };
      space = omega (arith, held);
    }

-- the ranks after a slot can be moved
pub raise_ready : (lists : List (Vec FrontedSlot)) (n bound : ℕ) → length (joined lists) < bound → All (λ start. start < bound) (drop n (starts_of lists))
raise_ready lists n bound h =
    All-drop (λ start. start < bound) n (starts_of lists) (All-weaker (λ start. start ≤ 0 + length (joined lists)) (λ start. start < bound) (λ start k. omega arith) (starts_of lists) (starts_from_high 0 lists))

pub lower_ready : (lists : List (Vec FrontedSlot)) (part : ℕ) → part < length lists → 0 < slice_index (lengths lists) part → All (λ start. 0 < start) (drop (part + 1) (starts_of lists))
lower_ready lists part within h =
    let n = length (joined (take (part + 1) lists)) in
    let some : 0 < n = omega (arith, start_next lists part within) in
    subst (λ xs. All (λ start. 0 < start) xs) (sym (drop-starts_from 0 (part + 1) lists))
    (All-weaker (λ start. 0 + n ≤ start) (λ start. 0 < start) (λ start k. omega arith) (starts_from (0 + n) (drop (part + 1) lists)) (starts_from_low (0 + n) (drop (part + 1) lists)))
