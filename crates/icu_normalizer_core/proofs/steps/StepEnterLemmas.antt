-- A walk along steps enters a character.
use Rattle.std.proofs.Common.{◌≡◌, ◌≢◌, ℕ, ◌+◌, ◌-◌, ◌<◌, ◌≤◌, List, length, sym, ap, ◌∙◌, subst, arith, ◌⊎◌, inl, inr, ⊎_elim, Bool, true, false, Option, Some, None}
use Rattle.std.specs.List.{Contains, slice_index}
use Rattle.std.proofs.lemmas.Bool.{cases_lt, cases_eq, false≢true}
use Rattle.std.proofs.lemmas.List.Elements.{Contains-get_or}
use Rattle.icu_normalizer_core.specs.Canonical.{Reaches, stands}
use Rattle.icu_normalizer_core.specs.StepVisits.{IsCovered, IsWalkingOn}
use Rattle.icu_normalizer_core.proofs.steps.StepWalkLemmas.{Notes, noted_here, noted_other, reached_on, index_read}

-- The visits once a character is entered: the n below stay, then it is to be left, and what its step gives is to be entered.
pub record Enters (step : ℕ → List ℕ) (n later : ℕ) (characters next : ℕ → ℕ) (entered flags : ℕ → Bool) (c : ℕ) : Type 0 where
  pub count : later ≡ n + 1 + length (step c)
  pub below : (i : ℕ) → i < n → (next i ≡ characters i) × (flags i ≡ entered i)
  pub here : (next n ≡ c) × (flags n ≡ true)
  pub above : (j : ℕ) → n < j → j < later → (next j ≡ slice_index (step c) (j - (n + 1))) × (flags j ≡ false)

module _ (step : ℕ → List ℕ) (n later : ℕ) (characters next : ℕ → ℕ) (entered flags : ℕ → Bool) (c : ℕ) (enters : Enters step n later characters next entered flags c) where
  -- what is above is given by the step
  given_above : (j : ℕ) → n < j → j < later → Contains (step c) (next j)
  given_above j above within =
      let count = enters.count in
      let at : j - (n + 1) < length (step c) = omega arith in
      subst (Contains (step c)) (sym (enters.above j above within).0) (Contains-get_or (step c) (j - (n + 1)) 0 at)

  -- what the step gives stands above
  above_given : (d : ℕ) → Contains (step c) d → (j : ℕ) × (n + 1 ≤ j) × (j < later) × (next j ≡ d)
  above_given d h =
      let count = enters.count in let at = h.1 in
      let within : n + 1 + h.0 < later = omega arith in
      let same : n + 1 + h.0 - (n + 1) ≡ h.0 = omega arith in
      (n + 1 + h.0, omega arith, within, (enters.above (n + 1 + h.0) (omega arith) within).0 ∙ ap (slice_index (step c)) same ∙ index_read (step c) d h)

  covered_more : (is_left after : ℕ → Option Bool) (index d : ℕ) → index ≤ n → ((q : ℕ) → is_left q ≡ Some true → after q ≡ Some true) → characters n ≡ c
      → IsCovered is_left (n + 1) characters index d → IsCovered after later next index d
  covered_more is_left after index d low keeps at (inl e) = inl (keeps d e)
  covered_more is_left after index d low keeps at (inr (j, from, within, e)) =
      let count = enters.count in
      ⊎_elim
      (λ (below : j < n). inr (j, from, omega arith, (enters.below j below).0 ∙ e))
      (λ (past : n ≤ j). let same : n ≡ j = omega arith in inr (n, low, omega arith, enters.here.0 ∙ sym at ∙ ap characters same ∙ e))
      (cases_lt j n)

  entered_below : (i : ℕ) → i < later → flags i ≡ true → (i < n) ⊎ (n ≡ i)
  entered_below i within e =
      ⊎_elim
      (λ (below : i < n). inl below)
      (λ (from : n ≤ i). ⊎_elim
      (λ (above : n < i). absurd (false≢true (sym (enters.above i above within).1 ∙ e)))
      (λ (upto : i ≤ n). inr (omega arith))
      (cases_lt n i))
      (cases_lt i n)

  module _ (starts order : List ℕ) (is_left after : ℕ → Option Bool) (w : IsWalkingOn step starts order is_left (n + 1) characters entered)
      (at : characters n ≡ c) (free : is_left c ≡ None) (notes : Notes is_left after c false) where
    here : (d : ℕ) → d ≡ c → after d ≡ Some false
    here = noted_here is_left after c false notes

    other : (d : ℕ) → d ≢ c → after d ≡ is_left d
    other = noted_other is_left after c false notes

    known_apart : (d : ℕ) (b : Bool) → is_left d ≡ Some b → d ≢ c
    known_apart d b e same = let f : is_left d ≡ is_left c = ap is_left same in cc

    keeps : (q : ℕ) → is_left q ≡ Some true → after q ≡ Some true
    keeps q e = other q (known_apart q true e) ∙ e

    was_left : (q : ℕ) → after q ≡ Some true → is_left q ≡ Some true
    was_left q e =
        let apart : q ≢ c = λ same. let f = here q same in cc in
        sym (other q apart) ∙ e

    -- at an index below
    low_entered : (i : ℕ) → i < n → flags i ≡ true → entered i ≡ true
    low_entered i h e = sym (enters.below i h).1 ∙ e

    led_to_here : (i : ℕ) → i < n → flags i ≡ true → Reaches step (step (next i)) c
    led_to_here i h e =
        let P : ℕ → Type 0 = λ x. Reaches step (step x) c in
        subst P (sym (enters.below i h).0) (subst (Reaches step (step (characters i))) at (w.led i n h (omega arith) (low_entered i h e)))

    led_low : (i j : ℕ) → i < n → i < j → j < later → flags i ≡ true → Reaches step (step (next i)) (next j)
    led_low i j low before within e =
        ⊎_elim
        (λ (below : j < n).
        let P : ℕ → Type 0 = λ x. Reaches step (step x) (next j) in
        subst P (sym (enters.below i low).0) (subst (Reaches step (step (characters i))) (sym (enters.below j below).0) (w.led i j before (omega arith) (low_entered i low e))))
        (λ (from : n ≤ j). ⊎_elim
        (λ (above : n < j). reached_on step (step (next i)) c (next j) (led_to_here i low e) (stands (step c) (next j) (given_above j above within)))
        (λ (upto : j ≤ n). let same : n ≡ j = omega arith in subst (Reaches step (step (next i))) (sym enters.here.0 ∙ ap next same) (led_to_here i low e))
        (cases_lt n j))
        (cases_lt j n)

    led_here : (i j : ℕ) → n ≡ i → i < j → j < later → Reaches step (step (next i)) (next j)
    led_here i j same before within =
        let P : ℕ → Type 0 = λ x. Reaches step (step x) (next j) in
        subst P (sym enters.here.0 ∙ ap next same) (stands (step c) (next j) (given_above j (omega arith) within))

    once_entered : (i j : ℕ) → i < j → j < later → flags i ≡ true → flags j ≡ true → next i ≡ next j → ⊥
    once_entered i j before within e f same =
        ⊎_elim
        (λ (below : j < n). let low : i < n = omega arith in
        w.once i j before (omega arith) (low_entered i low e) (low_entered j below f) (sym (enters.below i low).0 ∙ same ∙ (enters.below j below).0))
        (λ (here_at : n ≡ j). let low : i < n = omega arith in
        known_apart (characters i) false (w.opened i (omega arith) (low_entered i low e)) (sym (enters.below i low).0 ∙ same ∙ sym (ap next here_at) ∙ enters.here.0))
        (entered_below j within f)

    owed_entered : (i : ℕ) → i < later → flags i ≡ true → (d : ℕ) → Contains (step (next i)) d → IsCovered after later next (i + 1) d
    owed_entered i within e d stepped =
        let P : ℕ → Type 0 = λ x. Contains (step x) d in
        ⊎_elim
        (λ (low : i < n). covered_more is_left after (i + 1) d (omega arith) keeps at
        (w.owed i (omega arith) (low_entered i low e) d (subst P (enters.below i low).0 stepped)))
        (λ (same : n ≡ i). let given = above_given d (subst P (sym (ap next same) ∙ enters.here.0) stepped) in
        let from = given.1 in
        inr (given.0, omega arith, given.2, given.3))
        (entered_below i within e)

    pub enter : IsWalkingOn step starts order after later next flags
    enter = record {
      in_order = w.in_order;
      placed = λ d e. w.placed d (was_left d e);
      left = λ d h. keeps d (w.left d h);
      unfinished = λ d e.
          let count = enters.count in
          ⊎_elim
          (λ same. (n, omega arith, enters.here.1, enters.here.0 ∙ sym same))
          (λ apart. let open_at = w.unfinished d (sym (other d apart) ∙ e) in
          let within = open_at.1 in
          let lower : open_at.0 ≢ n = λ same. apart (sym open_at.3 ∙ ap characters same ∙ at) in
          let low : open_at.0 < n = omega arith in
          (open_at.0, omega arith, (enters.below open_at.0 low).1 ∙ open_at.2, (enters.below open_at.0 low).0 ∙ open_at.3))
          (cases_eq d c);
      opened = λ i within e.
          ⊎_elim
          (λ (low : i < n). let was = w.opened i (omega arith) (low_entered i low e) in
          ap after (enters.below i low).0 ∙ other (characters i) (known_apart (characters i) false was) ∙ was)
          (λ (same : n ≡ i). here (next i) (sym (ap next same) ∙ enters.here.0))
          (entered_below i within e);
      once = once_entered;
      owed = owed_entered;
      led = λ i j before within e.
          ⊎_elim (λ (low : i < n). led_low i j low before within e) (λ (same : n ≡ i). led_here i j same before within) (entered_below i (omega arith) e);
      begun = λ d h. covered_more is_left after 0 d (omega arith) keeps at (w.begun d h);
    }
