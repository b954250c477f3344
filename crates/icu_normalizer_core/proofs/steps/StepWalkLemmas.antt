-- A walk along steps, one visit after another.
use Rattle.std.proofs.Common.{◌≡◌, ◌≢◌, ℕ, ◌+◌, ◌<◌, ◌≤◌, List, [], ◌∷◌, ◌++◌, length, sym, ap, ◌∙◌, subst, refl, arith, inl, inr, ⊎_elim, nat_eq, eqb, Bool, true, false, cond, Option, Some, None}
use Rattle.std.specs.List.{Contains, IsDistinct, slice_index}
use Rattle.std.specs.Cmp.{nat_eq_equiv}
use Rattle.std.proofs.lemmas.Bool.{cases_lt, cases_eq, cond-true, cond-false, eq-eqb, ne_eqb, false≢true, false_from_ne_true}
use Rattle.std.proofs.lemmas.List.{get_or_append_left, get_or_push, length_push}
use Rattle.std.proofs.lemmas.List.Elements.{Contains-append_left, Contains-push, Contains-push_cases}
use Rattle.std.proofs.lemmas.Grind.{get_or_default_zero}
use Rattle.std.proofs.lemmas.Map.Views.{Contains-from_any}
use Rattle.std.proofs.lemmas.Map.Keys.{IsDistinct-push, apart_from_distinct}
use Rattle.std.proofs.lemmas.Bool.Decides.{Decides-eqb}
use Rattle.icu_normalizer_core.specs.Canonical.{Reaches, stands, steps}
use Rattle.icu_normalizer_core.specs.StepOrder.{AreInOrder}
use Rattle.icu_normalizer_core.specs.StepVisits.{IsCovered, IsWalkingOn}

-- what is reached from what is reached
pub reached_on : (step : ℕ → List ℕ) (t : List ℕ) (y x : ℕ) → Reaches step t y → Reaches step (step y) x → Reaches step t x
reached_on step t y x (stands s d h) r = steps s d x h r
reached_on step t y x (steps s d e h q) r = steps s d x h (reached_on step (step d) e x q r)

-- no character stands in two indices of a list without repeats
pub one_index : (list : List ℕ) (i j : ℕ) → IsDistinct nat_eq list → i < j → j < length list → slice_index list i ≡ slice_index list j → ⊥
one_index list i j distinct before within e =
    false≢true (sym (apart_from_distinct nat_eq list i j 0 distinct before within) ∙ eq-eqb (slice_index list i) (slice_index list j) e)

-- where an element stands
pub index_read : (list : List ℕ) (c : ℕ) (h : Contains list c) → slice_index list (h.0) ≡ c
index_read list c h = sym (get_or_default_zero list h.0 c h.1) ∙ h.2

-- one character more after those in order
pub in_order_push : (step : ℕ → List ℕ) (order : List ℕ) (c : ℕ) → AreInOrder step order → (Contains order c → ⊥)
    → ((d : ℕ) → Contains (step c) d → Contains order d) → AreInOrder step (order ++ c ∷ [])
in_order_push step order c so_far new behind =
    let after : List ℕ = order ++ c ∷ [] in
    let count : length after ≡ length order + 1 = length_push order c in
    let stays : (j : ℕ) → j < length order → slice_index after j ≡ slice_index order j = λ j h. get_or_append_left order (c ∷ []) 0 j h in
    record {
      distinct = IsDistinct-push nat_eq_equiv order c so_far.distinct
          (false_from_ne_true _ (λ t. new (Contains-from_any (λ x y h. (Decides-eqb x y).0 h) c order t)));
      behind = λ k within d h.
          ⊎_elim
          (λ below. let at = so_far.behind k below d (let P : ℕ → Type 0 = λ n. Contains (step n) d in subst P (stays k below) h) in
          let lower = at.1 in
          (at.0, at.1, stays at.0 (omega arith) ∙ at.2))
          (λ past. let here : k ≡ length order = omega arith in
          let at = behind d (let P : ℕ → Type 0 = λ n. Contains (step n) d in subst P (get_or_push order c 0 k (sym here)) h) in
          let lower = at.1 in
          (at.0, omega arith, stays at.0 at.1 ∙ index_read order d at))
          (cases_lt k (length order));
    }

-- what a note changes, and what it doesn't
abbrev pub Notes : (ℕ → Option Bool) → (ℕ → Option Bool) → ℕ → Bool → Type 0
Notes is_left after c b = (d : ℕ) → after d ≡ cond (eqb d c) (Some b) (is_left d)

pub noted_here : (is_left after : ℕ → Option Bool) (c : ℕ) (b : Bool) → Notes is_left after c b → (d : ℕ) → d ≡ c → after d ≡ Some b
noted_here is_left after c b notes d e = notes d ∙ cond-true _ _ _ (eq-eqb d c e)

pub noted_other : (is_left after : ℕ → Option Bool) (c : ℕ) (b : Bool) → Notes is_left after c b → (d : ℕ) → d ≢ c → after d ≡ is_left d
noted_other is_left after c b notes d apart = notes d ∙ cond-false _ _ _ (ne_eqb d c apart)

not_both : (a b : Option Bool) → a ≡ b → a ≡ Some true → b ≡ Some false → ⊥
not_both a b e f g = cc

not_neither : (a b : Option Bool) (x : Bool) → a ≡ b → a ≡ Some x → b ≡ None → ⊥
not_neither a b x e f g = cc

-- a visit less, to a character that is left
covered_less : (is_left after : ℕ → Option Bool) (n : ℕ) (characters : ℕ → ℕ) (index d : ℕ) → ((q : ℕ) → is_left q ≡ Some true → after q ≡ Some true)
    → after (characters n) ≡ Some true → IsCovered is_left (n + 1) characters index d → IsCovered after n characters index d
covered_less is_left after n characters index d keeps top (inl e) = inl (keeps d e)
covered_less is_left after n characters index d keeps top (inr (j, from, within, e)) =
    ⊎_elim
    (λ (below : j < n). inr (j, from, below, e))
    (λ (past : n ≤ j). let same : n ≡ j = omega arith in inl (ap after (sym e) ∙ sym (ap (λ (i : ℕ). after (characters i)) same) ∙ top))
    (cases_lt j n)

module _ (step : ℕ → List ℕ) (starts : List ℕ) where
  -- other visits at indices that aren't reached yet
  pub walking_along : (order : List ℕ) (is_left : ℕ → Option Bool) (n : ℕ) (characters others : ℕ → ℕ) (entered flags : ℕ → Bool)
      → ((i : ℕ) → i < n → (others i ≡ characters i) × (flags i ≡ entered i))
      → IsWalkingOn step starts order is_left n characters entered → IsWalkingOn step starts order is_left n others flags
  walking_along order is_left n characters others entered flags same w =
      let covered : (index d : ℕ) → IsCovered is_left n characters index d → IsCovered is_left n others index d =
      λ index d h. ⊎_elim (λ e. inl e) (λ at. inr (at.0, at.1, at.2, (same at.0 at.2).0 ∙ at.3)) h in
      record {
        in_order = w.in_order;
        placed = w.placed;
        left = w.left;
        unfinished = λ c e. let at = w.unfinished c e in (at.0, at.1, (same at.0 at.1).1 ∙ at.2, (same at.0 at.1).0 ∙ at.3);
        opened = λ i h e. ap is_left (same i h).0 ∙ w.opened i h (sym (same i h).1 ∙ e);
        once = λ i j before h e f g.
            let k : i < n = omega arith in
            w.once i j before h (sym (same i k).1 ∙ e) (sym (same j h).1 ∙ f) (sym (same i k).0 ∙ g ∙ (same j h).0);
        owed = λ i h e d stepped.
            covered (i + 1) d (w.owed i h (sym (same i h).1 ∙ e) d (let P : ℕ → Type 0 = λ c. Contains (step c) d in subst P (same i h).0 stepped));
        led = λ i j before h e.
            let k : i < n = omega arith in
            let P : ℕ → Type 0 = λ c. Reaches step (step c) (others j) in
            subst P (sym (same i k).0) (subst (Reaches step (step (characters i))) (sym (same j h).0) (w.led i j before h (sym (same i k).1 ∙ e)));
        begun = λ d h. covered 0 d (w.begun d h);
      }

  -- a visit to a character that is left already
  pub pass : (order : List ℕ) (is_left : ℕ → Option Bool) (n : ℕ) (characters : ℕ → ℕ) (entered : ℕ → Bool)
      → IsWalkingOn step starts order is_left (n + 1) characters entered → entered n ≡ false → is_left (characters n) ≡ Some true
      → IsWalkingOn step starts order is_left n characters entered
  pass order is_left n characters entered w new top =
      let less : (index d : ℕ) → IsCovered is_left (n + 1) characters index d → IsCovered is_left n characters index d =
      λ index d h. covered_less is_left is_left n characters index d (λ q e. e) top h in
      record {
        in_order = w.in_order;
        placed = w.placed;
        left = w.left;
        unfinished = λ c e. let at = w.unfinished c e in
            let apart : at.0 ≢ n = λ same. false≢true (sym new ∙ sym (ap entered same) ∙ at.2) in
            let within = at.1 in
            (at.0, omega arith, at.2, at.3);
        opened = λ i h e. w.opened i (omega arith) e;
        once = λ i j before h e f g. w.once i j before (omega arith) e f g;
        owed = λ i h e d stepped. less (i + 1) d (w.owed i (omega arith) e d stepped);
        led = λ i j before h e. w.led i j before (omega arith) e;
        begun = λ d h. less 0 d (w.begun d h);
      }

  -- an entered character is left
  pub leave : (order : List ℕ) (is_left after : ℕ → Option Bool) (n : ℕ) (characters : ℕ → ℕ) (entered : ℕ → Bool) (c : ℕ)
      → IsWalkingOn step starts order is_left (n + 1) characters entered → characters n ≡ c → entered n ≡ true → Notes is_left after c true
      → IsWalkingOn step starts (order ++ c ∷ []) after n characters entered
  leave order is_left after n characters entered c w at is_entered notes =
      let here : (d : ℕ) → d ≡ c → after d ≡ Some true = noted_here is_left after c true notes in
      let other : (d : ℕ) → d ≢ c → after d ≡ is_left d = noted_other is_left after c true notes in
      let opened : is_left c ≡ Some false = sym (ap is_left at) ∙ w.opened n (omega arith) is_entered in
      let keeps : (q : ℕ) → is_left q ≡ Some true → after q ≡ Some true = λ q e. ⊎_elim (λ same. here q same) (λ apart. other q apart ∙ e) (cases_eq q c) in
      let less : (index d : ℕ) → IsCovered is_left (n + 1) characters index d → IsCovered after n characters index d =
      λ index d h. covered_less is_left after n characters index d keeps (here (characters n) at) h in
      let apart : (i : ℕ) → i < n → entered i ≡ true → characters i ≢ c = λ i h e same. w.once i n h (omega arith) e is_entered (same ∙ sym at) in
      record {
        in_order = in_order_push step order c w.in_order (λ h. not_both _ _ refl (w.left c h) opened)
            (λ d h. ⊎_elim (λ e. w.placed d e)
            (λ more. let from = more.1 in let within = more.2 in absurd (omega arith))
            (w.owed n (omega arith) is_entered d (let P : ℕ → Type 0 = λ x. Contains (step x) d in subst P (sym at) h)));
        placed = λ d e.
            ⊎_elim
            (λ same. subst (Contains (order ++ c ∷ [])) (sym same) (Contains-push order c))
            (λ new. Contains-append_left order (c ∷ []) d (w.placed d (sym (other d new) ∙ e)))
            (cases_eq d c);
        left = λ d h. ⊎_elim (λ old. keeps d (w.left d old)) (λ same. here d (sym same)) (Contains-push_cases order c d h);
        unfinished = λ d e.
            let new : d ≢ c = λ same. not_both _ _ refl (here d same) e in
            let open_at = w.unfinished d (sym (other d new) ∙ e) in
            let lower : open_at.0 ≢ n = λ same. new (sym open_at.3 ∙ ap characters same ∙ at) in
            let within = open_at.1 in
            (open_at.0, omega arith, open_at.2, open_at.3);
        opened = λ i h e. other (characters i) (apart i h e) ∙ w.opened i (omega arith) e;
        once = λ i j before h e f g. w.once i j before (omega arith) e f g;
        owed = λ i h e d stepped. less (i + 1) d (w.owed i (omega arith) e d stepped);
        led = λ i j before h e. w.led i j before (omega arith) e;
        begun = λ d h. less 0 d (w.begun d h);
      }

  -- a character that is open leads back to itself
  pub closes : (order : List ℕ) (is_left : ℕ → Option Bool) (n : ℕ) (characters : ℕ → ℕ) (entered : ℕ → Bool) (c : ℕ)
      → IsWalkingOn step starts order is_left (n + 1) characters entered → characters n ≡ c → entered n ≡ false → is_left c ≡ Some false
      → Reaches step (step c) c
  closes order is_left n characters entered c w at new e =
      let open_at = w.unfinished c e in
      let apart : open_at.0 ≢ n = λ same. false≢true (sym new ∙ sym (ap entered same) ∙ open_at.2) in
      let within = open_at.1 in
      let P : ℕ → Type 0 = λ x. Reaches step (step x) c in
      subst P open_at.3 (subst (Reaches step (step (characters open_at.0))) at (w.led open_at.0 n (omega arith) (omega arith) open_at.2))

  -- at the end each character that was given is in order
  pub ended : (order : List ℕ) (is_left : ℕ → Option Bool) (n : ℕ) (characters : ℕ → ℕ) (entered : ℕ → Bool)
      → IsWalkingOn step starts order is_left n characters entered → n ≡ 0 → (d : ℕ) → Contains starts d → Contains order d
  ended order is_left n characters entered w none d h =
      ⊎_elim (λ e. w.placed d e) (λ more. let within = more.2 in absurd (omega arith)) (w.begun d h)
