-- A walk along steps by its stack of visits.
use Rattle.std.proofs.Common.{◌≡◌, ℕ, ◌+◌, ◌-◌, ◌<◌, List, [], ◌∷◌, ◌++◌, length, sym, ap, ◌∙◌, subst, refl, arith, inr, nat_eq, Bool, true, false, Option, Some, None, map, length-append}
use Rattle.std.specs.List.{IsDistinct, slice_index}
use Rattle.std.proofs.lemmas.Bool.{false≢true}
use Rattle.std.proofs.lemmas.List.{get_or_append_left, get_or-append_right, get_or_push, get_or-map, length-map, length_push}
use Rattle.icu_normalizer_core.specs.Canonical.{Reaches}
use Rattle.icu_normalizer_core.specs.StepVisits.{IsWalkingOn, IsWalking, character_at, entered_at, to_be_entered, work}
use Rattle.icu_normalizer_core.specs.declared.step_order.Visit.{Visit}
use Rattle.icu_normalizer_core.proofs.steps.StepWalkLemmas.{Notes, walking_along, pass, leave, closes, index_read}
use Rattle.icu_normalizer_core.proofs.steps.StepEnterLemmas.{Enters, enter}
use Rattle.icu_normalizer_core.proofs.steps.StepWorkLemmas.{work_kept, work_less}

distinct_none : IsDistinct nat_eq []
unfolding IsDistinct
distinct_none = tt

visit_in : (characters : List ℕ) (i : ℕ) → i < length characters
    → (character_at (map to_be_entered characters) i ≡ slice_index characters i) × (entered_at (map to_be_entered characters) i ≡ false)
visit_in characters i h =
    let e = get_or-map to_be_entered characters i 0 (to_be_entered 0) h in
    (ap (λ (v : Visit). v.character) e, ap (λ (v : Visit). v.is_entered) e)

-- a stack with a visit on top, and visits to what a step gives
pub stack_grown : (below marked later : List Visit) (mark : Visit) (given stepped : List ℕ) → marked ≡ below ++ mark ∷ []
    → later ≡ marked ++ map to_be_entered given → given ≡ stepped → later ≡ (below ++ mark ∷ []) ++ map to_be_entered stepped
stack_grown below marked later mark given stepped e f g =
    f ∙ ap (λ (s : List Visit). s ++ map to_be_entered given) e ∙ ap (λ (l : List ℕ). (below ++ mark ∷ []) ++ map to_be_entered l) g

module _ (step : ℕ → List ℕ) (starts : List ℕ) where
  pub walk_begun : (is_left : ℕ → Option Bool) (order : List ℕ) (stack : List Visit) → order ≡ [] → ((c : ℕ) → is_left c ≡ None) → stack ≡ map to_be_entered starts
      → IsWalking step starts order is_left stack
  walk_begun is_left order stack none free e =
      let P : List Visit → Type 0 = λ s. IsWalking step starts order is_left s in
      let Q : List ℕ → Type 0 = λ l. IsWalking step starts l is_left (map to_be_entered starts) in
      let count : length (map to_be_entered starts) ≡ length starts = length-map starts to_be_entered in
      let new : (i : ℕ) → i < length (map to_be_entered starts) → entered_at (map to_be_entered starts) i ≡ true → ⊥ =
      λ i h entered. false≢true (sym (visit_in starts i (omega arith)).1 ∙ entered) in
      let unknown : (c : ℕ) (b : Bool) → is_left c ≡ Some b → ⊥ = λ c b known. let f = free c in cc in
      subst P (sym e) (subst Q (sym none) (record {
        in_order = record { distinct = distinct_none; behind = λ k h. absurd (omega arith) };
        placed = λ c known. absurd (unknown c true known);
        left = λ c h. let within = h.1 in absurd (omega arith);
        unfinished = λ c known. absurd (unknown c false known);
        opened = λ i h entered. absurd (new i h entered);
        once = λ i j before h entered other same. new j h other;
        owed = λ i h entered. absurd (new i h entered);
        led = λ i j before h entered. absurd (new i (omega arith) entered);
        begun = λ c h. let within = h.1 in inr (h.0, omega arith, omega arith, (visit_in starts h.0 h.1).0 ∙ index_read starts c h);
      }))

  module _ (stack below : List Visit) (visit : Visit) (popped : stack ≡ below ++ visit ∷ []) where
    full : List Visit
    full = below ++ visit ∷ []

    top : (character_at (below ++ visit ∷ []) (length below) ≡ visit.character) × (entered_at (below ++ visit ∷ []) (length below) ≡ visit.is_entered)
    top = let e = get_or_push below visit (to_be_entered 0) (length below) refl in (ap (λ (v : Visit). v.character) e, ap (λ (v : Visit). v.is_entered) e)

    lower : (i : ℕ) → i < length below
        → (character_at below i ≡ character_at (below ++ visit ∷ []) i) × (entered_at below i ≡ entered_at (below ++ visit ∷ []) i)
    lower i h =
        let e = sym (get_or_append_left below (visit ∷ []) (to_be_entered 0) i h) in
        (ap (λ (v : Visit). v.character) e, ap (λ (v : Visit). v.is_entered) e)

    -- the walk with a visit on top
    with_top : (order : List ℕ) (is_left : ℕ → Option Bool) → IsWalking step starts order is_left stack
        → IsWalkingOn step starts order is_left (length below + 1) (character_at (below ++ visit ∷ [])) (entered_at (below ++ visit ∷ []))
    with_top order is_left w =
        let P : List Visit → Type 0 = λ s. IsWalking step starts order is_left s in
        let Q : ℕ → Type 0 = λ n. IsWalkingOn step starts order is_left n (character_at (below ++ visit ∷ [])) (entered_at (below ++ visit ∷ [])) in
        subst Q (length_push below visit) (subst P popped w)

    height : length stack ≡ length below + 1
    height = ap length popped ∙ length_push below visit

    pub walk_passed : (order : List ℕ) (is_left : ℕ → Option Bool) → IsWalking step starts order is_left stack → visit.is_entered ≡ false
        → is_left visit.character ≡ Some true → IsWalking step starts order is_left below
    walk_passed order is_left w new known =
        walking_along step starts order is_left (length below) _ _ _ _ lower
        (pass step starts order is_left (length below) _ _ (with_top order is_left w) (top.1 ∙ new) (ap is_left top.0 ∙ known))

    pub walk_left : (order list : List ℕ) (is_left after : ℕ → Option Bool) → IsWalking step starts order is_left stack → visit.is_entered ≡ true
        → list ≡ order ++ visit.character ∷ [] → Notes is_left after visit.character true → IsWalking step starts list after below
    walk_left order list is_left after w entered grown notes =
        let P : List ℕ → Type 0 = λ l. IsWalking step starts l after below in
        subst P (sym grown) (walking_along step starts (order ++ visit.character ∷ []) after (length below) _ _ _ _ lower
        (leave step starts order is_left after (length below) _ _ visit.character (with_top order is_left w) top.0 (top.1 ∙ entered) notes))

    pub walk_closed : (order : List ℕ) (is_left : ℕ → Option Bool) → IsWalking step starts order is_left stack → visit.is_entered ≡ false
        → is_left visit.character ≡ Some false → Reaches step (step visit.character) visit.character
    walk_closed order is_left w new known =
        closes step starts order is_left (length below) _ _ visit.character (with_top order is_left w) top.0 (top.1 ∙ new) known

    -- the visits once the character is entered
    entered_on : (later : List Visit) (c : ℕ) → later ≡ (below ++ record { character = c; is_entered = true } ∷ []) ++ map to_be_entered (step c)
        → Enters step (length below) (length later) (character_at (below ++ visit ∷ [])) (character_at later) (entered_at (below ++ visit ∷ [])) (entered_at later) c
    entered_on later c e =
        let mark : Visit = record { character = c; is_entered = true } in
        let first : List Visit = below ++ mark ∷ [] in
        let more : List Visit = map to_be_entered (step c) in
        let count : length first ≡ length below + 1 = length_push below mark in
        let of_more : length more ≡ length (step c) = length-map (step c) to_be_entered in
        let all : length (first ++ more) ≡ length first + length more = length-append first more in
        let P : List Visit → Type 0 = λ l. Enters step (length below) (length l) (character_at (below ++ visit ∷ [])) (character_at l) (entered_at (below ++ visit ∷ [])) (entered_at l) c in
        subst P (sym e) (record {
          count = omega arith;
          below = λ i h.
              let r = get_or_append_left first more (to_be_entered 0) i (omega arith) ∙ get_or_append_left below (mark ∷ []) (to_be_entered 0) i h in
              (ap (λ (v : Visit). v.character) r ∙ (lower i h).0, ap (λ (v : Visit). v.is_entered) r ∙ (lower i h).1);
          here =
              let r = get_or_append_left first more (to_be_entered 0) (length below) (omega arith) ∙ get_or_push below mark (to_be_entered 0) (length below) refl in
              (ap (λ (v : Visit). v.character) r, ap (λ (v : Visit). v.is_entered) r);
          above = λ j over within.
              let r = get_or-append_right first more (length below + 1) j (to_be_entered 0) count (omega arith) in
              let v = visit_in (step c) (j - (length below + 1)) (omega arith) in
              (ap (λ (v : Visit). v.character) r ∙ v.0, ap (λ (v : Visit). v.is_entered) r ∙ v.1);
        })

    pub walk_entered : (order : List ℕ) (is_left after : ℕ → Option Bool) (later : List Visit) → IsWalking step starts order is_left stack
        → is_left visit.character ≡ None → Notes is_left after visit.character false
        → later ≡ (below ++ record { character = visit.character; is_entered = true } ∷ []) ++ map to_be_entered (step visit.character)
        → IsWalking step starts order after later
    walk_entered order is_left after later w free notes e =
        enter step (length below) (length later) _ _ _ _ visit.character (entered_on later visit.character e) starts order is_left after (with_top order is_left w) top.0 free notes

    -- what is left to do falls
    pub less_left : (is_left after : ℕ → Option Bool) (n : ℕ) (order : List ℕ) → IsWalking step starts order is_left stack → visit.is_entered ≡ true
        → Notes is_left after visit.character true → work step after n + length below < work step is_left n + length stack
    less_left is_left after n order w entered notes =
        let on = with_top order is_left w in
        let opened : is_left visit.character ≡ Some false = sym (ap is_left top.0) ∙ on.opened (length below) (omega arith) (top.1 ∙ entered) in
        let same = work_kept step is_left after n visit.character opened notes in
        let h = height in
        omega arith

    pub less_entered : (is_left after : ℕ → Option Bool) (n : ℕ) (later : List Visit) → visit.character < n → is_left visit.character ≡ None
        → Notes is_left after visit.character false
        → later ≡ (below ++ record { character = visit.character; is_entered = true } ∷ []) ++ map to_be_entered (step visit.character)
        → work step after n + length later < work step is_left n + length stack
    less_entered is_left after n later within free notes e =
        let count = (entered_on later visit.character e).count in
        let less = work_less step is_left after n visit.character within free notes in
        let h = height in
        omega arith
