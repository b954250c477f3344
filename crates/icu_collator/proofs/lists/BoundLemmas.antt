-- Bounds of the numbers at each level.
use Rattle.std.proofs.Common.{◌≡◌, ℕ, ◌+◌, ◌-◌, ◌*◌, ◌/◌, ◌%◌, ◌^◌, ◌<◌, ◌≤◌, Bool, true, false, cond, ◌==◌, ◌&&◌, leb, ltb, Option, Some, None, List, [], ◌∷◌, ◌++◌, filter_map, map, refl, arith}
use Rattle.std.specs.List.{All, cons_option, list_all}
use Rattle.std.specs.Prelude.{IfSome}
use Rattle.std.proofs.lemmas.Bool.{leb-true, ltb-true}
use Rattle.std.proofs.lemmas.List.Elements.{All-append, All-cons, All-map, All-nil}
use Rattle.icu_collator_types.specs.declared.elements.Element.{Element}
use Rattle.icu_collator_types.specs.declared.options.ResolvedCollatorOptions.{ResolvedCollatorOptions}
use Rattle.icu_collator_types.specs.Options.{has_case_bits, is_upper_first}
use Rattle.icu_collator_core.specs.Collation.{Collation}
use Rattle.icu_collator_core.specs.Pools.{element_of}
use Rattle.icu_collator.specs.declared.levels.counted_elements.CountedElement.{CountedElement}
use Rattle.icu_collator.specs.declared.levels.counted_elements.CountedElement.TheVariants.{Whole, Variable}
use Rattle.icu_collator.specs.LevelLists.{cases_by, counted_by, counted_list, counted_of, has_sound_case, secondary_ranks, tertiary_bound}
use Rattle.icu_collator.specs.Levels.{SecondaryPlace, segment_end, secondary, backward_from, case_at, is_segment_end, secondary_at, tertiary_at}
use Rattle.icu_collator.specs.Order.{secondary_rank}
use Rattle.icu_collator.specs.Shifted.{Counted, whole, variable}

-- ## Lists

and_left : (a b : Bool) → (a && b) ≡ true → a ≡ true
and_left true b e = refl
and_left false b e = e

and_right : (a b : Bool) → (a && b) ≡ true → b ≡ true
and_right true b e = e
and_right false true e = refl
and_right false false e = e

with_option : {Y : Type 0} (P : Y → Type 0) (o : Option Y) (ys : List Y) → IfSome o P → All P ys → All P (cons_option o ys)
with_option P (Some y) ys here there = All-cons P y ys here there
with_option P None ys here there = there

-- what items give, where each that passes gives such
module _ {X Y : Type 0} (P : Y → Type 0) (at : Counted → Option Y) (f : X → Counted) (p : Counted → Bool) (each : (x : X) → p (f x) ≡ true → IfSome (at (f x)) P) where
  given_all : (xs : List X) → list_all p (map f xs) ≡ true → All P (filter_map at (map f xs))
  given_all [] passes = All-nil P
  given_all (x ∷ xs) passes =
      with_option P (at (f x)) (filter_map at (map f xs)) (each x (and_left (p (f x)) (list_all p (map f xs)) passes))
      (given_all xs (and_right (p (f x)) (list_all p (map f xs)) passes))

all_pass : {X : Type 0} (xs : List X) → list_all (λ x. true) xs ≡ true
all_pass [] = refl
all_pass (x ∷ xs) = all_pass xs

-- numbers that are tested to be below a bound
pub all_below : (bound : ℕ) (xs : List ℕ) → list_all (λ x. ltb x bound) xs ≡ true → All (λ x. x < bound) xs
all_below bound [] passes = All-nil (λ x. x < bound)
all_below bound (x ∷ xs) passes =
    All-cons (λ y. y < bound) x xs (ltb-true x bound (and_left _ (list_all (λ y. ltb y bound) xs) passes))
    (all_below bound xs (and_right (ltb x bound) (list_all (λ y. ltb y bound) xs) passes))

-- ## Secondaries

abbrev IsSmall : SecondaryPlace → Type 0
IsSmall s = secondary_rank s ≤ 2 ^ 16

small_weight : (w : ℕ) (b : Bool) → w < 2 ^ 16 → IfSome (cond b None (Some (secondary w))) IsSmall
small_weight w true below = tt
small_weight w false below = omega arith

small_by : (b : Bool) (p bits : ℕ) → IfSome (secondary_at (cond b (variable p) (whole (element_of bits)))) IsSmall
small_by true p bits = tt
small_by false p bits = small_weight (bits / 2 ^ 16 % 2 ^ 16) (bits / 2 ^ 16 % 2 ^ 16 == 0) (omega arith)

small_at : (end bits : ℕ) → IfSome (secondary_at (counted_by end bits)) IsSmall
unfolding counted_by
small_at end bits = small_by _ _ bits

forward_small : (end : ℕ) (items : List ℕ) → All IsSmall (filter_map secondary_at (counted_list end items))
forward_small end items = given_all IsSmall secondary_at (counted_by end) (λ e. true) (λ x passes. small_at end x) items (all_pass (counted_list end items))

module _ (end x : ℕ) (xs : List ℕ)
    (each : (before : List SecondaryPlace) → All IsSmall before → All IsSmall (backward_from before (counted_list end xs)))
    (before : List SecondaryPlace) (small : All IsSmall before) where
  abbrev further : Option SecondaryPlace → List SecondaryPlace
  further o = elim o [ Some s ↦ backward_from (s ∷ before) (counted_list end xs) | None ↦ backward_from before (counted_list end xs) ]

  further_small : (o : Option SecondaryPlace) → IfSome o IsSmall → All IsSmall (further o)
  further_small (Some s) here = each (s ∷ before) (All-cons IsSmall s before here small)
  further_small None here = each before small

  chosen_small : (b : Bool) → All IsSmall (cond b (before ++ segment_end ∷ backward_from [] (counted_list end xs)) (further (secondary_at (counted_by end x))))
  chosen_small true =
      All-append IsSmall before (segment_end ∷ backward_from [] (counted_list end xs)) small
      (All-cons IsSmall segment_end (backward_from [] (counted_list end xs)) (omega arith) (each [] (All-nil IsSmall)))
  chosen_small false = further_small (secondary_at (counted_by end x)) (small_at end x)

backward_small : (end : ℕ) (items : List ℕ) (before : List SecondaryPlace) → All IsSmall before → All IsSmall (backward_from before (counted_list end items))
unfolding backward_from
backward_small end [] before small = small
backward_small end (x ∷ xs) before small = chosen_small end x xs (λ ps. backward_small end xs ps) before small (is_segment_end (counted_by end x))

secondaries_chosen : (b : Bool) (end : ℕ) (items : List ℕ)
    → All IsSmall (cond b (backward_from [] (counted_list end items)) (filter_map secondary_at (counted_list end items)))
secondaries_chosen true end items = backward_small end items [] (All-nil IsSmall)
secondaries_chosen false end items = forward_small end items

pub secondaries_small : (collation : Collation) (end : ℕ) (items : List ℕ) → All (λ rank. rank ≤ 2 ^ 16) (secondary_ranks collation (counted_list end items))
secondaries_small collation end items = All-map (λ rank. rank ≤ 2 ^ 16) secondary_rank _ (secondaries_chosen collation.backward end items)

-- ## Cases and tertiaries

case_width : (e : Element) → leb e.case 2 ≡ true → e.case ≤ 2
case_width e sound = leb-true e.case 2 sound

small_case : (counts upper : Bool) (case : ℕ) → case ≤ 2 → IfSome (cond counts (Some (cond upper (2 - case) case)) None) (λ c. c ≤ 2)
small_case true true case small = omega arith
small_case true false case small = small
small_case false upper case small = tt

case_by : (options : ResolvedCollatorOptions) (b : Bool) (p bits : ℕ) → has_sound_case (cond b (variable p) (whole (element_of bits))) ≡ true
    → IfSome (case_at options (cond b (variable p) (whole (element_of bits)))) (λ case. case ≤ 2)
case_by options true p bits passes = tt
case_by options false p bits passes = small_case _ (is_upper_first options.case_first) (element_of bits).case (case_width (element_of bits) passes)

case_small : (options : ResolvedCollatorOptions) (end bits : ℕ) → has_sound_case (counted_by end bits) ≡ true → IfSome (case_at options (counted_by end bits)) (λ case. case ≤ 2)
unfolding counted_by
case_small options end bits passes = case_by options _ _ bits passes

pub cases_small : (options : ResolvedCollatorOptions) (end : ℕ) (items : List ℕ) → list_all has_sound_case (counted_list end items) ≡ true
    → All (λ case. case ≤ 2) (cases_by options (counted_list end items))
cases_small options end items widths =
    given_all (λ case. case ≤ 2) (case_at options) (counted_by end) has_sound_case (case_small options end) items widths

small_tertiary : (none bits upper : Bool) (accent : Bool) (case tertiary : ℕ) → case ≤ 2 → tertiary < 0x4000
    → IfSome (cond none None (Some (cond bits (cond upper (cond accent (case * 2 ^ 14 + tertiary + 0x4000) ((3 - case) * 2 ^ 14 + tertiary)) (case * 2 ^ 14 + tertiary)) tertiary)))
    (λ w. w < cond bits (cond upper (2 ^ 16) 0xc000) 0x4000)
small_tertiary true bits upper accent case tertiary small low = tt
small_tertiary false true true true case tertiary small low = omega arith
small_tertiary false true true false case tertiary small low = omega arith
small_tertiary false true false accent case tertiary small low = omega arith
small_tertiary false false upper accent case tertiary small low = low

-- the tertiary of an element
pub tertiary_small : (options : ResolvedCollatorOptions) (x : CountedElement) → has_sound_case (counted_of x) ≡ true
    → IfSome (tertiary_at options (counted_of x)) (λ weight. weight < tertiary_bound options)
tertiary_small options (Whole bits) passes =
    small_tertiary ((element_of bits).tertiary == 0) (has_case_bits options) (is_upper_first options.case_first) ((element_of bits).secondary == 0)
    (element_of bits).case (element_of bits).tertiary (case_width (element_of bits) passes) (omega arith)
tertiary_small options (Variable p) passes = tt
