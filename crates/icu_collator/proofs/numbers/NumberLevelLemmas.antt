-- Two lists of elements that differ in a number alone: their levels compare as the values of the numbers do.
use Rattle.std.proofs.Common.{◌≡◌, ℕ, ◌+◌, ◌*◌, ◌/◌, ◌%◌, ◌^◌, ◌<◌, ◌≤◌, ◌==◌, Bool, true, false, cond, not, ◌&&◌, ◌||◌, leb, ltb, get_or, List, [], ◌∷◌, ◌++◌, map, refl, sym, ap, subst, ◌∙◌, arith, append-nil, filter_map}
use Rattle.std.specs.Prelude.{◌≢◌}
use Rattle.std.proofs.lemmas.Bool.{and_parts}
use Rattle.std.proofs.lemmas.Bool.Decides.{nat_tests}
use Rattle.std.proofs.lemmas.Cmp.{tied_itself}
use Rattle.std.proofs.lemmas.List.Elements.{filter_map-append}
use Rattle.std.specs.Ordering.{nat_cmp, ordering_then}
use Rattle.std.specs.declared.cmp.Ordering.{Ordering}
use Rattle.std.specs.declared.cmp.Ordering.TheVariants.{Less, Equal, Greater}
use Rattle.icu_collator_types.specs.declared.elements.Element.{Element}
use Rattle.icu_collator_types.specs.declared.options.ResolvedCollatorOptions.{ResolvedCollatorOptions}
use Rattle.icu_collator_types.specs.declared.options.Strength.TheVariants.{Identical}
use Rattle.icu_collator_types.specs.Options.{is_at_least, is_shifted, group_index}
use Rattle.icu_collator_core.specs.Collation.{Collation, with_lead, reordered_lead}
use Rattle.icu_collator_core.specs.Defaults.{primary_of}
use Rattle.icu_collator_core.specs.Numbers.{value_of, significant, elements_of_bytes, number_elements}
use Rattle.icu_collator_core.specs.WholeNumbers.{IsWholeNumber, primaries_of}
use Rattle.icu_collator_core.specs.WeightRules.{is_letter_lead}
use Rattle.icu_collator_core.proofs.numbers.DigitLemmas.{AreBelow}
use Rattle.icu_collator_core.proofs.numbers.NumberBytesLemmas.{number_bytes, number_bytes_below}
use Rattle.icu_collator_core.proofs.numbers.NumberOrderLemmas.{whole_elements, counted as digits_counted, numbers_order, same_front}
use Rattle.icu_collator.specs.Shifted.{Counted, is_variable, counted_behind, counted}
use Rattle.icu_collator.specs.Levels.{Levels, primary_at, levels_of}
use Rattle.icu_collator.specs.Order.{levels_order, list_order}
use Rattle.icu_collator.specs.NumbersInTexts.{AreNumbersTogether, are_light, no_number_is_variable}
use Rattle.icu_collator.proofs.orders.TotalOrderLemmas.{levels_total}

-- elements of one lead byte
abbrev AreOfLead : ℕ → List Element → Type 0
AreOfLead lead [] = Unit {0}
AreOfLead lead (e ∷ es) = (e.primary / 2 ^ 24 ≡ lead) × AreOfLead lead es

lead_of : (lead a b c : ℕ) → a < 256 → b < 256 → c < 256 → primary_of lead a b c / 2 ^ 24 ≡ lead
lead_of lead a b c h i j = omega arith

bytes_of_lead : (lead : ℕ) (bs : List ℕ) → AreBelow 256 bs → AreOfLead lead (elements_of_bytes lead bs)
unfolding elements_of_bytes
bytes_of_lead lead [] h = tt
bytes_of_lead lead (a ∷ []) h = (lead_of lead a 0 0 h.0 (omega arith) (omega arith), tt)
bytes_of_lead lead (a ∷ b ∷ []) h = (lead_of lead a b 0 h.0 h.1.0 (omega arith), tt)
bytes_of_lead lead (a ∷ b ∷ c ∷ bs) h = (lead_of lead a b c h.0 h.1.0 h.1.1.0, bytes_of_lead lead bs h.1.1.1)

-- primaries of this lead have one lead when they are reordered, and keep their rest
abbrev StaysTogether : Collation → ℕ → Type 0
StaysTogether collation lead = (p : ℕ) → p / 2 ^ 24 ≡ lead → collation.reordered p ≡ with_lead (reordered_lead collation) p

bytes_stay : (lead moved a b c : ℕ) → a < 256 → b < 256 → c < 256 → moved * 2 ^ 24 + primary_of lead a b c % 2 ^ 24 ≡ primary_of moved a b c
bytes_stay lead moved a b c h i j = omega arith

-- a primary of bytes, with its lead reordered
moved_primary : (collation : Collation) (lead a b c : ℕ) → StaysTogether collation lead → a < 256 → b < 256 → c < 256
    → collation.reordered (primary_of lead a b c) ≡ primary_of (reordered_lead collation lead) a b c
moved_primary collation lead a b c t h i j =
    let first = lead_of lead a b c h i j
    in t (primary_of lead a b c) first
    ∙ ap (λ l. reordered_lead collation l * 2 ^ 24 + primary_of lead a b c % 2 ^ 24) first
    ∙ bytes_stay lead (reordered_lead collation lead) a b c h i j

moved_bytes : (collation : Collation) (lead : ℕ) (bs : List ℕ) → StaysTogether collation lead → AreBelow 256 bs
    → map collation.reordered (primaries_of (elements_of_bytes lead bs)) ≡ primaries_of (elements_of_bytes (reordered_lead collation lead) bs)
unfolding elements_of_bytes
moved_bytes collation lead [] t h = refl
moved_bytes collation lead (a ∷ []) t h = ap (λ p. p ∷ []) (moved_primary collation lead a 0 0 t h.0 (omega arith) (omega arith))
moved_bytes collation lead (a ∷ b ∷ []) t h = ap (λ p. p ∷ []) (moved_primary collation lead a b 0 t h.0 h.1.0 (omega arith))
moved_bytes collation lead (a ∷ b ∷ c ∷ bs) t h =
    cc (moved_primary collation lead a b c t h.0 h.1.0 h.1.1.0, moved_bytes collation lead bs t h.1.1.1)

-- a number is of its lead, and with that reordered it is the number of the other lead
number_of_lead : (lead : ℕ) (ds : List ℕ) → IsWholeNumber ds → AreOfLead lead (number_elements lead ds)
number_of_lead lead ds h =
    let g = digits_counted ds h
    in subst (AreOfLead lead) (sym (whole_elements lead ds h))
    (bytes_of_lead lead (number_bytes (significant ds)) (number_bytes_below (significant ds) g.digits g.is g.short))

moved_number : (collation : Collation) (lead : ℕ) (ds : List ℕ) → StaysTogether collation lead → IsWholeNumber ds
    → map collation.reordered (primaries_of (number_elements lead ds)) ≡ primaries_of (number_elements (reordered_lead collation lead) ds)
moved_number collation lead ds t h =
    let g = digits_counted ds h
    in rw (whole_elements lead ds h, whole_elements (reordered_lead collation lead) ds h)
    (moved_bytes collation lead (number_bytes (significant ds)) t (number_bytes_below (significant ds) g.digits g.is g.short))

-- whether elements after these stand after a variable one
unfoldable pub behind_after : Collation → ResolvedCollatorOptions → Bool → List Element → Bool
behind_after collation options is_behind [] = is_behind
behind_after collation options is_behind (e ∷ es) =
    let shifted = behind_after collation options true es
    in let other = behind_after collation options false es
    in cond (is_variable collation options e) shifted (cond (is_behind && (e.primary == 0)) shifted other)

pub counted_append : (collation : Collation) (options : ResolvedCollatorOptions) (b : Bool) (xs ys : List Element)
    → counted_behind collation options b (xs ++ ys)
    ≡ counted_behind collation options b xs ++ counted_behind collation options (behind_after collation options b xs) ys
unfolding counted_behind behind_after
counted_append collation options b [] ys = refl
counted_append collation options b (x ∷ xs) ys =
    grind (arith, counted_append collation options true xs ys, counted_append collation options false xs ys)

-- an element of a lead above the variable groups is not variable
not_variable : (s : Bool) (p group lead : ℕ) → (not s || leb group (lead * 256)) ≡ true → p / 2 ^ 24 ≡ lead
    → (s && ltb 0x02000000 p && ltb p (group * 2 ^ 16)) ≡ false
not_variable false p group lead h e = refl
not_variable true p group lead h e = grind (arith, nat_tests)

-- the state after a number
abbrev behind_number : Bool → List Element → Bool
behind_number b [] = b
behind_number b (e ∷ es) = false

behind_none : (es : List Element) → behind_number false es ≡ false
behind_none [] = refl
behind_none (e ∷ es) = refl

and_false : (b : Bool) → (b && false) ≡ false
and_false true = refl
and_false false = refl

number_counted : (collation : Collation) (options : ResolvedCollatorOptions) (lead : ℕ) (b : Bool) (es ys : List Element)
    → AreOfLead lead es → 3 ≤ lead
    → (not (is_shifted options.alternate_handling) || leb (get_or collation.groups (group_index options.max_variable) 0) (lead * 256)) ≡ true
    → filter_map (primary_at collation) (counted_behind collation options b (es ++ ys))
    ≡ map collation.reordered (primaries_of es) ++ filter_map (primary_at collation) (counted_behind collation options (behind_number b es) ys)
unfolding counted_behind
number_counted collation options lead b [] ys h l n = refl
number_counted collation options lead b (e ∷ es) ys h l n =
    let group = get_or collation.groups (group_index options.max_variable) 0
    in let plain : is_variable collation options e ≡ false = not_variable (is_shifted options.alternate_handling) e.primary group lead n h.0
    in let filled : (e.primary == 0) ≡ false = let of_lead = h.0 in grind (arith, nat_tests)
    in let skipped : (b && (e.primary == 0)) ≡ false = simp (filled, and_false)
    in let rest = number_counted collation options lead false es ys h.1 l n
    in let same : counted_behind collation options (behind_number false es) ys ≡ counted_behind collation options false ys = ap (λ (c : Bool). counted_behind collation options c ys) (behind_none es)
    in rw (plain, skipped) (rw filled (ap (λ (w : List ℕ). collation.reordered e.primary ∷ w) (rest ∙ ap (λ (w : List Counted). map collation.reordered (primaries_of es) ++ filter_map (primary_at collation) w) same)))

-- a difference at the first level decides
pub first_decides : (options : ResolvedCollatorOptions) (a b : Levels) (o : Ordering) → list_order (λ w. w) a.primaries b.primaries ≡ o → o ≢ Equal
    → levels_order options a b ≡ o
unfolding levels_order
first_decides options a b Less e n = rw e refl
first_decides options a b Equal e n = absurd (n refl)
first_decides options a b Greater e n = rw e refl

-- the primaries of elements with a number among them
primaries_split : (collation : Collation) (options : ResolvedCollatorOptions) (xs es ys : List Element) (list : List ℕ)
    → AreOfLead collation.weights.numeric_lead es → is_letter_lead collation.weights.numeric_lead ≡ true → no_number_is_variable collation options ≡ true
    → (levels_of collation options (xs ++ (es ++ ys)) list).primaries
    ≡ filter_map (primary_at collation) (counted collation options xs)
    ++ (map collation.reordered (primaries_of es)
    ++ filter_map (primary_at collation) (counted_behind collation options (behind_number (behind_after collation options false xs) es) ys))
unfolding levels_of
primaries_split collation options xs es ys list h l n =
    let lead = collation.weights.numeric_lead
    in let low : 3 ≤ lead = grind (arith, nat_tests)
    in let b = behind_after collation options false xs
    in ap (filter_map (primary_at collation)) (counted_append collation options false xs (es ++ ys))
    ∙ filter_map-append (primary_at collation) (counted collation options xs) (counted_behind collation options b (es ++ ys))
    ∙ ap (λ (w : List ℕ). filter_map (primary_at collation) (counted collation options xs) ++ w) (number_counted collation options lead b es ys h low n)

-- elements without a primary change no primaries
light_fixed : (s : Bool) (p group : ℕ) → (p == 0) ≡ true → (s && ltb 0x02000000 p && ltb p (group * 2 ^ 16)) ≡ false
light_fixed false p group h = refl
light_fixed true p group h = grind (arith, nat_tests)

light_counted : (collation : Collation) (options : ResolvedCollatorOptions) (b : Bool) (es : List Element) → are_light es ≡ true
    → filter_map (primary_at collation) (counted_behind collation options b es) ≡ []
unfolding counted_behind
light_counted collation options b [] h = refl
light_counted collation options true (e ∷ es) h =
    let both = and_parts (e.primary == 0) (are_light es) h
    in let fixed : is_variable collation options e ≡ false = light_fixed (is_shifted options.alternate_handling) e.primary (get_or collation.groups (group_index options.max_variable) 0) both.0
    in rw (fixed, both.0) (light_counted collation options true es both.1)
light_counted collation options false (e ∷ es) h =
    let both = and_parts (e.primary == 0) (are_light es) h
    in let fixed : is_variable collation options e ≡ false = light_fixed (is_shifted options.alternate_handling) e.primary (get_or collation.groups (group_index options.max_variable) 0) both.0
    in rw (fixed, both.0) (light_counted collation options false es both.1)

pub light_behind : (collation : Collation) (options : ResolvedCollatorOptions) (xs es : List Element) → are_light es ≡ true
    → filter_map (primary_at collation) (counted collation options (xs ++ es)) ≡ filter_map (primary_at collation) (counted collation options xs)
light_behind collation options xs es h =
    ap (filter_map (primary_at collation)) (counted_append collation options false xs es)
    ∙ filter_map-append (primary_at collation) (counted collation options xs) (counted_behind collation options (behind_after collation options false xs) es)
    ∙ ap (λ (w : List ℕ). filter_map (primary_at collation) (counted collation options xs) ++ w)
    (light_counted collation options (behind_after collation options false xs) es h)
    ∙ append-nil (filter_map (primary_at collation) (counted collation options xs))

unequal_values : (m n : ℕ) → m ≢ n → nat_cmp m n ≢ Equal
unequal_values m n h = λ e. h (grind (arith, nat_tests))

pub decided : (o p : Ordering) → o ≢ Equal → ordering_then o p ≡ o
decided Less p n = refl
decided Equal p n = absurd (n refl)
decided Greater p n = refl

-- where two lists of elements have the same primaries before different numbers, the values of the numbers decide, whatever
-- stands after
pub different_numbers : (collation : Collation) (options : ResolvedCollatorOptions) (xs us ys zs : List Element) (ds es list other : List ℕ)
    → is_letter_lead collation.weights.numeric_lead ≡ true → no_number_is_variable collation options ≡ true → AreNumbersTogether collation
    → filter_map (primary_at collation) (counted collation options xs) ≡ filter_map (primary_at collation) (counted collation options us)
    → IsWholeNumber ds → IsWholeNumber es → value_of ds ≢ value_of es
    → levels_order options
    (levels_of collation options (xs ++ (number_elements collation.weights.numeric_lead ds ++ ys)) list)
    (levels_of collation options (us ++ (number_elements collation.weights.numeric_lead es ++ zs)) other)
    ≡ nat_cmp (value_of ds) (value_of es)
different_numbers collation options xs us ys zs ds es list other l n t same h g ne =
    let lead = collation.weights.numeric_lead
    in let moved = reordered_lead collation lead
    in let unequal = unequal_values (value_of ds) (value_of es) ne
    in let front = filter_map (primary_at collation) (counted collation options us)
    in let first = primaries_split collation options xs (number_elements lead ds) ys list (number_of_lead lead ds h) l n
    in let second = primaries_split collation options us (number_elements lead es) zs other (number_of_lead lead es g) l n
    in first_decides options _ _ _ (rw (first, second, same, moved_number collation lead ds t h, moved_number collation lead es t g)
    (same_front front _ _ ∙ numbers_order moved ds es _ _ h g ∙ decided (nat_cmp (value_of ds) (value_of es)) _ unequal)) unequal

-- the characters count at Identical alone
characters_unused : (options : ResolvedCollatorOptions) (a : Levels) (list : List ℕ) → is_at_least options.strength Identical ≡ false
    → levels_order options a (record a { characters = list }) ≡ levels_order options a a
unfolding levels_order
characters_unused options a list n = rw n refl

-- levels of the same elements are equal below Identical
pub same_elements : (collation : Collation) (options : ResolvedCollatorOptions) (es : List Element) (list other : List ℕ)
    → is_at_least options.strength Identical ≡ false
    → levels_order options (levels_of collation options es list) (levels_of collation options es other) ≡ Equal
unfolding levels_of
same_elements collation options es list other n =
    characters_unused options (levels_of collation options es list) other n
    ∙ tied_itself (levels_total options) (levels_of collation options es list)
