-- The elements that count, one element after another.
use Rattle.std.proofs.Common.{◌≡◌, ℕ, ◌+◌, ◌/◌, ◌^◌, ◌<◌, ◌≤◌, Bool, true, false, cond, ◌==◌, ◌&&◌, ltb, List, [], ◌∷◌, ◌++◌, length, drop, get_or, refl, sym, ap, ◌∙◌, append_assoc, arith}
use Rattle.std.proofs.lemmas.Bool.Decides.{nat_tests}
use Rattle.std.proofs.lemmas.List.{drop_more, map-append, append-nil, drop_all}
use Rattle.icu_collator_types.specs.Options.{is_shifted}
use Rattle.icu_collator_types.specs.declared.elements.Element.{Element}
use Rattle.icu_collator_types.specs.declared.options.ResolvedCollatorOptions.{ResolvedCollatorOptions}
use Rattle.icu_collator_core.specs.Collation.{Collation}
use Rattle.icu_collator_core.specs.ElementLists.{unpacked}
use Rattle.icu_collator_core.specs.Pools.{element_of}
use Rattle.icu_collator.specs.LevelLists.{counted_by, counted_list, variable_end_of}
use Rattle.icu_collator.specs.Shifted.{Counted, whole, variable, counted_behind, is_variable}

left_true : (a b : Bool) → (a && b) ≡ true → a ≡ true
left_true true b e = refl
left_true false b e = e

-- no primary is below an end at 0
pub none_below : (p : ℕ) (b : Bool) → (b && ltb p 0) ≡ false
none_below p true = grind (arith, nat_tests)
none_below p false = refl

shifted_tests : (shifted : Bool) (p group end : ℕ) → end ≡ cond shifted group 0
    → (shifted && ltb 0x02000000 p && ltb p group) ≡ (ltb 0x02000000 p && ltb p end)
shifted_tests true p group end e = rw e refl
shifted_tests false p group end e = grind (arith, nat_tests)

module _ (collation : Collation) (options : ResolvedCollatorOptions) (end : ℕ) (at : end ≡ variable_end_of collation options) where
  -- whether an element is variable, by where these end
  variable_by : (e : Element) → is_variable collation options e ≡ (ltb 0x02000000 e.primary && ltb e.primary end)
  variable_by e = shifted_tests (is_shifted options.alternate_handling) e.primary _ end at

  -- the first element, where it is variable, where it counts whole, and where it doesn't count
  pub first_variable : (behind : Bool) (e : Element) (es : List Element) → (ltb 0x02000000 e.primary && ltb e.primary end) ≡ true
      → counted_behind collation options behind (e ∷ es) ≡ variable e.primary ∷ counted_behind collation options true es
  unfolding counted_behind
  first_variable behind e es test = rw (variable_by e ∙ test) refl

  pub first_whole : (behind : Bool) (e : Element) (es : List Element) → (ltb 0x02000000 e.primary && ltb e.primary end) ≡ false
      → (behind && (e.primary == 0)) ≡ false
      → counted_behind collation options behind (e ∷ es) ≡ whole e ∷ counted_behind collation options false es
  unfolding counted_behind
  first_whole behind e es test counts = rw (variable_by e ∙ test, counts) refl

  pub first_ignored : (behind : Bool) (e : Element) (es : List Element) → (ltb 0x02000000 e.primary && ltb e.primary end) ≡ false
      → (behind && (e.primary == 0)) ≡ true
      → counted_behind collation options behind (e ∷ es) ≡ counted_behind collation options true es
  unfolding counted_behind
  first_ignored behind e es test ignored = rw (variable_by e ∙ test, ignored) refl

-- what is left from an index on
left_from : (xs : List ℕ) (i x : ℕ) → i < length xs → x ≡ get_or xs i x → unpacked (drop i xs) ≡ element_of x ∷ unpacked (drop (i + 1) xs)
left_from xs i x within is =
    ap (λ ys. unpacked ys) (drop_more xs i x within) ∙ ap (λ y. element_of y ∷ unpacked (drop (i + 1) xs)) (sym is)

-- one more element in the list
listed_more : (end : ℕ) (before after : List ℕ) (x : ℕ) (left rest all : List Counted) → after ≡ before ++ x ∷ []
    → left ≡ counted_by end x ∷ rest → counted_list end before ++ left ≡ all → counted_list end after ++ rest ≡ all
listed_more end before after x left rest all e f so_far =
    let more : counted_list end after ≡ counted_list end before ++ counted_by end x ∷ [] = ap (λ items. counted_list end items) e ∙ map-append (counted_by end) before (x ∷ [])
    in rw (more, append_assoc (counted_list end before) (counted_by end x ∷ []) rest, ← f) so_far

-- how an element counts
by_variable : (end bits : ℕ) → (ltb 0x02000000 (bits / 2 ^ 32) && ltb (bits / 2 ^ 32) end) ≡ true → counted_by end bits ≡ variable (bits / 2 ^ 32)
unfolding counted_by
by_variable end bits test = rw test refl

pub by_whole : (end bits : ℕ) → (ltb 0x02000000 (bits / 2 ^ 32) && ltb (bits / 2 ^ 32) end) ≡ false → counted_by end bits ≡ whole (element_of bits)
unfolding counted_by
by_whole end bits test = rw test refl

module _ (collation : Collation) (options : ResolvedCollatorOptions) (end : ℕ) (at : end ≡ variable_end_of collation options)
    (xs : List ℕ) (i x p : ℕ) (within : i < length xs) (is : x ≡ get_or xs i x) (primary : p ≡ x / 2 ^ 32)
    (before after : List ℕ) (behind : Bool) (all : List Counted)
    (so_far : counted_list end before ++ counted_behind collation options behind (unpacked (drop i xs)) ≡ all) where
  here : (left : List Counted) → counted_behind collation options behind (element_of x ∷ unpacked (drop (i + 1) xs)) ≡ left → counted_list end before ++ left ≡ all
  here left e = ap (λ more. counted_list end before ++ more) (sym e ∙ sym (ap (λ es. counted_behind collation options behind es) (left_from xs i x within is))) ∙ so_far

  pub variable_more : (ltb 0x02000000 p && ltb p end) ≡ true → after ≡ before ++ x ∷ []
      → counted_list end after ++ counted_behind collation options true (unpacked (drop (i + 1) xs)) ≡ all
  variable_more test e =
      let first = first_variable collation options end at behind (element_of x) (unpacked (drop (i + 1) xs)) (rw primary at test)
      in listed_more end before after x _ _ all e (ap (λ c. c ∷ counted_behind collation options true (unpacked (drop (i + 1) xs))) (sym (by_variable end x (rw primary at test)))) (here _ first)

  pub whole_more : (ltb 0x02000000 p && ltb p end) ≡ false → (behind && (p == 0)) ≡ false → after ≡ before ++ x ∷ []
      → counted_list end after ++ counted_behind collation options false (unpacked (drop (i + 1) xs)) ≡ all
  whole_more test counts e =
      let first = first_whole collation options end at behind (element_of x) (unpacked (drop (i + 1) xs)) (rw primary at test) (rw primary at counts)
      in listed_more end before after x _ _ all e (ap (λ c. c ∷ counted_behind collation options false (unpacked (drop (i + 1) xs))) (sym (by_whole end x (rw primary at test)))) (here _ first)

  pub ignored_more : (ltb 0x02000000 p && ltb p end) ≡ false → (behind && (p == 0)) ≡ true → after ≡ before
      → counted_list end after ++ counted_behind collation options behind (unpacked (drop (i + 1) xs)) ≡ all
  ignored_more test ignored e =
      let first = first_ignored collation options end at behind (element_of x) (unpacked (drop (i + 1) xs)) (rw primary at test) (rw primary at ignored)
      in rw (e, left_true behind (p == 0) ignored) (here _ first)

-- at the end nothing is left
pub listed_all : (collation : Collation) (options : ResolvedCollatorOptions) (end : ℕ) (xs : List ℕ) (i : ℕ) (before : List ℕ) (behind : Bool) (all : List Counted)
    → length xs ≤ i → counted_list end before ++ counted_behind collation options behind (unpacked (drop i xs)) ≡ all → counted_list end before ≡ all
unfolding counted_behind
listed_all collation options end xs i before behind all past so_far = sym (append-nil (counted_list end before)) ∙ (rw (drop_all i xs past) at so_far)

-- where none is variable all count whole
pub all_whole : (collation : Collation) (options : ResolvedCollatorOptions) (xs : List ℕ) → 0 ≡ variable_end_of collation options
    → counted_list 0 xs ≡ counted_behind collation options false (unpacked xs)
unfolding counted_behind
all_whole collation options [] at = refl
all_whole collation options (x ∷ xs) at =
    let test : (ltb 0x02000000 (x / 2 ^ 32) && ltb (x / 2 ^ 32) 0) ≡ false = none_below (x / 2 ^ 32) (ltb 0x02000000 (x / 2 ^ 32)) in
    ap (λ c. c ∷ counted_list 0 xs) (by_whole 0 x test) ∙ ap (λ cs. whole (element_of x) ∷ cs) (all_whole collation options xs at)
    ∙ sym (first_whole collation options 0 at false (element_of x) (unpacked xs) test refl)
