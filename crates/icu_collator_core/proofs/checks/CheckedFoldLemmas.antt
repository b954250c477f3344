-- What the tests of contexts fold characters to says what they ask.
use Rattle.std.proofs.Common.{◌≡◌, ◌↔◌, ℕ, suc, ◌+◌, ◌≤◌, Bool, true, false, cond, not, ◌&&◌, ◌||◌, leb, List, [], ◌∷◌, ◌++◌, length, Option, refl, ap, sym, ◌∙◌, arith, reverse}
use Rattle.std.specs.Bool.{IsTrue}
use Rattle.std.specs.Prelude.{fold}
use Rattle.std.specs.List.{list_all, list_any}
use Rattle.std.proofs.lemmas.Bool.{and_from, and_parts, false≢true, leb-true, le-leb}
use Rattle.std.proofs.lemmas.Grind.{reverse_onto}
use Rattle.icu_normalizer_core.specs.Canonical.{Canonical, is_starter}
use Rattle.icu_collator_core.specs.declared.check.flags.Answered.{Answered}
use Rattle.icu_collator_core.specs.declared.check.flags.Question.{Question}
use Rattle.icu_collator_core.specs.declared.check.flags.Question.TheVariants.{BeginsWithMark, EndsInNoMark, HoldsNoStarter}
use Rattle.icu_collator_core.specs.declared.check.suffixes.Order.TheVariants.{Starters, Marks, Mixed}
use Rattle.icu_collator_core.specs.ContextFaults.{answer, is_short}
use Rattle.icu_collator_core.specs.ContextRules.{begins_with_mark, has_marks_last, is_prefix, is_prefix_character}
use Rattle.icu_collator_core.specs.KeyTexts.{by_fold}
use Rattle.icu_collator_core.specs.TextFolds.{answered_first, answered_with, count_with, is_ordered, is_prefix_count, is_short_count, is_yes, order_with, prefix_with}

-- ---- Prefixes

module _ (canonical : Canonical) (digit : ℕ → Option ℕ) where
  abbrev May : ℕ → Bool
  May = is_prefix_character canonical digit

  abbrev Counts : ℕ → List ℕ → Type 0
  Counts count cs = (count + length cs ≤ 3) × (list_all May cs ≡ true)

  counted_more : (count c : ℕ) (cs : List ℕ) (b : Bool) → (leb count 2 && May c) ≡ b
      → ((n : ℕ) → (leb (fold (prefix_with canonical digit) n cs) 3 ≡ true) ↔ Counts n cs)
      → (leb (fold (prefix_with canonical digit) (cond b (count + 1) 4) cs) 3 ≡ true) ↔ Counts count (c ∷ cs)
  counted_more count c cs true e so_far =
      let here = and_parts (leb count 2) (May c) e in
      let rest = so_far (count + 1) in (
        λ t. let w = rest.0 t in let few = w.0 in (omega (arith, few), and_from (May c) (list_all May cs) here.1 w.1),
        λ w. let few = w.0 in rest.1 (omega (arith, few), (and_parts (May c) (list_all May cs) w.1).1),
      )
  counted_more count c cs false e so_far =
      let rest = so_far 4 in (
        λ t. let many = (rest.0 t).0 in absurd (omega (arith, many)),
        λ w.
            let few = w.0 in
            let low : count ≤ 2 = omega (arith, few) in
            absurd (false≢true (sym e ∙ and_from (leb count 2) (May c) (le-leb count 2 low) (and_parts (May c) (list_all May cs) w.1).0)),
      )

  counted_from : (cs : List ℕ) (count : ℕ) → (leb (fold (prefix_with canonical digit) count cs) 3 ≡ true) ↔ Counts count cs
  counted_from [] count = (
    λ e. let few = leb-true count 3 e in (omega (arith, few), refl),
    λ w. let few = w.0 in le-leb count 3 (omega (arith, few)),
  )
  counted_from (c ∷ cs) count = counted_more count c cs (leb count 2 && May c) refl (counted_from cs)

  pub prefix_told : (cs : List ℕ) → IsTrue (by_fold is_prefix_count (prefix_with canonical digit) 0 cs) ↔ IsTrue (is_prefix canonical digit cs)
  prefix_told cs =
      let told = counted_from cs 0 in (
        λ t. let w = told.0 t in let few = w.0 in and_from (leb (length cs) 3) (list_all May cs) (le-leb (length cs) 3 (omega (arith, few))) w.1,
        λ t. let w = and_parts (leb (length cs) 3) (list_all May cs) t in
            let few = leb-true (length cs) 3 w.0 in told.1 (omega (arith, few), w.1),
      )

-- ---- Short texts

short_more : (count : ℕ) (cs : List ℕ) (b : Bool) → leb count 7 ≡ b
    → ((n : ℕ) → (leb (fold count_with n cs) 7 ≡ true) ↔ (n + length cs ≤ 7))
    → (leb (fold count_with (cond b (count + 1) count) cs) 7 ≡ true) ↔ (count + suc (length cs) ≤ 7)
short_more count cs true e so_far =
    let rest = so_far (count + 1) in
    (λ t. let few = rest.0 t in omega (arith, few), λ few. rest.1 (omega (arith, few)))
short_more count cs false e so_far =
    let rest = so_far count in (
      λ t. let few = rest.0 t in let low : count ≤ 7 = omega (arith, few) in absurd (false≢true (sym e ∙ le-leb count 7 low)),
      λ few. rest.1 (omega (arith, few)),
    )

pub short_from : (cs : List ℕ) (count : ℕ) → (leb (fold count_with count cs) 7 ≡ true) ↔ (count + length cs ≤ 7)
short_from [] count = (
  λ e. let few = leb-true count 7 e in omega (arith, few),
  λ few. le-leb count 7 (omega (arith, few)),
)
short_from (c ∷ cs) count = short_more count cs (leb count 7) refl (short_from cs)

pub short_told : (cs : List ℕ) → IsTrue (by_fold is_short_count count_with 0 cs) ↔ IsTrue (is_short cs)
short_told cs =
    let told = short_from cs 0 in
    (λ t. let few = told.0 t in le-leb (length cs) 7 (omega (arith, few)), λ t. let few = leb-true (length cs) 7 t in told.1 (omega (arith, few)))

-- ---- Marks last

module _ (canonical : Canonical) where
  mixed_stays : (cs : List ℕ) → is_ordered (fold (order_with canonical) Mixed cs) ≡ false
  mixed_stays [] = refl
  mixed_stays (c ∷ cs) = mixed_stays cs

  abbrev AllMarks : List ℕ → Bool
  AllMarks = list_all (λ m. not (is_starter canonical m))

  marks_more : (cs : List ℕ) (starter : Bool) → is_ordered (fold (order_with canonical) Marks cs) ≡ AllMarks cs
      → is_ordered (fold (order_with canonical) (cond starter Mixed Marks) cs) ≡ (not starter && AllMarks cs)
  marks_more cs true so_far = mixed_stays cs
  marks_more cs false so_far = so_far

  marks_from : (cs : List ℕ) → is_ordered (fold (order_with canonical) Marks cs) ≡ AllMarks cs
  marks_from [] = refl
  marks_from (c ∷ cs) = marks_more cs (is_starter canonical c) (marks_from cs)

  starters_more : (cs : List ℕ) (starter : Bool) → is_ordered (fold (order_with canonical) Starters cs) ≡ has_marks_last canonical cs
      → is_ordered (fold (order_with canonical) (cond starter Starters Marks) cs) ≡ cond starter (has_marks_last canonical cs) (AllMarks cs)
  starters_more cs true so_far = so_far
  starters_more cs false so_far = marks_from cs

  starters_from : (cs : List ℕ) → is_ordered (fold (order_with canonical) Starters cs) ≡ has_marks_last canonical cs
  unfolding has_marks_last
  starters_from [] = refl
  starters_from (c ∷ cs) = starters_more cs (is_starter canonical c) (starters_from cs)

  pub order_told : (c : ℕ) (cs : List ℕ)
      → by_fold is_ordered (order_with canonical) (order_with canonical Starters c) cs ≡ has_marks_last canonical (c ∷ cs)
  order_told c cs = starters_from (c ∷ cs)

-- ---- Flags

not_not : (b : Bool) → b ≡ not (not b)
not_not true = refl
not_not false = refl

module _ (canonical : Canonical) where
  begun_stays : (kept : Bool) (cs : List ℕ)
      → is_yes (fold (answered_with canonical BeginsWithMark) (record { is_empty = false; is_yes = kept }) cs) ≡ kept
  begun_stays kept [] = refl
  begun_stays kept (c ∷ cs) = begun_stays kept cs

  -- the kind of the last character, which comes first here
  abbrev last_kind : Bool → List ℕ → Bool
  last_kind kept [] = kept
  last_kind kept (c ∷ cs) = is_starter canonical c

  kind_further : (kept : Bool) (c : ℕ) (cs : List ℕ) → last_kind (is_starter canonical c) cs ≡ last_kind kept (cs ++ c ∷ [])
  kind_further kept c [] = refl
  kind_further kept c (d ∷ cs) = refl

  last_from : (before : Answered) (cs : List ℕ)
      → is_yes (fold (answered_with canonical EndsInNoMark) before cs) ≡ last_kind before.is_yes (reverse cs)
  last_from before [] = refl
  last_from before (c ∷ cs) =
      last_from (record { is_empty = false; is_yes = is_starter canonical c }) cs
      ∙ kind_further before.is_yes c (reverse cs)
      ∙ ap (last_kind before.is_yes) (sym (reverse_onto cs c []))

  kind_told : (cs : List ℕ) → last_kind true cs ≡ not (begins_with_mark canonical cs)
  kind_told [] = refl
  kind_told (c ∷ cs) = not_not (is_starter canonical c)

  holds_more : (kept starter any : Bool) → ((kept && not starter) && not any) ≡ (kept && not (starter || any))
  holds_more true true any = refl
  holds_more true false any = refl
  holds_more false starter any = refl

  holds_end : (kept : Bool) → kept ≡ (kept && true)
  holds_end true = refl
  holds_end false = refl

  holds_from : (before : Answered) (cs : List ℕ)
      → is_yes (fold (answered_with canonical HoldsNoStarter) before cs) ≡ (before.is_yes && not (list_any (is_starter canonical) cs))
  holds_from before [] = holds_end before.is_yes
  holds_from before (c ∷ cs) =
      holds_from (record { is_empty = false; is_yes = before.is_yes && not (is_starter canonical c) }) cs
      ∙ holds_more before.is_yes (is_starter canonical c) (list_any (is_starter canonical) cs)

  pub answer_told : (question : Question) (cs : List ℕ)
      → by_fold is_yes (answered_with canonical question) (answered_first question) cs ≡ answer canonical question cs
  answer_told BeginsWithMark [] = refl
  answer_told BeginsWithMark (c ∷ cs) = begun_stays (not (is_starter canonical c)) cs
  answer_told EndsInNoMark cs = last_from (answered_first EndsInNoMark) cs ∙ kind_told (reverse cs)
  answer_told HoldsNoStarter cs = holds_from (answered_first HoldsNoStarter) cs
