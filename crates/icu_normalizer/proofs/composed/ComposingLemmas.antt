-- Composing a decomposed list, step by step.
use Rattle.std.proofs.Common.{◌≡◌, ℕ, ◌<◌, ◌≤◌, ◌⊎◌, Bool, true, false, cond, ltb, ◌==◌, ◌&&◌, ◌||◌, max, List, [], ◌∷◌, ◌++◌, Option, Some, None, refl, sym, ap, subst, ◌∙◌, arith, inl, inr, eq-eqb, ne_eqb}
use Rattle.std.proofs.lemmas.Bool.{cond-true, cond-false, cases_lt}
use Rattle.std.proofs.lemmas.Bool.Decides.{nat_tests}
use Rattle.std.proofs.lemmas.List.Folds.{list_all-append}
use Rattle.std.specs.List.{list_all}
use Rattle.icu_normalizer_core.specs.Canonical.{Canonical, is_starter, composing, recomposed, decomposed, composed, marks_in_order}
use Rattle.icu_normalizer.specs.Composing.{AreUpTo, composed_with}

seen_from : (highest n : ℕ) → (0 < highest → highest < n) → ((highest == 0) || ltb highest n) ≡ true
seen_from highest n above = elim (cases_lt 0 highest) [ inl some ↦ (let h = above some in grind (arith, nat_tests)) | inr none ↦ grind (arith, nat_tests) ]

unseen_from : (highest n : ℕ) → 0 < highest → n ≤ highest → ((highest == 0) || ltb highest n) ≡ false
unseen_from highest n some le = grind (arith, nat_tests)

higher : (highest k n : ℕ) → 0 < k → (((highest == 0) || ltb highest n) && (ltb k n && true)) ≡ ((max highest k == 0) || ltb (max highest k) n)
higher highest k n mark = grind (arith, nat_tests)

cases_option : (o : Option ℕ) → (o ≡ None) ⊎ ((z : ℕ) × (o ≡ Some z))
cases_option None = inl refl
cases_option (Some z) = inr (z, refl)

-- what is composed is a pair, over marks that are seen over
pub seen_over : (b : Bool) (o : Option ℕ) (z : ℕ) → cond b o None ≡ Some z → (b ≡ true) × (o ≡ Some z)
seen_over true o z e = (refl, e)
seen_over false o z e = cc

either_none : (b : Bool) (o : Option ℕ) → o ≡ None → cond b o None ≡ None
either_none true o h = h
either_none false o h = refl

module _ (canonical : Canonical) where
  starter_from : (c : ℕ) → canonical.class c ≤ 0 → is_starter canonical c ≡ true
  starter_from c h = eq-eqb (canonical.class c) 0 (omega arith)

  not_starter_from : (c : ℕ) → 0 < canonical.class c → is_starter canonical c ≡ false
  not_starter_from c h = ne_eqb (canonical.class c) 0 (λ e. omega arith)

  pub composing_end : (s : ℕ) (ms : List ℕ) → composing canonical s ms [] ≡ s ∷ ms
  unfolding composing
  composing_end s ms = refl

  pub composing_joined : (s : ℕ) (ms : List ℕ) (c z : ℕ) (cs : List ℕ) → composed_with canonical s ms c ≡ Some z → composing canonical s ms (c ∷ cs) ≡ composing canonical z ms cs
  unfolding composing
  composing_joined s ms c z cs h = rw (h, composing)

  pub composing_begun : (s : ℕ) (ms : List ℕ) (c : ℕ) (cs : List ℕ) → composed_with canonical s ms c ≡ None → canonical.class c ≤ 0 → composing canonical s ms (c ∷ cs) ≡ (s ∷ ms) ++ composing canonical c [] cs
  unfolding composing
  composing_begun s ms c cs h starter = rw (h, composing) (cond-true _ _ _ (starter_from c starter))

  pub composing_kept : (s : ℕ) (ms : List ℕ) (c : ℕ) (cs : List ℕ) → composed_with canonical s ms c ≡ None → 0 < canonical.class c → composing canonical s ms (c ∷ cs) ≡ composing canonical s (ms ++ c ∷ []) cs
  unfolding composing
  composing_kept s ms c cs h mark = rw (h, composing) (cond-false _ _ _ (not_starter_from c mark))

  -- the three ways in which a step goes
  pub composing_cases : (s : ℕ) (ms : List ℕ) (c : ℕ) (cs : List ℕ) (Q : List ℕ → Type 0) → ((z : ℕ) → composed_with canonical s ms c ≡ Some z → Q (composing canonical z ms cs)) → (composed_with canonical s ms c ≡ None → canonical.class c ≤ 0 → Q ((s ∷ ms) ++ composing canonical c [] cs)) → (composed_with canonical s ms c ≡ None → 0 < canonical.class c → Q (composing canonical s (ms ++ c ∷ []) cs)) → Q (composing canonical s ms (c ∷ cs))
  composing_cases s ms c cs Q joins begins keeps =
      elim (cases_option (composed_with canonical s ms c)) [
        | inl none ↦
            elim (cases_lt 0 (canonical.class c)) [
              | inl mark ↦ subst Q (sym (composing_kept s ms c cs none mark)) (keeps none mark)
              | inr starter ↦ subst Q (sym (composing_begun s ms c cs none starter)) (begins none starter)
            ]
        | inr some ↦ subst Q (sym (composing_joined s ms c some.0 cs some.1)) (joins some.0 some.1)
      ]

  pub recomposed_nothing : recomposed canonical [] ≡ []
  unfolding recomposed
  recomposed_nothing = refl

  pub recomposed_begun : (c : ℕ) (cs : List ℕ) → canonical.class c ≤ 0 → recomposed canonical (c ∷ cs) ≡ composing canonical c [] cs
  unfolding recomposed
  recomposed_begun c cs h = cond-true _ _ _ (starter_from c h)

  pub recomposed_passed : (c : ℕ) (cs : List ℕ) → 0 < canonical.class c → recomposed canonical (c ∷ cs) ≡ c ∷ recomposed canonical cs
  unfolding recomposed
  recomposed_passed c cs h = cond-false _ _ _ (not_starter_from c h)

  -- ---- what may stand between

  pub composed_over : (s : ℕ) (ms : List ℕ) (c highest : ℕ) → AreUpTo canonical.class ms highest → (0 < highest → highest < canonical.class c) → composed_with canonical s ms c ≡ canonical.pair s c
  composed_over s ms c highest up above = cond-true _ _ _ (up (canonical.class c) ∙ seen_from highest (canonical.class c) above)

  pub composed_not : (s : ℕ) (ms : List ℕ) (c highest : ℕ) → AreUpTo canonical.class ms highest → 0 < highest → canonical.class c ≤ highest → composed_with canonical s ms c ≡ None
  composed_not s ms c highest up some le = cond-false _ _ _ (up (canonical.class c) ∙ unseen_from highest (canonical.class c) some le)

  pub composed_never : (s : ℕ) (ms : List ℕ) (c : ℕ) → canonical.pair s c ≡ None → composed_with canonical s ms c ≡ None
  composed_never s ms c none = either_none (list_all (λ m. ltb (canonical.class m) (canonical.class c)) ms) (canonical.pair s c) none

-- marks of no class
pub AreUpTo-none : (class : ℕ → ℕ) → AreUpTo class [] 0
AreUpTo-none class n = refl

pub AreUpTo-push : (class : ℕ → ℕ) (ms : List ℕ) (highest c : ℕ) → AreUpTo class ms highest → 0 < class c → AreUpTo class (ms ++ c ∷ []) (max highest (class c))
AreUpTo-push class ms highest c up mark n =
    list_all-append (λ m. ltb (class m) n) ms (c ∷ []) ∙ ap (λ b. b && (ltb (class c) n && true)) (up n) ∙ higher highest (class c) n mark

-- a character below U+0300 is no pair's second
pub never_second : (canonical : Canonical) (d : ℕ) → ((a b c : ℕ) → canonical.pair a b ≡ Some c → 0x300 ≤ b) → d < 0x300 → (a : ℕ) → canonical.pair a d ≡ None
never_second canonical d seconds low a =
    elim (cases_option (canonical.pair a d)) [
      | inl none ↦ none
      | inr some ↦ let h : 0x300 ≤ d = seconds a d some.0 some.1 in absurd (omega (arith, h, low))
    ]

-- so it composes with none before it
pub composed_low : (canonical : Canonical) (s : ℕ) (ms : List ℕ) (c : ℕ) → ((a b z : ℕ) → canonical.pair a b ≡ Some z → 0x300 ≤ b) → c < 0x300 → composed_with canonical s ms c ≡ None
composed_low canonical s ms c seconds low = composed_never canonical s ms c (never_second canonical c seconds low s)

-- nothing is its own composed list
pub composed_nothing : (canonical : Canonical) → composed canonical [] ≡ []
unfolding composed recomposed decomposed marks_in_order
composed_nothing canonical = refl
