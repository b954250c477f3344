-- The flags of a contraction.
use Rattle.std.proofs.Common.{◌↔◌, ℕ, Bool, true, false, not, ◌&&◌, List, refl}
use Rattle.std.specs.Bool.{IsTrue}
use Rattle.std.proofs.lemmas.Bool.{and_from, and_parts, false≢true}
use Rattle.icu_normalizer_core.specs.Canonical.{Canonical}
use Rattle.icu_collator_core.specs.declared.check.flags.Question.TheVariants.{BeginsWithMark, EndsInNoMark, HoldsNoStarter}
use Rattle.icu_collator_core.specs.ContextFaults.{agree, answer}
use Rattle.icu_collator_core.specs.ContextRules.{AreFlagsTrue, KeysPass, has_flag}

agreed : {P : Type 0} (flag fact : Bool) → (IsTrue fact ↔ P) → IsTrue (agree flag fact) ↔ (IsTrue flag ↔ P)
agreed true fact told = (λ t. (λ _. told.0 t, λ _. refl), λ w. told.1 (w.0 refl))
agreed false true told = (λ t. absurd (false≢true t), λ w. w.1 (told.0 refl))
agreed false false told = (λ _. (λ t. absurd (false≢true t), λ p. told.1 p), λ _. refl)

refused_all : {P : Type 0} (all : Bool) → (IsTrue all ↔ P) → IsTrue (not all) ↔ (P → ⊥)
refused_all true told = (λ t. absurd (false≢true t), λ refused. absurd (refused (told.0 refl)))
refused_all false told = (λ _ p. false≢true (told.1 p), λ _. refl)

pub flags_told : (canonical : Canonical) (word : ℕ) (units : List ℕ) (all_begin none_ends none_holds : Bool)
    → (IsTrue all_begin ↔ KeysPass (answer canonical BeginsWithMark) units)
    → (IsTrue none_ends ↔ KeysPass (answer canonical EndsInNoMark) units)
    → (IsTrue none_holds ↔ KeysPass (answer canonical HoldsNoStarter) units)
    → IsTrue (agree (has_flag 9 word) all_begin && (agree (has_flag 10 word) (not none_ends) && agree (has_flag 11 word) (not none_holds)))
    ↔ AreFlagsTrue canonical word units
flags_told canonical word units all_begin none_ends none_holds begins ends holds =
    let b = agreed (has_flag 9 word) all_begin begins in
    let e = agreed (has_flag 10 word) (not none_ends) (refused_all none_ends ends) in
    let h = agreed (has_flag 11 word) (not none_holds) (refused_all none_holds holds) in
    let first = agree (has_flag 9 word) all_begin in
    let second = agree (has_flag 10 word) (not none_ends) in
    let third = agree (has_flag 11 word) (not none_holds) in (
      λ t.
          let w = and_parts first (second && third) t in
          let v = and_parts second third w.1 in
          record { all_begin = b.0 w.0; one_ends = e.0 v.0; one_holds = h.0 v.1 },
      λ flags. and_from first (second && third) (b.1 flags.all_begin) (and_from second third (e.1 flags.one_ends) (h.1 flags.one_holds)),
    )
