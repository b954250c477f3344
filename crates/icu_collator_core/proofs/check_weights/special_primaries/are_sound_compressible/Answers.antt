use Rattle.std.proofs.Common.{rules, arith, ⊎_elim}
use Rattle.std.proofs.lemmas.Bool.{both_ways, cases_lt}
use Rattle.icu_collator_core.proofs.weights.SettingLemmas.{none_compressible_past}
use Rattle.icu_collator_core.proofs.check_weights.special_primaries.are_sound_compressible.Goals as goal

pub returns : goal.returns
returns c = (
  λ yes lead h. ⊎_elim
      (λ lt. c.loop-lead.invariant lead (omega (arith, c.loop-lead-test.false, lt)) h)
      (λ ge. absurd (both_ways _ (none_compressible_past c.args.special.now.last_primaries lead ge) h))
      (cases_lt lead 256),
  λ sound. search rules,
)
