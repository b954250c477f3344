use Rattle.std.proofs.Common.{◌≡◌, ◌∙◌, false, ap, arith, inl, inr, sym}
use Rattle.std.proofs.lemmas.Bool.{cases_lt}
use Rattle.std.proofs.lemmas.Grind.{get_or-set_at}
use Rattle.std.proofs.lemmas.List.{get_or-set_other, length-set}
use Rattle.icu_collator_core.specs.TableSettings.{is_compressible_in}
use Rattle.icu_collator_core.proofs.compressible_leads.compressible_leads.Goals as goal

pub loop-lead-preserved : goal.loop-lead-preserved
loop-lead-preserved c =
    let leads = c.loop-lead.leads in
    let lead = c.loop-lead.lead in
    let is = c.is_compressible.result in
    let count = c.loop-lead.invariant.count in
    record {
      count = length-set leads lead is ∙ count;
      told = λ k less.
          elim (cases_lt k lead) [
            | inl below ↦ get_or-set_other leads lead k is false (λ same. absurd (omega (arith, below, same))) ∙ c.loop-lead.invariant.told k below
            | inr above ↦
                let same : k ≡ lead = omega (arith, less, above) in
                get_or-set_at leads lead k is false same (omega (arith, count)) ∙ c.is_compressible.ensures
                ∙ sym (ap (is_compressible_in c.args.special.now.last_primaries) same)
          ];
    }

pub returns : goal.returns
returns c = λ k less. c.loop-lead.invariant.told k (let past = c.loop-lead-test.false in omega (arith, less, past))
