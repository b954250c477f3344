use Rattle.std.proofs.Common.{◌++◌, ◌∙◌, ◌≡◌, ◌≢◌, ◌/◌, ◌^◌, sym, ap, append_assoc}
use Rattle.icu_collator_core.specs.WeightRules.{primary_bytes}
use Rattle.icu_collator.specs.KeyBytes.{primary_code, run_end}
use Rattle.icu_collator.proofs.key_writing.WeightWrittenLemmas.{inside_run, behind_run_end}
use Rattle.icu_collator.proofs.key_bytes.primaries.write_primary.Goals as goal

pub returns-in_default : goal.returns-in_default
unfolding primary_code
returns-in_default c =
    c.in_ok-write_primary_bytes.ensures ∙ sym (ap (λ run. c.args.key.now.items ++ primary_code run c.args.primary) c.in_default.is)

pub returns-then-lead-before : goal.returns-then-lead-before
returns-then-lead-before c =
    let key = c.args.key.now.items in
    let p = c.args.primary in
    let same : p / 2 ^ 24 ≡ c.in-Some.before = sym c.lead_of-lead.ensures ∙ c.if-lead-before.true in
    c.in_ok-write_primary_rest.ensures ∙ sym (ap (λ run. key ++ primary_code run p) c.in-Some.is ∙ ap (λ l. key ++ l) (inside_run c.in-Some.before p same))

pub returns : goal.returns
returns c =
    let key = c.args.key.now.items in
    let p = c.args.primary in
    let before = c.in-Some.before in
    let other : p / 2 ^ 24 ≢ before = λ e. c.if-lead-before.false (c.lead_of-lead.ensures ∙ e) in
    c.in_ok-write_primary_bytes-2.ensures
    ∙ ap (λ l. l ++ primary_bytes p) (c.in_ok-write_run_end.ensures ∙ ap (λ lead. key ++ run_end before lead) c.lead_of-lead.ensures)
    ∙ append_assoc key (run_end before (p / 2 ^ 24)) (primary_bytes p)
    ∙ sym (ap (λ run. key ++ primary_code run p) c.in-Some.is ∙ ap (λ l. key ++ l) (behind_run_end before p other))
