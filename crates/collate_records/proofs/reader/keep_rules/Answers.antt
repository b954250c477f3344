use Rattle.std.proofs.Common.{ℕ, subst, sym, rules}
use Rattle.collate_rules.specs.Rules.{rank}
use Rattle.collate_records.specs.Files.{RefusesWithin}
use Rattle.collate_records.specs.Phases.{KeepsBelow}
use Rattle.collate_records.proofs.reader.keep_rules.Goals as goal

pub returns-in_err-keep_rule : goal.returns-in_err-keep_rule
returns-in_err-keep_rule c = λ file of keeps.
    let before : KeepsBelow c.args.limits (rank c.rule_of_rank.result) file = subst (λ (n : ℕ). KeepsBelow c.args.limits n file) (sym c.rule_of_rank.ensures) (c.loop-rank.invariant file of keeps) in
    let refused : RefusesWithin c.args.limits file c.in_err-keep_rule.field-0.0 = c.in_err-keep_rule.ensures c.args.limits file of before in
    search (rules, refused)
