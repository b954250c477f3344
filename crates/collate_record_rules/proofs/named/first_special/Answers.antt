use Rattle.std.proofs.Common.{rules}
use Rattle.std.specs.Bool.{IsTrue}
use Rattle.std.proofs.lemmas.Iterator.{IsFirst-from_position, YieldsList-from_slice}
use Rattle.collate_lines.specs.Record.{Record, said}
use Rattle.collate_rules.specs.RecordRules.{names_special}
use Rattle.collate_rules.proofs.offenders.LineRuleLemmas.{first_by_test}
use Rattle.collate_record_rules.proofs.named.first_special.Goals as goal

pub returns : goal.returns
returns c =
    let Offends : Record → Type 0 = λ s. IsTrue (names_special s) in
    first_by_test Offends c.args.records.now c.position.result
    (IsFirst-from_position _ _ c.position.result (λ x. Offends (said x)) (λ x. Offends (said x) → ⊥) c.position.ensures.ran
    (YieldsList-from_slice c.args.records.now c.iter.ensures.rest) (λ x q k. search rules) (λ x q k. search rules))
