use Rattle.std.proofs.Common.{◌+◌, ◌∙◌, Bool, map, Ok, Result, refl, rules, subst, sym, true, arith}
use Rattle.std.proofs.lemmas.Bool.{false≢true}
use Rattle.std.proofs.lemmas.Result.{IfOk-weaker}
use Rattle.collate_lines.specs.declared.rule.Rule.TheVariants.{C1}
use Rattle.collate_lines.specs.Record.{said}
use Rattle.collate_rules.specs.declared.canonical_parts.CanonicalParts.{CanonicalParts}
use Rattle.collate_rules.specs.Breaches.{AnswersBreach, AnswersClear}
use Rattle.collate_rules.specs.CanonicalParts.{in_full}
use Rattle.collate_rules.specs.Rules.{MapsMark}
use Rattle.collate_rules.proofs.offenders.MappedMarkLemmas.{MapsMark-same, MapsMark-none}
use Rattle.collate_rules.proofs.offenders.PartRuleLemmas.{cleared}
use Rattle.collate_mapping_rules.proofs.lists.GrowingListLemmas.{marks_cleared}
use Rattle.collate_mapping_rules.proofs.marks.first_mapped_mark.Goals as goal

pub returns-then-not-map_any_mark : goal.returns-then-not-map_any_mark
returns-then-not-map_any_mark c = λ i below offends.
    let parts = c.in_ok-parts.parts in
    let unmarked : MapsMark (map in_full parts.list.items) → ⊥ = λ maps.
    false≢true (sym c.if-not-map_any_mark.true ∙ c.map_any_mark.ensures.1 maps) in
    let clears : CanonicalParts → Result Bool (Unit {0}) → Type 0 = λ p answer. AnswersClear C1 p.list.items answer in
    cleared C1 clears (record { tells = λ p answer clear. clear }) MapsMark-same parts (map said c.args.records.now) (Ok true) true
    c.in_ok-parts.ensures (λ t k. marks_cleared parts.list.items unmarked k) refl refl (i + 1) offends

pub returns : goal.returns
returns c =
    IfOk-weaker c.first_breach_from.result _ _
    (λ found first. first C1 (λ k below breach. omega (arith, below))
    (record { tells = λ parts answer k. subst (λ (p : CanonicalParts). AnswersBreach C1 p.list.items answer) k.shows (search rules); same = MapsMark-same; none = MapsMark-none }))
    c.first_breach_from.ensures
