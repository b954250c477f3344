use Rattle.std.proofs.Common.{◌≡◌, List, ℕ, map, sym, subst}
use Rattle.collate_lines.specs.declared.record.Record.{Record as Line}
use Rattle.collate_lines.specs.Record.{said}
use Rattle.collate_rules.specs.Meaning.{recorded_in}
use Rattle.collate_records.specs.Changes.{GivesSame}
use Rattle.collate_records.proofs.differences.differing_character.Goals as goal

pub returns-then-are_recorded_alike-clause-none : goal.returns-then-are_recorded_alike-clause-none
returns-then-are_recorded_alike-clause-none c =
    let a = map said c.args.before.now.lines.now in
    let b = map said c.args.after.now.lines.now in
    let Same : List ℕ → List ℕ → Type 0 = λ prefix text. recorded_in a prefix text ≡ recorded_in b prefix text in
    let same : Same c.in-Weights.prefix.items c.in-Weights.text.items =
    subst (λ (p : List ℕ). Same p c.in-Weights.text.items) c.deref.ensures.value
    (subst (λ (t : List ℕ). Same c.deref.result.now t) c.deref-in-Weights.ensures.value (c.are_recorded_alike.ensures.0 c.if-are_recorded_alike.true)) in
    λ d. subst (λ (line : Line). GivesSame a b d (said line)) (sym c.in-Weights.is) (λ begins. same)
