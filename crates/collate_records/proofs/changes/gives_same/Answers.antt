use Rattle.std.proofs.Common.{◌≡◌, ℕ, List, map, true, sym, ap, ◌∙◌, subst}
use Rattle.std.specs.Bool.{IsTrue}
use Rattle.collate_lines.specs.declared.record.Record.{Record as Line}
use Rattle.collate_records.specs.Changes.{begins_with, GivesSame}
use Rattle.collate_rules.specs.Meaning.{recorded_in}
use Rattle.collate_lines.specs.Record.{said}
use Rattle.collate_records.proofs.changes.gives_same.Goals as goal

pub returns-in-Weights : goal.returns-in-Weights
returns-in-Weights c =
    let a = map said c.args.a.now
    in let b = map said c.args.b.now
    in let Told : Line → Type 0 = λ l. (IsTrue c.is_recorded_alike.result → GivesSame a b c.args.c (said l)) × (GivesSame a b c.args.c (said l) → IsTrue c.is_recorded_alike.result)
    in let Same : List ℕ → List ℕ → Type 0 = λ prefix text. recorded_in a prefix text ≡ recorded_in b prefix text
    in let prefix = c.deref-in-Weights.ensures.value
    in let text = c.deref-in-Weights-2.ensures.value
    in let begins : begins_with c.args.c c.in-Weights.text.items ≡ true = sym (c.begins_with.ensures ∙ ap (begins_with c.args.c) c.deref.ensures.value) ∙ c.if-begins_with.true
    in subst Told (sym c.in-Weights.is) (
      λ is _. subst (λ p. Same p c.in-Weights.text.items) prefix (subst (λ t. Same c.deref-in-Weights.result.now t) text (c.is_recorded_alike.ensures.0 is)),
      λ given. c.is_recorded_alike.ensures.1 (subst (λ p. Same p c.deref-in-Weights-2.result.now) (sym prefix) (subst (λ t. Same c.in-Weights.prefix.items t) (sym text) (given begins))),
    )
