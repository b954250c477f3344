use Rattle.std.proofs.Common.{◌≡◌, List, [], ◌∷◌, Bool, sym, subst}
use Rattle.collate_lines.specs.Record.{Record}
use Rattle.collate_rules.specs.Meaning.{step_of}
use Rattle.collate_index.specs.Changes.{Tells}
use Rattle.collate_index.proofs.reloading.KnownLemmas.{told_first}
use Rattle.collate_index.proofs.changes.look_at.Goals as goal

pub returns-in-Some-true : goal.returns-in-Some-true
returns-in-Some-true c =
    told_first c.args.differences.now c.args.c c.in-Singleton.d []
    (subst (λ (lines : List Record). step_of lines c.args.c ≡ c.in-Singleton.d ∷ []) c.before-2.ensures (sym c.in-Singleton.ensures))
    (subst (λ (is : Bool). Tells c.args.differences.now c.in-Singleton.d is) c.in-Some-true.field-0-test c.in-Some-true.ensures.tells)

pub returns-in-Some-true-found : goal.returns-in-Some-true-found
returns-in-Some-true-found c =
    told_first c.args.differences.now c.args.c c.in-Expansion.d (c.in-Expansion.e ∷ [])
    (subst (λ (lines : List Record). step_of lines c.args.c ≡ c.in-Expansion.d ∷ c.in-Expansion.e ∷ []) c.before-2.ensures (sym c.in-Expansion.ensures))
    (subst (λ (is : Bool). Tells c.args.differences.now c.in-Expansion.d is) c.in-Some-true-found.field-0-test c.in-Some-true-found.ensures.tells)
