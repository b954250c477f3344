use Rattle.std.proofs.Common.{◌≡◌, ◌∷◌, ◌++◌, List, [], ℕ, false, true, ap, rules, subst, sym, ◌∙◌}
use Rattle.icu_collator_core.specs.Stretches.{IsReadUpToStretch}
use Rattle.icu_collator_core.proofs.readings.StretchLemmas.{stretch_begun}
use Rattle.icu_collator_core.proofs.checked.CheckedTables.begin.Goals as goal

pub returns-in-Some : goal.returns-in-Some
returns-in-Some g c = λ _ text read.
    let source = c.args.self.now in
    let numeric = c.args.numeric in
    let x = c.args.c in
    let new = c.push_boundary.new.elements.items in
    let whole : c.in_ok-is_read.is_read ≡ true = search rules in
    let one : c.push.new.self.items ≡ x ∷ [] = c.in_ok-push.ensures.ok ∙ ap (λ (l : List ℕ). l ++ x ∷ []) c.clear.ensures.items in
    subst (λ (l : List ℕ). IsReadUpToStretch source numeric (text ++ x ∷ []) l c.len-stretch.result c.in-Some.class false new) (sym one)
    (subst (λ (n : ℕ). IsReadUpToStretch source numeric (text ++ x ∷ []) (x ∷ []) n c.in-Some.class false new) (sym c.len-stretch.ensures)
    (stretch_begun source numeric text c.close.new.elements.items new c.close.new.stretch.class x c.in-Some.class (c.in_ok-is_read.ensures whole text read)
    c.requires.boundary c.in-Some.ensures))
