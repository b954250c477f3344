use Rattle.std.proofs.Common.{◌≡◌, ◌∷◌, ◌++◌, List, [], ℕ, false, rules, subst, sym}
use Rattle.icu_collator_core.specs.Stretches.{IsReadUpToStretch}
use Rattle.icu_collator_core.proofs.readings.StretchLemmas.{flat_more}
use Rattle.icu_collator_core.proofs.checked.CheckedTables.go_on.Goals as goal

pub returns-in-Some : goal.returns-in-Some
returns-in-Some g c = λ _ text read.
    let source = c.args.self.now in
    let old = c.args.stretch.now in
    let smooth : old.is_rough ≡ false = search rules in
    subst (λ (l : List ℕ). IsReadUpToStretch source c.args.numeric (text ++ c.args.c ∷ []) l old.count c.in-Some.class old.is_rough c.push-2.new.elements.items)
    (sym c.in_ok-push.ensures.ok)
    (flat_more source c.args.numeric text old.chars.items old.count old.class old.is_rough c.args.elements.now.items c.push-2.new.elements.items c.args.c c.in-Some.class
    read smooth (c.in-Some.ensures source c.args.c c.requires))
