use Rattle.std.proofs.Common.{◌≡◌, ◌∷◌, ◌++◌, List, [], ℕ, ap, true, subst, sym, take, ◌∙◌}
use Rattle.icu_collator_core.specs.Pairs.{noted_elements}
use Rattle.icu_collator_core.specs.Stretches.{IsReadUpToStretch}
use Rattle.icu_collator_core.proofs.readings.StretchLemmas.{pair_more, rough_more}
use Rattle.icu_collator_core.proofs.checked.CheckedTables.pair_up.Goals as goal

pub returns-in-Some-pair : goal.returns-in-Some-pair
returns-in-Some-pair g c = λ whole numeric text read.
    let source = c.args.self.now in
    let old = c.args.stretch.now in
    let items = c.args.elements.now.items in
    let x = c.args.c in
    let first = c.in-Some.first in
    let pair = c.in-Some-pair.pair.now in
    let new = c.replace_from.new.self.items in
    let only : old.chars.items ≡ first ∷ [] = c.in-Some.ensures in
    let chars : c.push.new.self.items ≡ first ∷ x ∷ [] = c.in_ok-push.ensures.ok ∙ ap (λ (l : List ℕ). l ++ x ∷ []) only in
    let is : new ≡ take old.count items ++ noted_elements pair = c.replace_from.ensures whole ∙ ap (λ (l : List ℕ). take old.count items ++ l) c.elements.ensures in
    subst (λ (l : List ℕ). IsReadUpToStretch source numeric (text ++ x ∷ []) l old.count c.trail-stretch.result old.is_rough new) (sym chars)
    (subst (λ (n : ℕ). IsReadUpToStretch source numeric (text ++ x ∷ []) (first ∷ x ∷ []) old.count n old.is_rough new) (sym c.trail-stretch.ensures)
    (pair_more source numeric text first old.count old.class old.is_rough items (noted_elements pair) new x pair.trail
    (subst (λ (l : List ℕ). IsReadUpToStretch source numeric text l old.count old.class old.is_rough items) only read) c.in-Some-pair.ensures is))

pub returns : goal.returns
returns g c = λ _ numeric text read.
    let source = c.args.self.now in
    let old = c.args.stretch.now in
    let items = c.args.elements.now.items in
    let x = c.args.c in
    subst (λ (l : List ℕ). IsReadUpToStretch source numeric (text ++ x ∷ []) l old.count old.class true items) (sym c.in_ok-push-2.ensures.ok)
    (rough_more source numeric text old.chars.items old.count old.class old.is_rough items x read)
