use Rattle.std.proofs.Common.{◌≡◌, ◌∙◌, ap, drop, false, refl, rules, true}
use Rattle.icu_collator_types.specs.Options.{is_at_least}
use Rattle.icu_collator_types.specs.declared.options.Strength.TheVariants.{Identical}
use Rattle.icu_collator_core.specs.ElementLists.{unpacked}
use Rattle.icu_collator.proofs.orders.OrderByFlatLemmas.{same_primaries}
use Rattle.icu_collator.proofs.compare.flat_texts.compare_kept.Goals as goal

pub returns : goal.returns
returns g c =
    let a = drop c.args.index (g.T.Characters.characters c.args.left) in
    let b = drop c.args.index (g.U.Characters.characters c.args.right) in
    let inexact : is_at_least c.args.options.now.strength Identical ≡ false = search rules in
    let left_read : c.in_ok-read_elements.field-0 ≡ true = search rules in
    let right_read : c.in_ok-read_elements-2.field-0 ≡ true = search rules in
    let lefts = ap unpacked c.as_slice.ensures ∙ c.in_ok-read_elements.ensures.elements left_read in
    let rights = ap unpacked c.as_slice-2.ensures ∙ c.in_ok-read_elements-2.ensures.elements right_read in
    c.in_ok-order.ensures
    ∙ same_primaries c.args.checked.now c.numeric_lead-numeric.result c.args.options.now c.requires.unshifted c.numeric_lead-numeric.ensures inexact a b _ _ refl refl
    lefts rights c.requires.same
