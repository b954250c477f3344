use Rattle.std.proofs.Common.{◌⊎◌, subst}
use Rattle.icu_collator_core.specs.ElementLists.{unpacked}
use Rattle.icu_collator_core.specs.PrefixFaults.{IsSpelledIn}
use Rattle.icu_collator_core.specs.WeightLists.{Grows, IsLeadOf, IsLeadOfTailoring, IsSpelledByTables, IsSpelledByTailoring}
use Rattle.icu_collator_core.proofs.apart.GrowthLemmas.{listed, listed_more}
use Rattle.icu_collator_core.proofs.check.apart.decision.gather.Goals as goal

pub returns-clause-elements : goal.returns-clause-elements
returns-clause-elements c =
    let tables = c.args.tables.now in
    let first = unpacked c.gather_data.new.gathered.elements.items in
    let second = unpacked c.gather_tailoring.new.gathered.elements.items in
    listed_more (λ e. IsSpelledIn tables.root e ⊎ IsSpelledByTailoring tables e) (IsSpelledByTables tables) second (unpacked c.gather_fixed.new.elements.items)
    (listed_more (IsSpelledIn tables.root) (IsSpelledByTailoring tables) first second
    (listed (IsSpelledIn tables.root) first
    (subst (λ items. Grows (IsSpelledIn tables.root) (unpacked items) first) c.new-elements.ensures.items c.in_ok-gather_data.ensures.elements))
    c.in_ok-gather_tailoring.ensures.elements)
    c.in_ok-gather_fixed.ensures

pub returns-clause-leads : goal.returns-clause-leads
returns-clause-leads c =
    let tables = c.args.tables.now in
    let first = c.gather_data.new.gathered.leads.items in
    let second = c.gather_tailoring.new.gathered.leads.items in
    listed_more (IsLeadOf tables.root) (IsLeadOfTailoring tables) first second
    (listed (IsLeadOf tables.root) first
    (subst (λ items. Grows (IsLeadOf tables.root) items first) c.new-leads.ensures.items c.in_ok-gather_data.ensures.leads))
    c.in_ok-gather_tailoring.ensures.leads
