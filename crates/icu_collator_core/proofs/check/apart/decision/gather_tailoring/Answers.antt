use Rattle.std.proofs.Common.{◌≡◌, Some, rules}
use Rattle.icu_collator_core.specs.ElementLists.{unpacked}
use Rattle.icu_collator_core.specs.PrefixFaults.{IsSpelledIn}
use Rattle.icu_collator_core.specs.WeightLists.{IsLeadOf, IsLeadOfTailoring, IsSpelledByTailoring}
use Rattle.icu_collator_core.proofs.apart.GrowthLemmas.{grown_same}
use Rattle.icu_collator_core.proofs.apart.ApartSpellingLemmas.{there_is}
use Rattle.icu_collator_core.proofs.check.apart.decision.gather_tailoring.Goals as goal

pub returns-clause-elements : goal.returns-clause-elements
returns-clause-elements c =
    let tables = c.args.tables.now in
    let source = c.in-Some.source in
    let is : tables.tailoring ≡ Some source = search rules in
    grown_same (IsSpelledIn source) (IsSpelledByTailoring tables) (unpacked c.args.gathered.now.elements.items) (unpacked c.gather_data.new.gathered.elements.items)
    (λ e. there_is (λ one. IsSpelledIn one e) tables.tailoring source is) c.in_ok-gather_data.ensures.elements

pub returns-clause-leads : goal.returns-clause-leads
returns-clause-leads c =
    let tables = c.args.tables.now in
    let source = c.in-Some.source in
    let is : tables.tailoring ≡ Some source = search rules in
    grown_same (IsLeadOf source) (IsLeadOfTailoring tables) c.args.gathered.now.leads.items c.gather_data.new.gathered.leads.items
    (λ lead. there_is (λ one. IsLeadOf one lead) tables.tailoring source is) c.in_ok-gather_data.ensures.leads
