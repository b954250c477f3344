use Rattle.std.proofs.Common.{subst}
use Rattle.icu_collator_core.specs.ElementLists.{unpacked}
use Rattle.icu_collator_core.specs.PrefixFaults.{IsSpelledIn, IsWordIn, Spells}
use Rattle.icu_collator_core.specs.TableMeaning.{pools_of}
use Rattle.icu_collator_core.specs.WeightLists.{AreSpelling, Grows, HasLead, HaveLead, IsLeadOf, IsWordOfData}
use Rattle.icu_collator_core.proofs.apart.GrowthLemmas.{grown_same}
use Rattle.icu_collator_core.proofs.apart.ApartSpellingLemmas.{given_by, given_in}
use Rattle.icu_collator_core.proofs.check.apart.decision.gather_data.Goals as goal

pub returns-clause-elements : goal.returns-clause-elements
returns-clause-elements c =
    let source = c.args.source.now in
    let words = c.in_ok-words.words.items in
    let before = unpacked c.args.gathered.now.elements.items in
    let after = unpacked c.gather_spelled.new.elements.items in
    grown_same (AreSpelling (pools_of source) words) (IsSpelledIn source) before after
    (given_in (IsWordIn source) (Spells (pools_of source)) words c.in_ok-words.ensures)
    (subst (λ list. Grows (AreSpelling (pools_of source) list) before after) c.as_slice-2.ensures.value c.in_ok-gather_spelled.ensures)

pub returns-clause-leads : goal.returns-clause-leads
returns-clause-leads c =
    let source = c.args.source.now in
    let words = c.in_ok-words.words.items in
    let before = c.args.gathered.now.leads.items in
    let after = c.gather_leads.new.leads.items in
    grown_same (HaveLead source words) (IsLeadOf source) before after
    (given_by (IsWordOfData source) (HasLead source) words c.in_ok-words.ensures)
    (subst (λ list. Grows (HaveLead source list) before after) c.as_slice.ensures.value c.in_ok-gather_leads.ensures)
