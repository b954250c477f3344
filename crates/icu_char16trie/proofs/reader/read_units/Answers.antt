use Rattle.std.proofs.Common.{map, ap, ◌∙◌, sym, subst}
use Rattle.icu_char16trie.specs.UnitGrammar.{IsListing}
use Rattle.icu_char16trie.specs.UnitReadingOrder.{StopsAt, root_valued, jobs_left, pairs_read}
use Rattle.icu_char16trie.specs.declared.reader.error.ReadUnitsError.TheVariants.{BadUnits}
use Rattle.icu_char16trie.proofs.Reading.ErrorLemmas.{error-same, index-same, error_at}
use Rattle.icu_char16trie.proofs.Reading.OutcomeLemmas.{empty_listing, first_jobs, listing_read, stops_read, refused_read}
use Rattle.icu_char16trie.proofs.reader.read_units.Goals as goal

pub returns-in_default-clause-listing : goal.returns-in_default-clause-listing
returns-in_default-clause-listing c =
    subst (λ pairs. IsListing c.args.units.now c.args.limit pairs) (sym (ap (λ items. map (λ entry. (entry.0.items, entry.1)) items) c.new.ensures.items))
    (empty_listing c.args.units.now c.args.limit (sym c.unit_at.ensures.unit ∙ c.in_default.is))

pub returns-then-lead-ge64-clause-index : goal.returns-then-lead-ge64-clause-index
returns-then-lead-ge64-clause-index c index e =
    subst (λ index. StopsAt c.args.units.now c.args.limit index) (index-same 0 index (error-same (BadUnits 0) (BadUnits index) e))
    (root_valued c.in-Some.lead (sym c.unit_at.ensures.unit ∙ c.in-Some.is) c.if-lead-ge64.true)

pub returns-in-Err-clause-refused : goal.returns-in-Err-clause-refused
returns-in-Err-clause-refused c index e =
    refused_read c.args.units.now c.args.limit c.in-Some.lead (jobs_left c.put.new.self) (sym c.unit_at.ensures.unit ∙ c.in-Some.is) c.if-lead-ge64.false
    (first_jobs (jobs_left c.put.new.self) (jobs_left c.new-queue.result) c.new-2.result.items c.in_ok-put.ensures.jobs c.new-2.ensures.items c.new-queue.ensures.jobs)
    index (c.in-Err.ensures.stops index (error_at c.in-Err.error index e))

pub returns-in-Err-clause-index : goal.returns-in-Err-clause-index
returns-in-Err-clause-index c index e =
    stops_read c.args.units.now c.args.limit c.in-Some.lead (jobs_left c.put.new.self) (sym c.unit_at.ensures.unit ∙ c.in-Some.is) c.if-lead-ge64.false
    (first_jobs (jobs_left c.put.new.self) (jobs_left c.new-queue.result) c.new-2.result.items c.in_ok-put.ensures.jobs c.new-2.ensures.items c.new-queue.ensures.jobs)
    index (c.in-Err.ensures.stops index (error_at c.in-Err.error index e))

pub returns-clause-listing : goal.returns-clause-listing
returns-clause-listing c =
    listing_read c.args.units.now c.args.limit c.in-Some.lead (jobs_left c.put.new.self) (sym c.unit_at.ensures.unit ∙ c.in-Some.is) c.if-lead-ge64.false
    (first_jobs (jobs_left c.put.new.self) (jobs_left c.new-queue.result) c.new-2.result.items c.in_ok-put.ensures.jobs c.new-2.ensures.items c.new-queue.ensures.jobs)
    (pairs_read c.put.new.self) (pairs_read c.take_all.new.self) (map (λ entry. (entry.0.items, entry.1)) c.into_entries.result.items)
    (c.put.ensures.pairs ∙ c.new-queue.ensures.pairs) c.in_default-take_all.ensures.read c.into_entries.ensures
