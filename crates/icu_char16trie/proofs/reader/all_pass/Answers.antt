use Rattle.std.proofs.Common.{◌∙◌, sym, subst}
use Rattle.icu_char16trie.specs.UnitReadingOrder.{StopsAt, root_valued, jobs_left}
use Rattle.icu_char16trie.specs.declared.reader.error.ReadUnitsError.TheVariants.{BadUnits}
use Rattle.icu_char16trie.proofs.Reading.ErrorLemmas.{error-same, index-same}
use Rattle.icu_char16trie.proofs.Reading.OutcomeLemmas.{first_jobs, stops_read, refused_read}
use Rattle.icu_char16trie.proofs.Reading.TestLemmas.{tested_root, tested_says}
use Rattle.icu_char16trie.proofs.reader.all_pass.Goals as goal

pub returns-then-lead-ge64-clause-index : goal.returns-then-lead-ge64-clause-index
returns-then-lead-ge64-clause-index g c index e =
    subst (λ index. StopsAt c.args.units.now c.args.limit index) (index-same 0 index (error-same (BadUnits 0) (BadUnits index) e))
    (root_valued c.in-Some.lead (sym c.unit_at.ensures.unit ∙ c.in-Some.is) c.if-lead-ge64.true)

pub returns-in-Ok-clause-passed : goal.returns-in-Ok-clause-passed
returns-in-Ok-clause-passed g c =
    let found = tested_root c.args.units.now c.args.limit c.in-Some.lead (jobs_left c.put.new.self) (g.T.EntryTest.test c.args.test.now) c.in-Ok.all (sym c.unit_at.ensures.unit ∙ c.in-Some.is) c.if-lead-ge64.false
    (first_jobs (jobs_left c.put.new.self) (jobs_left c.new-queue.result) c.new.result.items c.in_ok-put.ensures.jobs c.new.ensures.items c.new-queue.ensures.jobs)
    c.in-Ok.ensures.tested in
    tested_says c.args.units.now c.args.limit found.0 (g.T.EntryTest.test c.args.test.now) c.in-Ok.all found.1 found.2

pub returns-in-Ok-clause-grammar : goal.returns-in-Ok-clause-grammar
returns-in-Ok-clause-grammar g c =
    let found = tested_root c.args.units.now c.args.limit c.in-Some.lead (jobs_left c.put.new.self) (g.T.EntryTest.test c.args.test.now) c.in-Ok.all (sym c.unit_at.ensures.unit ∙ c.in-Some.is) c.if-lead-ge64.false
    (first_jobs (jobs_left c.put.new.self) (jobs_left c.new-queue.result) c.new.result.items c.in_ok-put.ensures.jobs c.new.ensures.items c.new-queue.ensures.jobs)
    c.in-Ok.ensures.tested in
    found.1.trie

pub returns-in-Ok-clause-bound : goal.returns-in-Ok-clause-bound
returns-in-Ok-clause-bound g c =
    let found = tested_root c.args.units.now c.args.limit c.in-Some.lead (jobs_left c.put.new.self) (g.T.EntryTest.test c.args.test.now) c.in-Ok.all (sym c.unit_at.ensures.unit ∙ c.in-Some.is) c.if-lead-ge64.false
    (first_jobs (jobs_left c.put.new.self) (jobs_left c.new-queue.result) c.new.result.items c.in_ok-put.ensures.jobs c.new.ensures.items c.new-queue.ensures.jobs)
    c.in-Ok.ensures.tested in
    found.1.bound

pub returns-clause-refused : goal.returns-clause-refused
returns-clause-refused g c index e =
    refused_read c.args.units.now c.args.limit c.in-Some.lead (jobs_left c.put.new.self) (sym c.unit_at.ensures.unit ∙ c.in-Some.is) c.if-lead-ge64.false
    (first_jobs (jobs_left c.put.new.self) (jobs_left c.new-queue.result) c.new.result.items c.in_ok-put.ensures.jobs c.new.ensures.items c.new-queue.ensures.jobs)
    index (c.in-Err.ensures.stops index e)

pub returns-clause-index : goal.returns-clause-index
returns-clause-index g c index e =
    stops_read c.args.units.now c.args.limit c.in-Some.lead (jobs_left c.put.new.self) (sym c.unit_at.ensures.unit ∙ c.in-Some.is) c.if-lead-ge64.false
    (first_jobs (jobs_left c.put.new.self) (jobs_left c.new-queue.result) c.new.result.items c.in_ok-put.ensures.jobs c.new.ensures.items c.new-queue.ensures.jobs)
    index (c.in-Err.ensures.stops index e)
