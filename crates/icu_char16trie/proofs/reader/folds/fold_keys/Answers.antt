use Rattle.std.proofs.Common.{◌∙◌, Some, sym, subst}
use Rattle.icu_char16trie.specs.KeyFolds.{GrowsBy, HasEnded}
use Rattle.icu_char16trie.specs.declared.reader.folds.Job.{Job}
use Rattle.icu_char16trie.specs.declared.reader.part.Part.TheVariants as part
use Rattle.icu_char16trie.proofs.Reading.FoldLemmas.{IsOf, folding_root}
use Rattle.icu_char16trie.proofs.Reading.FoldedKeyLemmas.{folded_root, readable_root}
use Rattle.icu_char16trie.proofs.reader.folds.fold_keys.Goals as goal

pub returns-then-is_read : goal.returns-then-is_read
returns-then-is_read g c =
    let onward = g.F.KeyFold.onward c.args.fold.now in
    let units = c.args.units.now in
    let first : Job g.row.F-Folded.Denot = record { part = part.Node 0; folded = c.args.start } in
    let grown = subst (λ jobs. GrowsBy (IsOf c.args.start (Some (part.Node 0))) jobs c.put_part.new.jobs.items) c.new-jobs.ensures.items c.in_ok-put_part.ensures.grown in
    let way = folding_root onward units first c.put_part.new.jobs.items c.new-results.result.items grown c.new-results.ensures.items in
    let end = subst (λ yes. HasEnded onward units first c.take_jobs.new.results.items yes) c.if-is_read.true (c.in_ok-is_read.ensures first way) in
    folded_root units onward c.args.start c.in-Some.lead (sym c.unit_at.ensures.unit ∙ c.in-Some.is) c.if-lead-ge64.false c.take_jobs.new.results.items end

pub returns-else-is_read : goal.returns-else-is_read
returns-else-is_read g c = λ trie.
    let onward = g.F.KeyFold.onward c.args.fold.now in
    let units = c.args.units.now in
    let first : Job g.row.F-Folded.Denot = record { part = part.Node 0; folded = c.args.start } in
    let grown = subst (λ jobs. GrowsBy (IsOf c.args.start (Some (part.Node 0))) jobs c.put_part.new.jobs.items) c.new-jobs.ensures.items c.in_ok-put_part.ensures.grown in
    let way = folding_root onward units first c.put_part.new.jobs.items c.new-results.result.items grown c.new-results.ensures.items in
    let end = subst (λ yes. HasEnded onward units first c.take_jobs.new.results.items yes) c.if-is_read.false (c.in_ok-is_read.ensures first way) in
    end (readable_root units c.in-Some.lead (sym c.unit_at.ensures.unit ∙ c.in-Some.is) trie)
