use Rattle.std.proofs.Common.{◌≡◌, ap, subst, sym, arith}
use Rattle.icu_char16trie.specs.KeyFolds.{GrowsBy, weight}
use Rattle.icu_char16trie.specs.declared.reader.folds.Job.{Job}
use Rattle.icu_char16trie.proofs.Reading.FoldLemmas.{put_new, weight_inserted}
use Rattle.icu_char16trie.proofs.reader.folds.put_job.Goals as goal

pub returns-in_ok-insert-in-Some-clause-grown : goal.returns-in_ok-insert-in-Some-clause-grown
returns-in_ok-insert-in-Some-clause-grown g c =
    subst (λ items. GrowsBy (λ (other : Job g.row.F-Folded.Denot). other ≡ c.args.job) c.args.jobs.now.items items) (sym c.in_ok-insert-in-Some.ensures.items)
    (put_new c.args.jobs.now.items c.in-Some.at c.args.job)

pub returns-in_ok-insert-in-Some-clause-weight : goal.returns-in_ok-insert-in-Some-clause-weight
returns-in_ok-insert-in-Some-clause-weight g c = λ size.
    let e = weight_inserted size c.in-Some.at c.args.job c.args.jobs.now.items in
    let f = ap (λ jobs. weight size jobs) c.in_ok-insert-in-Some.ensures.items in
    omega (arith, e, f)
