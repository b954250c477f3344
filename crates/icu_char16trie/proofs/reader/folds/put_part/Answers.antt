use Rattle.icu_char16trie.proofs.Reading.FoldLemmas.{put_some}
use Rattle.icu_char16trie.proofs.reader.folds.put_part.Goals as goal

pub returns-clause-grown : goal.returns-clause-grown
returns-clause-grown g c =
    put_some c.args.folded c.args.part c.in-Some.part c.args.jobs.now.items c.put_job.new.jobs.items c.in-Some.is c.in_ok-put_job.ensures.grown
