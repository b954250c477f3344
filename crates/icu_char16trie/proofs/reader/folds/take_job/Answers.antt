use Rattle.std.proofs.Common.{◌∙◌, sym}
use Rattle.icu_char16trie.proofs.Reading.FoldLemmas.{taken_up}
use Rattle.icu_char16trie.proofs.reader.folds.take_job.Goals as goal

pub returns : goal.returns
returns g c = (
  c.in-Ok.step,
  taken_up (g.F.KeyFold.onward c.args.fold.now) c.args.units.now c.args.job c.in-Ok.step c.folded_on-longer.result
      c.args.jobs.now.items c.put_part.new.jobs.items c.put_part-2.new.jobs.items c.args.results.now.items c.note.new.results.items
      (sym c.part_step.ensures ∙ c.in-Ok.is) c.folded_on-longer.ensures c.in_ok-note.ensures
      c.in_ok-put_part.ensures.grown c.in_ok-put_part-2.ensures.grown c.in_ok-put_part.ensures.weight c.in_ok-put_part-2.ensures.weight,
)
