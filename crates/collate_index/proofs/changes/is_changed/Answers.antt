use Rattle.collate_index.proofs.reloading.KnownLemmas.{told_itself}
use Rattle.collate_index.proofs.changes.is_changed.Goals as goal

pub returns : goal.returns
returns c = told_itself c.args.differences.now c.args.c c.changed.result c.changed.ensures c.requires
