use Rattle.collate_merge.specs.Least.{FindsLeast}
use Rattle.collate_merge.specs.Sources.{source_order}
use Rattle.collate_merge.proofs.sources.least.Given as goal

abbrev pub invariant-sources : goal.invariant-sources
invariant-sources g l = FindsLeast (λ source. source.is_done) (source_order l.direction) l.sources l.index l.least
