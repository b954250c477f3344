use Rattle.std.proofs.Common.{◌≡◌, ℕ, List, length}
use Rattle.collate_merge.specs.Merges.{HaveLeft, Merge}
use Rattle.collate_merge.proofs.OpenLemmas.{AreOpened}
use Rattle.collate_merge.proofs.merge.open_all.Given as goal

abbrev pub invariant-loop-reader : goal.invariant-loop-reader
invariant-loop-reader g l = record {
  long : length l.sources.items ≡ length l.yielded;
  opened : (m : Merge) (files : List (List ℕ)) → (m.rule ≡ l.order) × (m.part ≡ l.part) × (m.separator ≡ l.separator) → HaveLeft g.R.Read.remaining l.fn.readers.items files
      → AreOpened g.R.Read.remaining m files (length l.yielded) l.sources.items;
}
