use Rattle.std.proofs.Common.{ℕ, List, sym, ap, length}
use Rattle.std.specs.Option.{is_some}
use Rattle.icu_collator_core.specs.ReadSources.{canonical_by, weights_by}
use Rattle.icu_collator_core.proofs.readings.ReaderLemmas.{nothing_left}
use Rattle.icu_collator_core.proofs.elements.reader.Reader.stop.Goals as goal

pub returns-clause-left : goal.returns-clause-left
returns-clause-left c =
    let self = c.args.self.now in
    let source = self.checked.now in
    nothing_left (canonical_by source) (weights_by self.numeric source) (is_some self.numeric) c.clear.new.self.items 0 self.list.items c.len-self.result
    (sym (ap (λ (l : List ℕ). length l) c.clear.ensures.items)) c.len-self.ensures.value
