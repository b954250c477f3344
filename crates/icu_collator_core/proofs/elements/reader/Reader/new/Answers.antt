use Rattle.std.proofs.Common.{ℕ, List, sym, ap, length}
use Rattle.std.specs.Option.{is_some}
use Rattle.icu_collator_core.specs.ReadSources.{canonical_by, weights_by}
use Rattle.icu_collator_core.proofs.readings.ReaderLemmas.{nothing_left}
use Rattle.icu_collator_core.proofs.elements.reader.Reader.new.Goals as goal

pub returns-clause-left : goal.returns-clause-left
returns-clause-left c =
    let source = c.args.checked.now in
    nothing_left (canonical_by source) (weights_by c.args.numeric source) (is_some c.args.numeric) c.new-2.result.items 0 c.new.result.items 0
    (sym (ap (λ (l : List ℕ). length l) c.new-2.ensures.items)) (sym (ap (λ (l : List ℕ). length l) c.new.ensures.items))
