use Rattle.std.proofs.Common.{◌≡◌, ◌-◌}
use Rattle.smallvec.specs.SmallVec.{small_vec_len}
use Rattle.icu_collator_core.specs.Readers.{HasEnded, ReadsOn, elements_left}
use Rattle.icu_collator_core.proofs.elements.reader.Reader.fill.Given as goal

abbrev pub invariant-reading : goal.invariant-reading
invariant-reading l =
    record {
      same : ReadsOn l.initial.self l.self;
      left : elements_left l.self ≡ elements_left l.initial.self;
      stays : HasEnded l.initial.self → HasEnded l.self;
    }

abbrev pub decreases-reading : goal.decreases-reading
decreases-reading l = small_vec_len l.self.list - l.self.index
