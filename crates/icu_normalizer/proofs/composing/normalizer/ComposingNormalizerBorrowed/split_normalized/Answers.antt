use Rattle.icu_normalizer_core.specs.Canonical.{composed}
use Rattle.icu_normalizer.specs.Normalizers.{composing_data}
use Rattle.icu_normalizer.proofs.passed.FormTextLemmas.{str_empty, str_far}
use Rattle.icu_normalizer.proofs.composing.normalizer.ComposingNormalizerBorrowed.split_normalized.Goals as goal

pub returns-clause-empty : goal.returns-clause-empty
returns-clause-empty c = str_empty (composed (composing_data c.args.self.now)) c.args.text.now _ c.utf8.text c.in_ok-parts.ensures.empty

pub returns-clause-far : goal.returns-clause-far
returns-clause-far c = str_far (composed (composing_data c.args.self.now)) 0x300 c.args.text.now _ c.utf8.text c.in_ok-parts.ensures.far
