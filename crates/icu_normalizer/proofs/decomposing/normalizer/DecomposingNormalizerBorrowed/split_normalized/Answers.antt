use Rattle.icu_normalizer_core.specs.Canonical.{decomposed}
use Rattle.icu_normalizer.specs.Normalizers.{normalizer_data, normalizer_bound}
use Rattle.icu_normalizer.proofs.passed.FormTextLemmas.{str_empty, str_far}
use Rattle.icu_normalizer.proofs.decomposing.normalizer.DecomposingNormalizerBorrowed.split_normalized.Goals as goal

pub returns-clause-empty : goal.returns-clause-empty
returns-clause-empty c = str_empty (decomposed (normalizer_data c.args.self.now)) c.args.text.now _ c.utf8.text c.split.ensures.empty

pub returns-clause-far : goal.returns-clause-far
returns-clause-far c = str_far (decomposed (normalizer_data c.args.self.now)) (normalizer_bound c.args.self.now) c.args.text.now _ c.utf8.text c.split.ensures.far
