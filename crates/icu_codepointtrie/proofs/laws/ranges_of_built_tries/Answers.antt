use Rattle.icu_codepointtrie.proofs.walks.MaximalRangeLemmas.{maximal_walk}
use Rattle.icu_codepointtrie.proofs.laws.ranges_of_built_tries.Goals as goal

pub returns : goal.returns
returns g c = λ map start end ranges. maximal_walk map start end ranges
