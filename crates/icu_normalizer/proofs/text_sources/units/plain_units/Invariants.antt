use Rattle.std.proofs.Common.{ℕ, ◌<◌, get_or}
use Rattle.icu_normalizer.proofs.text_sources.units.plain_units.Given as goal

abbrev pub invariant-loop-index : goal.invariant-loop-index
invariant-loop-index l = (k : ℕ) → k < l.index → get_or l.units k 0 < 0x80
