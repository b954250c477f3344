use Rattle.std.proofs.Common.{inl, inr, refl}
use Rattle.icu_collator.proofs.compare.fronts.later_boundary.Goals as goal

pub returns-then-begins_apart : goal.returns-then-begins_apart
returns-then-begins_apart g c = inl (refl, c.begins_apart.ensures c.if-begins_apart.true)

pub returns : goal.returns
returns g c = inr refl
