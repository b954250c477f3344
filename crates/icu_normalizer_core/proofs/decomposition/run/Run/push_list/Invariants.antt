use Rattle.std.proofs.Common.{◌≡◌, ◌+◌, ◌≤◌, [], ◌++◌, length}
use Rattle.icu_normalizer_core.specs.Run.{held, data_of, KeepsOutput}
use Rattle.icu_normalizer_core.proofs.decomposition.run.Run.push_list.Given as goal

abbrev pub invariant-loop-d : goal.invariant-loop-d
invariant-loop-d l =
    KeepsOutput l.initial.self l.yielded [] l.self
    × (held l.self ≤ held l.initial.self + length l.yielded)
    × (data_of l.self ≡ data_of l.initial.self)
    × (l.yielded ++ l.d-iterator ≡ (data_of l.initial.self).full l.fn.c)
