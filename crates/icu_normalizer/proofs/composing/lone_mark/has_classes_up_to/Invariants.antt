use Rattle.std.proofs.Common.{◌≡◌, ◌≤◌, ◌++◌}
use Rattle.std.specs.List.{AllByRecursion}
use Rattle.icu_normalizer_core.specs.FormData.{form_meaning}
use Rattle.icu_normalizer.proofs.composing.lone_mark.has_classes_up_to.Given as goal

abbrev pub invariant-loop-d : goal.invariant-loop-d
invariant-loop-d l =
    AllByRecursion (λ d. (form_meaning l.fn.basis).class d ≤ l.fn.class) l.yielded
    × (l.yielded ++ l.d-iterator ≡ (form_meaning l.fn.basis).full l.fn.c)
