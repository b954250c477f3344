use Rattle.std.proofs.Common.{◌≡◌, ◌≤◌, false}
use Rattle.icu_normalizer_core.specs.Run.{held}
use Rattle.icu_normalizer.specs.ClusterForm.{IsBegun, form_data, form_left, form_size}
use Rattle.icu_normalizer.proofs.composing.cluster_form.ClusterForm.next.Given as goal

abbrev pub invariant-loop-c : goal.invariant-loop-c
invariant-loop-c l =
    (form_left l.fn.self ≡ form_left l.self)
    × (l.self.composer.leaving ≡ false)
    × (form_size l.self ≤ form_size l.fn.self)
    × IsBegun l.self
    × (form_data l.self ≡ form_data l.fn.self)

abbrev pub decreases-loop-c : goal.decreases-loop-c
decreases-loop-c l = held l.self.run
