-- What is left of the composed list of a cluster.
use Rattle.std.specs.Prelude.{◌≡◌, ℕ, ◌+◌, List, []}
use Rattle.icu_normalizer_core.specs.Canonical.{Canonical}
use Rattle.icu_normalizer_core.specs.FormData.{form_meaning}
use Rattle.icu_normalizer_core.specs.Run.{reordered, held, pending}
use Rattle.icu_normalizer.specs.declared.composing.cluster_form.ClusterForm.{ClusterForm}
use Rattle.icu_normalizer.specs.Composer.{IsIdle, coming, waiting}

-- what its data say of characters
abbrev pub form_data : ClusterForm → Canonical
form_data form = form_meaning form.composer.basis

-- the characters that are left
abbrev pub form_left : ClusterForm → List ℕ
form_left form = coming form.composer (reordered form.run [])

-- how many characters it holds
abbrev pub form_size : ClusterForm → ℕ
form_size form = waiting form.composer + held form.run

-- no cluster was read
abbrev pub IsFresh : ClusterForm → Type 0
IsFresh form = (held form.run ≡ 0) × IsIdle form.composer

-- the cluster was read, and its marks are in order
abbrev pub IsBegun : ClusterForm → Type 0
IsBegun form = pending form.run ≡ 0
