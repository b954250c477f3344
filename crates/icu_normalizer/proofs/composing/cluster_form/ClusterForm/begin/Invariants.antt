use Rattle.std.proofs.Common.{◌≡◌, ℕ, ◌<◌, List, ◌++◌, length, flat_map}
use Rattle.icu_normalizer_core.specs.Canonical.{decomposed}
use Rattle.icu_normalizer_core.specs.Run.{reordered}
use Rattle.icu_normalizer.specs.ClusterForm.{form_data}
use Rattle.icu_normalizer.specs.Composer.{IsIdle}
use Rattle.icu_normalizer.proofs.composing.cluster_form.ClusterForm.begin.Given as goal

abbrev pub invariant-chars : goal.invariant-chars
invariant-chars g l =
    (seen : List ℕ) × (0 < length seen) × ((g.T.Text.spelled l.fn.text).characters ≡ seen ++ (g.T.Text.spelled l.rest).characters)
    × ((xs : List ℕ) → reordered l.self.run (flat_map (form_data l.fn.self).full xs) ≡ decomposed (form_data l.fn.self) (seen ++ xs))
    × (form_data l.self ≡ form_data l.fn.self)
    × IsIdle l.self.composer

abbrev pub decreases-chars : goal.decreases-chars
decreases-chars g l = length (g.T.Text.spelled l.rest).characters
