-- The last starter of decomposed characters, and the marks after it.
use Rattle.std.specs.Prelude.{◌≡◌, ℕ, ◌+◌, ◌-◌, false, List, [], ◌++◌, length, drop, Option, Some, None, option_to_list, if◌then◌else◌}
use Rattle.smallvec.specs.SmallVec.{small_vec_len}
use Rattle.icu_normalizer_core.specs.Canonical.{Canonical, composing, recomposed}
use Rattle.icu_normalizer_core.specs.FormData.{form_meaning}
use Rattle.icu_normalizer.specs.declared.composing.composer.Composer.{Composer}

-- what the data of a composer say of characters
abbrev pub data_of : Composer → Canonical
data_of composer = form_meaning composer.basis

-- the composed list from the last starter on, if there is one
abbrev pub composing_from : Canonical → Option ℕ → List ℕ → List ℕ → List ℕ
composing_from canonical None marks rest = recomposed canonical rest
composing_from canonical (Some starter) marks rest = composing canonical starter marks rest

-- what comes out, where `rest` is still to go in
unfoldable pub coming : Composer → List ℕ → List ℕ
coming composer rest =
    if composer.leaving
    then drop composer.next composer.marks.items ++ composing_from (data_of composer) composer.starter [] rest
    else composing_from (data_of composer) composer.starter composer.marks.items rest

-- how many characters it holds
abbrev pub waiting : Composer → ℕ
waiting composer = (small_vec_len composer.marks - composer.next) + length (option_to_list composer.starter)

-- it holds nothing
pub record IsIdle (composer : Composer) : Type 0 where
  pub composing : composer.leaving ≡ false
  pub alone : composer.starter ≡ None
  pub empty : waiting composer ≡ 0

-- `read` went in and `written` came out
pub record KeepsComposed (old : Composer) (read written : List ℕ) (new : Composer) : Type 0 where
  pub at : (rest : List ℕ) → coming old (read ++ rest) ≡ written ++ coming new rest
