-- Decomposed characters on their way out.
use Rattle.std.specs.Prelude.{◌≡◌, ℕ, ◌-◌, List, ◌++◌, take, drop}
use Rattle.smallvec.specs.SmallVec.{small_vec_len}
use Rattle.icu_normalizer_core.specs.Canonical.{Canonical, marks_in_order}
use Rattle.icu_normalizer_core.specs.FormData.{form_meaning}
use Rattle.icu_normalizer_core.specs.declared.decomposition.run.Run.{Run}

-- what the data of a run say of characters
abbrev pub data_of : Run → Canonical
data_of run = form_meaning run.basis

-- what comes out, where `rest` is still to go in
unfoldable pub reordered : Run → List ℕ → List ℕ
reordered run rest = drop run.next (take run.ready run.chars.items) ++ marks_in_order (data_of run).class (drop run.ready run.chars.items ++ rest)

-- how many characters it holds, and how many of them are not ready
abbrev pub held : Run → ℕ
held run = small_vec_len run.chars - run.next

abbrev pub pending : Run → ℕ
pending run = small_vec_len run.chars - run.ready

-- `read` went in and `written` came out
pub record KeepsOutput (old : Run) (read written : List ℕ) (new : Run) : Type 0 where
  pub at : (rest : List ℕ) → reordered old (read ++ rest) ≡ written ++ reordered new rest
