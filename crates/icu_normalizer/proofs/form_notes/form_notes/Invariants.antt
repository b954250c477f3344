use Rattle.std.proofs.Common.{◌≡◌, length}
use Rattle.icu_normalizer_core.specs.FormData.{form_meaning}
use Rattle.icu_normalizer.specs.FormNotes.{AreLow}
use Rattle.icu_normalizer.proofs.form_notes.form_notes.Given as goal

abbrev pub invariant-loop-code : goal.invariant-loop-code
invariant-loop-code l = record {
  count : length l.low.items ≡ l.code;
  notes : AreLow (form_meaning l.basis) l.low.items;
}
