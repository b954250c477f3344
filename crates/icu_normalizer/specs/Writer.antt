-- Decomposed text on its way to a sink.
use Rattle.std.specs.Prelude.{◌≡◌, ℕ, ◌≤◌, List, ◌++◌, true, take}
use Rattle.icu_normalizer_core.specs.Canonical.{Canonical, marks_in_order}
use Rattle.icu_normalizer_core.specs.FormData.{form_meaning}
use Rattle.icu_normalizer.specs.declared.decomposing.writer.Writer.{Writer}
use Rattle.icu_normalizer.specs.declared.form_notes.FormNote.{FormNote}
use Rattle.icu_normalizer.specs.FormNotes.{noted_list}
use Rattle.icu_normalizer.specs.Marks.{stands_to}
use Rattle.icu_normalizer.specs.Sinks.{AddsPrefix}

-- what the data of a writer say of characters
abbrev pub writer_data : Writer → Canonical
writer_data writer = form_meaning writer.basis

-- the marks that it holds, as they came
abbrev pub held : Writer → List ℕ
held writer = take writer.count writer.few ++ writer.more.items

-- the units that are still to be written, where `rest` is still to go in
unfoldable pub due : (List ℕ → List ℕ) → Writer → List ℕ → List ℕ
due encode writer rest = encode (marks_in_order (writer_data writer).class (held writer ++ rest))

-- a part of these units was added, and `left` is still to be
pub record AddsFront (old units left new : List ℕ) : Type 0 where
  pub written : List ℕ
  pub whole : units ≡ written ++ left
  pub holds : new ≡ old ++ written

-- `read` went in: of what was due, what the sink held `before` and holds `after` was written
pub record Writes (encode : List ℕ → List ℕ) (old : Writer) (read before after : List ℕ) (new : Writer) : Type 0 where
  pub at : (rest : List ℕ) → AddsFront before (due encode old (read ++ rest)) (due encode new rest) after

-- the same, but the sink took a part alone
pub record WritesPart (encode : List ℕ → List ℕ) (old : Writer) (read before after : List ℕ) : Type 0 where
  pub at : (rest : List ℕ) → AddsPrefix before (due encode old (read ++ rest)) after

-- `read` went in, and nothing came out
pub record KeepsDue (old : Writer) (read : List ℕ) (new : Writer) : Type 0 where
  pub at : (rest : List ℕ) → marks_in_order (writer_data new).class (held new ++ rest) ≡ marks_in_order (writer_data old).class (held old ++ (read ++ rest))

-- what is noted of a character fits after what is held
pub record Fits (writer : Writer) (c : ℕ) (note : FormNote) : Type 0 where
  pub room : writer.count ≤ 61
  pub within : note.len ≤ 3
  pub full_is : (writer_data writer).full c ≡ noted_list note
  pub stands : stands_to (writer_data writer).class writer.last note.class (noted_list note) ≡ true
