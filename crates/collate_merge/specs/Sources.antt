-- readers with the first line that each has left, what was written so far, and what is done with one line
use Rattle.std.specs.Prelude.{◌≡◌, ℕ, ◌+◌, ◌<◌, All, false, true, IfErr, MatchBool, Option, None, Some, Result, OnOk, List, [], ◌∷◌, length, slice_index_or, ⊤}
use Rattle.std.specs.Io.KnownBytes.{Appends}
use Rattle.std.specs.declared.cmp.Ordering.{Ordering}
use Rattle.collate_merge.specs.LineParts.{part_of}
use Rattle.collate_keyed_lines.specs.KeyedLines.{turned}
use Rattle.collate_keyed_lines.specs.declared.direction.Direction.{Direction}
use Rattle.collate_lists.specs.Names.{is_greater}
use Rattle.collate_sort.specs.Keys.{key_by_rule}
use Rattle.collate_merge.specs.KeyOrder.{byte_order}
use Rattle.collate_merge.specs.Lines.{lines_in, reader_inside, separator_of}
use Rattle.collate_merge.specs.Merged.{StartsUpto}
use Rattle.collate_merge.specs.Merges.{GotFirstPart, IsOrdered, IsTrueOf, Merge, merged_text, order_in, ordered_text, text_of}
use Rattle.collate_merge.specs.Sending.{Sends}
use Rattle.collate_merge.specs.Written.{last_behind, written_of}
use Rattle.collate_merge.specs.declared.errors.MergeError.{MergeError}
use Rattle.collate_merge.specs.declared.errors.MergeError.TheVariants.{Read, Unordered, Write}
use Rattle.collate_merge.specs.declared.output.Output.{Output}
use Rattle.collate_merge.specs.declared.sources.Source.{Source}

-- the key of a line
abbrev pub key_in : Merge → List ℕ → List ℕ
key_in m line = key_by_rule m.rule (part_of m.part line)

-- how sources compare by their keys
abbrev pub source_order : {R : Type 0} → Direction → Source R → Source R → Ordering
source_order direction a b = turned direction byte_order a.key.items b.key.items

-- a source whose reader has these bytes left; of all lines so many were read or stand there
pub record IsBehind {R : Type 0} (remaining : R → Option (List ℕ)) (m : Merge) (all : ℕ) (rest : List ℕ) (s : Source R) : Type 0 where
  pub known : remaining (reader_inside s.lines) ≡ Some rest
  pub separator : separator_of s.lines ≡ m.separator
  pub counted : s.count + length (lines_in m.separator rest) ≡ all

-- a source has its line and that line's key, and these lines are left behind it
pub record HasLine {R : Type 0} (remaining : R → Option (List ℕ)) (m : Merge) (all : ℕ) (more : List (List ℕ)) (s : Source R) : Type 0 where
  pub rest : List ℕ
  pub behind : IsBehind remaining m all rest s
  pub more_is : more ≡ lines_in m.separator rest
  pub key_is : s.key.items ≡ key_in m s.line.items

-- of a reader's lines these are left, that of the source first
abbrev pub HasLeft : {R : Type 0} → (R → Option (List ℕ)) → Merge → ℕ → List (List ℕ) → Source R → Type 0
HasLeft remaining m all left s = MatchBool s.is_done (left ≡ []) ((more : List (List ℕ)) × (left ≡ s.line.items ∷ more) × HasLine remaining m all more s)

-- a fault of reading a line at the source of an index
abbrev pub IsOfReading : ℕ → MergeError → Type 0
IsOfReading index (Read reader error) = reader ≡ index
IsOfReading index (Unordered reader line) = ⊥
IsOfReading index (Write error) = ⊥
IsOfReading index _ = ⊤

-- A fault at the source of an index, after x, where these lines are left: if it is that of a line that is below the one before
-- it, the first of them is.
abbrev pub IsFaultAt : Merge → ℕ → List ℕ → List (List ℕ) → ℕ → MergeError → Type 0
IsFaultAt m all x more index (Unordered reader line) =
    (reader ≡ index) × (y : List ℕ) × (later : List (List ℕ)) × (more ≡ y ∷ later) × (is_greater (order_in m x y) ≡ true) × (line + length more ≡ all + 1)
IsFaultAt m all x more index (Read reader error) = reader ≡ index
IsFaultAt m all x more index _ = ⊤

-- what going on from x to the next line did
pub record Advances {R : Type 0} (remaining : R → Option (List ℕ)) (m : Merge) (all : ℕ) (x : List ℕ) (more : List (List ℕ)) (index : ℕ)
    (result : Result (Unit {0}) MergeError) (s : Source R) : Type 0 where
  pub follows : OnOk result (StartsUpto (order_in m) x more)
  pub left : OnOk result (HasLeft remaining m all more s)
  pub fault : IfErr result (IsFaultAt m all x more index)

-- what was written last, where that matters
abbrev pub KeepsLast : Merge → Option (List ℕ) → Output → Type 0
KeepsLast m None output = output.has_last ≡ false
KeepsLast m (Some line) output = (output.has_last ≡ true) × (output.last.items ≡ key_in m line)

-- an output as it is asked for
pub record IsOutput (m : Merge) (last : Option (List ℕ)) (output : Output) : Type 0 where
  pub direction : output.direction ≡ m.rule.direction
  pub unique : output.unique ≡ m.unique
  pub separator : output.separator ≡ m.separator
  pub kept : KeepsLast m last output

-- what writing x, the first line of a source, and going on to the next did
pub record Goes {R : Type 0} (remaining : R → Option (List ℕ)) (m : Merge) (all : ℕ) (x : List ℕ) (more : List (List ℕ)) (last : Option (List ℕ)) (index : ℕ)
    (result : Result (Unit {0}) MergeError) (s : Source R) (output : Output) (old new : Option (List ℕ)) : Type 0 where
  pub sends : Sends result old new (text_of m.separator (written_of m.unique (order_in m) last x))
  pub kept : OnOk result (IsOutput m (last_behind m.unique (order_in m) last x) output)
  pub follows : OnOk result (StartsUpto (order_in m) x more)
  pub left : OnOk result (HasLeft remaining m all more s)
  pub fault : IfErr result (IsFaultAt m all x more index)

-- of each file these lines are left, that of its source first
pub record AreLeft {R : Type 0} (remaining : R → Option (List ℕ)) (m : Merge) (files : List (List ℕ)) (lefts : List (List (List ℕ))) (sources : List (Source R)) : Type 0 where
  pub long : length sources ≡ length files
  pub each : (k : ℕ) (d : Source R) → k < length files
      → HasLeft remaining m (length (lines_in m.separator (slice_index_or files k []))) (slice_index_or lefts k []) (slice_index_or sources k d)

-- what a merge did
pub record Merges (m : Merge) (files : List (List ℕ)) (result : Result (Unit {0}) MergeError) (old new : Option (List ℕ)) : Type 0 where
  pub merged : OnOk result (Appends old new (merged_text m files))
  pub ordered : OnOk result (All (IsOrdered m) files)
  pub first_part : GotFirstPart old new (ordered_text m files)
  pub told : IfErr result (IsTrueOf m files)

-- an output that keeps the key of the last line
pub record KeepsKey (key : List ℕ) (before after : Output) : Type 0 where
  pub direction : after.direction ≡ before.direction
  pub unique : after.unique ≡ before.unique
  pub separator : after.separator ≡ before.separator
  pub has_last : after.has_last ≡ true
  pub last : after.last.items ≡ key
