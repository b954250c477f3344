use Rattle.std.proofs.Common.{◌≡◌, ℕ, ◌+◌, ◌<◌, length, map}
use Rattle.std.specs.Prelude.{slice_index}
use Rattle.collate_lines.specs.Record.{said}
use Rattle.collate_compile.specs.Compiled.{IsJamoWord}
use Rattle.collate_compile.proofs.jamo.jamo_words.Given as goal

abbrev pub invariant-loop-code : goal.invariant-loop-code
invariant-loop-code l =
    (length l.words.items + 0x1100 ≡ l.code) × ((i : ℕ) → i < length l.words.items → IsJamoWord (map said l.noted.lines.now) (0x1100 + i) (slice_index l.words.items i))
