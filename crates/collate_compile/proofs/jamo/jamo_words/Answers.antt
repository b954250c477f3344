use Rattle.std.proofs.Common.{◌≡◌, ℕ, ◌+◌, ◌<◌, List, length, map, subst, sym, arith, rules}
use Rattle.std.specs.Prelude.{IfOk, Ok, Err, Result, slice_index}
use Rattle.collate_lines.specs.Record.{Record, said}
use Rattle.collate_compile.specs.Compiled.{AreJamoOf, IsJamoWord}
use Rattle.collate_compile.proofs.jamo.jamo_words.Goals as goal

table : {E : Type 0} (records : List Record) (words : List ℕ) (r : Result (List ℕ) E) → length words ≡ 256
    → ((i : ℕ) → i < length words → IsJamoWord records (0x1100 + i) (slice_index words i))
    → IfOk r (λ packed. packed ≡ words) → IfOk r (AreJamoOf records)
table records words (Ok packed) count each same =
    subst (AreJamoOf records) (sym same) (record { count = count; each = λ i within. each i (omega (arith, count, within)) })
table records words (Err e) count each same = tt

pub returns : goal.returns
returns c =
    table (map said c.args.noted.now.lines.now) c.as_slice.result.now c.from_slice.result (omega arith) (search rules) c.from_slice.ensures
