use Rattle.std.proofs.Common.{arith, ◌++◌, ◌∷◌, [], refl, length, length-append, ◌≢◌, ◌≡◌, ◌+◌}
use Rattle.std.proofs.lemmas.List.Elements.{All-push}
use Rattle.collate_run.specs.Watched.{watched_inner}
use Rattle.collate_run.proofs.bytes.KnownBytesLemmas.{Consumes-then}
use Rattle.collate_run.proofs.lines.CommandLineReadLemmas.{byte-consumed}
use Rattle.collate_run.proofs.run.next_line.Goals as goal

pub returns-then-count-ge-INPUT_LIMIT-clause-bytes : goal.returns-then-count-ge-INPUT_LIMIT-clause-bytes
returns-then-count-ge-INPUT_LIMIT-clause-bytes g c =
    let before = c.bytes.invariant in
    let r = g.R.Read.remaining in (
      c.bytes.bytes.items ++ c.in-Ok-Some.byte ∷ [],
      Consumes-then (r (watched_inner c.args.reader.now)) (r (watched_inner c.bytes.reader)) (r (watched_inner c.read_byte.new.reader))
          c.bytes.bytes.items (c.in-Ok-Some.byte ∷ []) before.taken
          (byte-consumed (r (watched_inner c.bytes.reader)) (r (watched_inner c.read_byte.new.reader)) c.in-Ok-Some.field-0 c.in-Ok-Some.byte c.in-Ok-Some.field-0-is c.in-Ok-Some.ensures.bytes),
      (c.bytes.bytes.items, c.in-Ok-Some.byte, before.unended, refl, omega arith, before.short),
    )

pub returns-then-len-ge-LINE_LIMIT-clause-bytes : goal.returns-then-len-ge-LINE_LIMIT-clause-bytes
returns-then-len-ge-LINE_LIMIT-clause-bytes g c =
    let before = c.bytes.invariant in
    let r = g.R.Read.remaining in
    let more : length (c.bytes.bytes.items ++ c.in-Ok-Some.byte ∷ []) ≡ length c.bytes.bytes.items + 1 = length-append c.bytes.bytes.items (c.in-Ok-Some.byte ∷ []) in (
      c.bytes.bytes.items ++ c.in-Ok-Some.byte ∷ [],
      Consumes-then (r (watched_inner c.args.reader.now)) (r (watched_inner c.bytes.reader)) (r (watched_inner c.read_byte.new.reader))
          c.bytes.bytes.items (c.in-Ok-Some.byte ∷ []) before.taken
          (byte-consumed (r (watched_inner c.bytes.reader)) (r (watched_inner c.read_byte.new.reader)) c.in-Ok-Some.field-0 c.in-Ok-Some.byte c.in-Ok-Some.field-0-is c.in-Ok-Some.ensures.bytes),
      (All-push (λ byte. byte ≢ 10) c.bytes.bytes.items c.in-Ok-Some.byte before.unended (λ e. omega (arith, e)), omega arith, omega arith),
    )
