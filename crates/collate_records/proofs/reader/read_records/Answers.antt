use Rattle.std.proofs.Common.{ap, arith, rules, length}
use Rattle.std.proofs.lemmas.List.{length-map}
use Rattle.collate_lines.specs.Record.{said}
use Rattle.collate_records.specs.Files.{RefusesWithin}
use Rattle.collate_records.proofs.reading.ReadingFaultLemmas.{accepted, many_read, of_read}
use Rattle.collate_records.proofs.reader.read_records.Goals as goal

pub keep_rules-requires : goal.keep_rules-requires
keep_rules-requires c =
    omega (arith, many_read c.args.bytes.now _ _ c.in_ok-reading.ensures.1, length-map c.in_ok-reading.reading.records.items said, ap length c.deref.ensures.value, ap length c.deref-2.ensures.value)

pub returns-in_err-keep_rules : goal.returns-in_err-keep_rules
returns-in_err-keep_rules c =
    let of = of_read c.args.bytes.now c.in_ok-reading.reading.records.items c.deref.result.now c.in_ok-reading.reading.numbers.items c.deref-2.result.now c.deref.ensures.value c.deref-2.ensures.value c.in_ok-reading.ensures.1 in
    let refused : RefusesWithin c.args.limits c.args.bytes.now c.in_err-keep_rules.field-0.0 = c.in_err-keep_rules.ensures c.args.bytes.now of c.in_ok-reading.ensures.0 in
    search (rules, refused)

pub returns : goal.returns
returns c =
    let of = of_read c.args.bytes.now c.in_ok-reading.reading.records.items c.deref.result.now c.in_ok-reading.reading.numbers.items c.deref-2.result.now c.deref.ensures.value c.deref-2.ensures.value c.in_ok-reading.ensures.1 in
    (accepted c.args.limits c.args.bytes.now (c.in_ok-keep_rules.ensures c.args.bytes.now of c.in_ok-reading.ensures.0), c.in_ok-reading.ensures.1.same_records)
