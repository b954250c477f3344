use Rattle.std.proofs.Common.{length, ap, arith}
use Rattle.icu_char16trie.specs.WrittenUnits.{keyed}
use Rattle.icu_char16trie.proofs.Writing.KeyFaultLemmas.{can_write, total_few, writes_some, keyed_length, keyed_room}
use Rattle.icu_char16trie.proofs.writer.write_units.Goals as goal

pub write_pairs-requires-clause-sorted : goal.write_pairs-requires-clause-sorted
write_pairs-requires-clause-sorted c =
    (can_write c.args.pairs.now (c.in_default.ensures, total_few (keyed c.args.pairs.now) c.is_too_large.result c.is_too_large.ensures c.if-is_too_large.false)).sorted

pub write_pairs-requires-clause-fits : goal.write_pairs-requires-clause-fits
write_pairs-requires-clause-fits c =
    (can_write c.args.pairs.now (c.in_default.ensures, total_few (keyed c.args.pairs.now) c.is_too_large.result c.is_too_large.ensures c.if-is_too_large.false)).fits

pub returns-clause-entries : goal.returns-clause-entries
returns-clause-entries c =
    let can = can_write c.args.pairs.now (c.in_default.ensures, total_few (keyed c.args.pairs.now) c.is_too_large.result c.is_too_large.ensures c.if-is_too_large.false) in
    (writes_some _ c.into_units.result.items c.args.pairs.now c.in_ok-out.ensures.lays can.longer c.into_units.ensures).entries

pub returns-clause-followed : goal.returns-clause-followed
returns-clause-followed c =
    let can = can_write c.args.pairs.now (c.in_default.ensures, total_few (keyed c.args.pairs.now) c.is_too_large.result c.is_too_large.ensures c.if-is_too_large.false) in
    (writes_some _ c.into_units.result.items c.args.pairs.now c.in_ok-out.ensures.lays can.longer c.into_units.ensures).followed

pub returns-clause-whole : goal.returns-clause-whole
returns-clause-whole c =
    let can = can_write c.args.pairs.now (c.in_default.ensures, total_few (keyed c.args.pairs.now) c.is_too_large.result c.is_too_large.ensures c.if-is_too_large.false) in
    let writes = writes_some _ c.into_units.result.items c.args.pairs.now c.in_ok-out.ensures.lays can.longer c.into_units.ensures in
    λ some. let l = keyed_length c.args.pairs.now in writes.whole (omega (arith, some, l))

pub returns-clause-whole_start : goal.returns-clause-whole_start
returns-clause-whole_start c =
    let can = can_write c.args.pairs.now (c.in_default.ensures, total_few (keyed c.args.pairs.now) c.is_too_large.result c.is_too_large.ensures c.if-is_too_large.false) in
    let writes = writes_some _ c.into_units.result.items c.args.pairs.now c.in_ok-out.ensures.lays can.longer c.into_units.ensures in
    λ some. let l = keyed_length c.args.pairs.now in writes.whole_start (omega (arith, some, l))

pub returns-clause-grammar : goal.returns-clause-grammar
returns-clause-grammar c =
    let can = can_write c.args.pairs.now (c.in_default.ensures, total_few (keyed c.args.pairs.now) c.is_too_large.result c.is_too_large.ensures c.if-is_too_large.false) in
    (writes_some _ c.into_units.result.items c.args.pairs.now c.in_ok-out.ensures.lays can.longer c.into_units.ensures).grammar

pub returns-clause-size : goal.returns-clause-size
returns-clause-size c =
    let written = c.in_ok-out.ensures.room in
    let units = ap length c.into_units.ensures in
    let bound = keyed_room c.args.pairs.now in
    omega (arith, written, units, bound)
