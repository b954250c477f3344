use Rattle.std.proofs.Common.{sym, arith}
use Rattle.icu_normalizer_core.specs.FormData.{form_meaning}
use Rattle.icu_normalizer.proofs.composed.LoneMarkLemmas.{below_changed, below_joined, below_kept, below_longer, below_other}
use Rattle.icu_normalizer.proofs.composing.lone_mark.composed_below.Goals as goal

pub returns-in_default-compose-clause-form : goal.returns-in_default-compose-clause-form
returns-in_default-compose-clause-form c =
    let told = rw c.in-Two.is at c.reading.ensures in
    below_kept (form_meaning c.args.basis) c.args.letter c.in-Two.first c.in-Two.second c.args.mark told (c.is_steady.ensures c.if-not-is_steady.false) c.requires.0 (omega arith) (omega arith)
    (sym c.in_default-compose.ensures)

pub returns-in-Some-compose-clause-form : goal.returns-in-Some-compose-clause-form
returns-in-Some-compose-clause-form c =
    let told = rw c.in-Two.is at c.reading.ensures in
    below_joined (form_meaning c.args.basis) c.args.letter c.in-Two.first c.in-Two.second c.args.mark told (c.is_steady.ensures c.if-not-is_steady.false) c.requires.0 (omega arith) (omega arith)
    c.in-Some.starter (sym c.in-Some.ensures) c.in-Some-compose.composed (sym c.in-Some-compose.ensures)

pub returns-in-Some-compose-clause-made : goal.returns-in-Some-compose-clause-made
returns-in-Some-compose-clause-made c =
    let told = rw c.in-Two.is at c.reading.ensures in
    below_longer (form_meaning c.args.basis) c.args.letter c.in-Two.first c.in-Two.second c.args.mark told (c.is_steady.ensures c.if-not-is_steady.false) c.requires.0 (omega arith) (omega arith)
    c.keep_promise.ensures.forming c.in-Some.starter (sym c.in-Some.ensures) c.in-Some-compose.composed (sym c.in-Some-compose.ensures)

pub returns-in-None-clause-form : goal.returns-in-None-clause-form
returns-in-None-clause-form c =
    let told = rw c.in-Two.is at c.reading.ensures in
    below_changed (form_meaning c.args.basis) c.args.letter c.in-Two.first c.in-Two.second c.args.mark told (c.is_steady.ensures c.if-not-is_steady.false) c.requires.0 (omega arith) (omega arith)
    c.in-Some.starter (sym c.in-Some.ensures) (sym c.in-None.ensures)

pub returns-in-None-clause-made : goal.returns-in-None-clause-made
returns-in-None-clause-made c =
    let told = rw c.in-Two.is at c.reading.ensures in
    below_other (form_meaning c.args.basis) c.args.letter c.in-Two.first c.in-Two.second c.args.mark told (c.is_steady.ensures c.if-not-is_steady.false) c.requires.0 (omega arith) (omega arith)
    c.keep_promise.ensures.forming c.in-Some.starter (sym c.in-Some.ensures)
