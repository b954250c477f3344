use Rattle.std.proofs.Common.{◌∙◌, refl, inr, arith, rules, ap, sym}
use Rattle.collate_lines.specs.declared.rule.Rule.TheVariants.{Grammar}
use Rattle.std.proofs.lemmas.Bool.{false≢true}
use Rattle.collate_lines.specs.Lines.{PassesSize, lines_left, lines_of}
use Rattle.collate_records.specs.Files.{RefusesWithin}
use Rattle.collate_records.proofs.reading.ReadingFaultLemmas.{all_sound, none_read, number_small, passes_here, passes_not, past_within, read_whole, refuses_now}
use Rattle.collate_records.proofs.reading.ReadLineLemmas.{next_line, none_left}
use Rattle.collate_records.proofs.reader.read_lines.Goals as goal

pub loop-left-init : goal.loop-left-init
loop-left-init c = record { left = refl; read = c.new-reading.ensures c.args.bytes.now; sound = none_read c.args.limits c.args.bytes.now }

pub returns-then-is_at : goal.returns-then-is_at
returns-then-is_at c =
    refuses_now c.args.limits c.args.bytes.now Grammar c.loop-left.number c.fault.result c.fault.ensures refl
    (inr (passes_here c.args.limits.bytes c.args.bytes.now c.line_past_size-past.result c.loop-left.number c.line_past_size-past.ensures (c.is_at.ensures.0 c.if-is_at.true)))
    c.loop-left.invariant.sound

pub returns-in_err-read_line : goal.returns-in_err-read_line
returns-in_err-read_line c =
    let next = next_line (lines_of c.args.bytes.now) c.loop-left.number c.in-Some.rest.now c.split_line.result.0.now (lines_left c.split_line.result.1) (c.loop-left.invariant.left ∙ ap lines_left c.in-Some.is) c.split_line.ensures in
    let fits : PassesSize c.args.limits.bytes c.args.bytes.now c.loop-left.number → ⊥ = passes_not c.args.limits.bytes c.args.bytes.now c.line_past_size-past.result c.loop-left.number c.line_past_size-past.ensures (λ e. false≢true (sym c.if-is_at.false ∙ c.is_at.ensures.1 e)) in
    let refused : RefusesWithin c.args.limits c.args.bytes.now c.in_err-read_line.field-0.0 = c.in_err-read_line.ensures c.args.limits c.args.bytes.now next.within next.here fits c.loop-left.invariant.read c.loop-left.invariant.sound in
    search (rules, refused)

pub overflow_add-number : goal.overflow_add-number
overflow_add-number c =
    let here : PassesSize c.args.limits.bytes c.args.bytes.now c.loop-left.number = passes_here c.args.limits.bytes c.args.bytes.now c.line_past_size-past.result c.loop-left.number c.line_past_size-past.ensures (c.is_at.ensures.0 c.if-is_at.true) in
    omega (arith, number_small c.args.bytes.now c.loop-left.number (past_within c.args.limits.bytes c.args.bytes.now c.loop-left.number here))

pub overflow_add-number-in-Some : goal.overflow_add-number-in-Some
overflow_add-number-in-Some c =
    let next = next_line (lines_of c.args.bytes.now) c.loop-left.number c.in-Some.rest.now c.split_line.result.0.now (lines_left c.split_line.result.1) (c.loop-left.invariant.left ∙ ap lines_left c.in-Some.is) c.split_line.ensures in
    omega (arith, number_small c.args.bytes.now c.loop-left.number next.within)

pub read_line-requires : goal.read_line-requires
read_line-requires c =
    let next = next_line (lines_of c.args.bytes.now) c.loop-left.number c.in-Some.rest.now c.split_line.result.0.now (lines_left c.split_line.result.1) (c.loop-left.invariant.left ∙ ap lines_left c.in-Some.is) c.split_line.ensures in
    omega (arith, number_small c.args.bytes.now c.loop-left.number next.within)

pub loop-left-preserved : goal.loop-left-preserved
loop-left-preserved c =
    let next = next_line (lines_of c.args.bytes.now) c.loop-left.number c.in-Some.rest.now c.split_line.result.0.now (lines_left c.split_line.result.1) (c.loop-left.invariant.left ∙ ap lines_left c.in-Some.is) c.split_line.ensures in
    let fits : PassesSize c.args.limits.bytes c.args.bytes.now c.loop-left.number → ⊥ = passes_not c.args.limits.bytes c.args.bytes.now c.line_past_size-past.result c.loop-left.number c.line_past_size-past.ensures (λ e. false≢true (sym c.if-is_at.false ∙ c.is_at.ensures.1 e)) in
    let read = c.in_ok-read_line.ensures c.args.limits c.args.bytes.now next.within next.here fits c.loop-left.invariant.read c.loop-left.invariant.sound in
    record { left = next.left; read = read.0; sound = read.1 }

pub returns : goal.returns
returns c =
    let past = none_left (lines_of c.args.bytes.now) c.loop-left.number (c.loop-left.invariant.left ∙ ap lines_left c.in_default.is) in
    (all_sound c.args.limits c.args.bytes.now c.loop-left.number past c.loop-left.invariant.sound, read_whole c.args.bytes.now c.loop-left.number c.loop-left.reading past c.loop-left.invariant.read)
