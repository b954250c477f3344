use Rattle.std.proofs.Common.{◌<◌, List, [], ◌∷◌, ◌++◌, length, map, take, sym, ◌∙◌, arith, subst}
use Rattle.std.proofs.lemmas.List.{length-map}
use Rattle.std.proofs.lemmas.Bool.{false≢true}
use Rattle.collate_lines.specs.declared.record.Record.{Record as Line}
use Rattle.collate_lines.specs.Record.{said}
use Rattle.collate_rules.specs.Limits.{AreCounted}
use Rattle.collate_rules.proofs.offenders.LimitLemmas.{within_none, small_at, over_at, within_more}
use Rattle.collate_rules.proofs.limit.first_over_limit.Goals as goal

pub loop-i-init : goal.loop-i-init
loop-i-init c = within_none c.args.limits (map said c.args.records.now) c.new-counts.result (c.new-counts.ensures (map said c.args.records.now))

pub add-requires : goal.add-requires
add-requires c =
    let fits : length c.args.records.now < 0x10000000000000000 = omega arith in
    small_at c.args.limits c.args.records.now c.loop-i.i c.loop-i.counts c.loop-i-test.true fits c.loop-i.invariant

pub returns-then-pass : goal.returns-then-pass
returns-then-pass c =
    let lines = c.args.records.now in
    let front = take c.loop-i.i (map said lines) in
    let x = c.index-records-i.result in
    let more = c.in_ok-add.ensures.counted front (subst (λ (ls : List Line). AreCounted (map said ls) front c.loop-i.counts) (sym c.in_ok-mapped.ensures) c.loop-i.invariant.counted) in
    let counted = subst (λ (ls : List Line). AreCounted (map said ls) (front ++ said x ∷ []) c.add.new.self) c.in_ok-mapped.ensures more in (
      omega (arith, length-map lines said),
      over_at c.args.limits lines c.loop-i.i x c.loop-i-test.true c.index-records-i.is c.add.new.self counted (c.pass.ensures.0 c.if-pass.true),
      c.loop-i.invariant.before,
    )

pub loop-i-preserved : goal.loop-i-preserved
loop-i-preserved c =
    let lines = c.args.records.now in
    let front = take c.loop-i.i (map said lines) in
    let x = c.index-records-i.result in
    let more = c.in_ok-add.ensures.counted front (subst (λ (ls : List Line). AreCounted (map said ls) front c.loop-i.counts) (sym c.in_ok-mapped.ensures) c.loop-i.invariant.counted) in
    let counted = subst (λ (ls : List Line). AreCounted (map said ls) (front ++ said x ∷ []) c.add.new.self) c.in_ok-mapped.ensures more in
    within_more c.args.limits lines c.loop-i.i x c.loop-i-test.true c.index-records-i.is c.add.new.self counted c.loop-i.counts c.loop-i.invariant
    (λ over. absurd (false≢true (sym c.if-pass.false ∙ c.pass.ensures.1 over)))

pub returns : goal.returns
returns c = λ i lt over. c.loop-i.invariant.before i (omega (arith, length-map c.args.records.now said, c.loop-i-test.false)) over
