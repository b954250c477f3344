use Rattle.std.proofs.Common.{refl, sym, map, take, ◌∙◌, arith}
use Rattle.std.proofs.lemmas.List.{length-map}
use Rattle.collate_lines.specs.Record.{said}
use Rattle.collate_rules.proofs.offenders.OffenderPairLemmas.{repeats_at, none_more}
use Rattle.collate_mapping_rules.proofs.mappings.ComposedPairLemmas.{composed_none, composed_to}
use Rattle.collate_mapping_rules.proofs.pairs.first_repeated_pair.Goals as goal

pub loop-i-init : goal.loop-i-init
loop-i-init c = record {
  noted = composed_none c.new-pairs.result c.new-pairs.ensures.empty;
  none = λ k below. absurd (omega arith);
}

pub returns-then-is_repeated : goal.returns-then-is_repeated
returns-then-is_repeated c =
    let within = c.loop-i-test.true in (
      omega (arith, length-map c.args.records.now said),
      sym (repeats_at c.args.records.now _ c.loop-i.i _ within c.index-records-i.is refl)
          ∙ sym (c.in_ok-is_repeated.ensures.told (map said (take c.loop-i.i c.args.records.now)) c.loop-i.invariant.noted) ∙ c.if-is_repeated.true,
      c.loop-i.invariant.none,
    )

pub loop-i-preserved : goal.loop-i-preserved
loop-i-preserved c = record {
  noted = composed_to _ c.args.records.now c.loop-i.i _ c.loop-i-test.true c.index-records-i.is
      (c.in_ok-is_repeated.ensures.noted (map said (take c.loop-i.i c.args.records.now)) c.loop-i.invariant.noted);
  none = none_more c.args.records.now _ c.loop-i.i _ c.in_ok-is_repeated.is_repeated c.loop-i-test.true c.index-records-i.is refl
      (c.in_ok-is_repeated.ensures.told (map said (take c.loop-i.i c.args.records.now)) c.loop-i.invariant.noted) c.if-is_repeated.false c.loop-i.invariant.none;
}

pub returns : goal.returns
returns c = λ k below. c.loop-i.invariant.none k (omega (arith, length-map c.args.records.now said))
