use Rattle.std.proofs.Common.{◌≡◌, ◌<◌, ◌∷◌, ◌∙◌, [], ap, sym, subst, arith, drop, length}
use Rattle.std.proofs.lemmas.Bool.{OnFalse_at, OnTrue_at}
use lib.Utf8.{scalars}
use Rattle.icu_normalizer_core.specs.BorrowedMeaning.{borrowed_meaning}
use Rattle.icu_collator_core.specs.declared.reading.joining.OpenText.{OpenText}
use Rattle.icu_collator_core.specs.declared.reading.joining.TextMatch.{TextMatch}
use Rattle.icu_collator_core.specs.Elements.{joining, placed}
use Rattle.icu_collator_core.specs.JoinedTexts.{HasReadMark, IsFoundAs}
use Rattle.icu_collator_core.specs.ReadWords.{table_word}
use Rattle.icu_collator_core.specs.TableMeaning.{pools_of}
use Rattle.icu_collator_core.proofs.lookups.JoinedTextLemmas.{found_at_end, found_at_starter}
use Rattle.icu_collator_core.proofs.lookups.OpenTextLemmas.{nothing_joined, nothing_moved}
use Rattle.icu_collator_core.proofs.reading.joining.join_marks.Goals as goal

abbrev match_of : OpenText → TextMatch
match_of text = record { word = text.word; next = text.next }

pub loop-index-init : goal.loop-index-init
loop-index-init c =
    let canonical = borrowed_meaning c.args.canonical in
    record {
      moved = nothing_moved canonical.class c.args.list.now c.args.first c.requires.inside c.requires.none;
      joined =
          λ weights d suffix said suffixed stands word spelled ok.
          nothing_joined canonical weights (table_word c.args.entry) d suffix c.args.list.now c.args.first stands spelled word;
    }

pub loop-index-preserved : goal.loop-index-preserved
loop-index-preserved c =
    let invariant = c.loop-index.invariant in
    let first = c.args.first in
    let old = c.args.list.now in
    let read : HasReadMark (borrowed_meaning c.args.canonical) (table_word c.args.entry) c.loop-index.index c.loop-index.list c.loop-index.text c.meets_mark.new.list c.meets_mark.new.self =
    OnTrue_at c.if-not-meets_mark.false c.meets_mark.ensures.mark in
    record {
      moved = read.moved first.next old invariant.moved;
      joined =
          λ weights d suffix said suffixed stands word spelled ok.
          read.joined weights d suffix first.next old said suffixed ok invariant.moved
          (invariant.joined weights d suffix said suffixed stands word spelled ok);
    }

pub returns-then-not-meets_mark-clause-found : goal.returns-then-not-meets_mark-clause-found
returns-then-not-meets_mark-clause-found c = λ weights d suffix said suffixed stands word spelled ok.
    let canonical = borrowed_meaning c.args.canonical in
    let entry = table_word c.args.entry in
    let invariant = c.loop-index.invariant in
    let first = c.args.first in
    let old = c.args.list.now in
    let index = c.loop-index.index in
    let list = c.loop-index.list in
    let text = c.loop-index.text in
    let inside : index < length list = let same = invariant.moved.same_length in let test = c.loop-index-test.true in omega (arith, same, test) in
    let kept = OnFalse_at {P = (c.meets_mark.new.self ≡ text) × (c.meets_mark.new.list ≡ list)} c.if-not-meets_mark.true c.meets_mark.ensures.kept in
    let starter = OnFalse_at c.if-not-meets_mark.true c.meets_mark.ensures.starter in
    let found = joining canonical weights (d ∷ suffix) [] (drop first.next (placed old)) in
    let is : match_of text ≡ c.found.result = sym (c.found.ensures ∙ ap match_of kept.0) in
    subst (λ r. IsFoundAs canonical weights (pools_of c.args.entry.source.now) d found r c.meets_mark.new.list) is
    (subst (λ l. IsFoundAs canonical weights (pools_of c.args.entry.source.now) d found (match_of text) l) (sym kept.1)
    (found_at_starter canonical weights entry d suffix first.next old index list text invariant.moved
    (invariant.joined weights d suffix said suffixed stands word spelled ok) inside starter))

pub returns-clause-found : goal.returns-clause-found
returns-clause-found c = λ weights d suffix said suffixed stands word spelled ok.
    let canonical = borrowed_meaning c.args.canonical in
    let entry = table_word c.args.entry in
    let invariant = c.loop-index.invariant in
    let first = c.args.first in
    let old = c.args.list.now in
    let index = c.loop-index.index in
    let list = c.loop-index.list in
    let text = c.loop-index.text in
    let over : index ≡ length list =
    let inside = invariant.moved.inside in let same = invariant.moved.same_length in let test = c.loop-index-test.false in omega (arith, inside, same, test) in
    let found = joining canonical weights (d ∷ suffix) [] (drop first.next (placed old)) in
    subst (λ r. IsFoundAs canonical weights (pools_of c.args.entry.source.now) d found r list) (sym c.found-2.ensures)
    (found_at_end canonical weights entry d suffix first.next old index list text invariant.moved
    (invariant.joined weights d suffix said suffixed stands word spelled ok) over)

pub returns-then-not-meets_mark-clause-kept : goal.returns-then-not-meets_mark-clause-kept
returns-then-not-meets_mark-clause-kept c = λ ok.
    let list = c.loop-index.list in
    let kept = OnFalse_at {P = (c.meets_mark.new.self ≡ c.loop-index.text) × (c.meets_mark.new.list ≡ list)} c.if-not-meets_mark.true c.meets_mark.ensures.kept in
    ap scalars kept.1 ∙ c.loop-index.invariant.moved.kept ok

pub returns-clause-kept : goal.returns-clause-kept
returns-clause-kept c = c.loop-index.invariant.moved.kept
