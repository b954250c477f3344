use Rattle.std.proofs.Common.{◌≡◌, ◌≤◌, ℕ, List, arith, refl, rules, subst, sym, true}
use Rattle.icu_normalizer_core.specs.Canonical.{IsDecomposing}
use Rattle.icu_collator_core.specs.ReadSources.{canonical_by}
use Rattle.icu_collator_core.specs.Stretched.{IsReadInto, IsStretched}
use Rattle.icu_collator_core.specs.Stretches.{IsClosed}
use Rattle.icu_collator_core.specs.declared.flat.stretched.StretchedElements.{StretchedElements}
use Rattle.icu_collator_core.proofs.readings.StretchedLemmas.{longer_settled, no_more, read_more, same_settled, same_whole, stretched_on, stretched_whole}
use Rattle.icu_collator_core.proofs.checked.CheckedTables.read_on.Goals as goal

pub reading-init : goal.reading-init
reading-init g c = record {
  can = search rules;
  finite = search rules;
  unended = c.requires.open;
  kept = refl;
  read = λ text h. h;
}

pub reading-preserved : goal.reading-preserved
reading-preserved g c =
    let on : c.in_ok-is_read.is_read ≡ true = search rules in
    record {
      can = search rules;
      finite = search rules;
      unended = c.reading.invariant.unended;
      kept = c.reading.invariant.kept;
      read = λ text h.
          read_more c.args.self.now c.args.numeric g.I.Iterator.next_gives text c.reading.chars c.next.new.self c.in-Some.c _ _ (c.reading.invariant.read text h)
          c.in-Some.ensures.steps (c.in_ok-is_read.ensures on);
    }

pub returns-then-settled-before-clause-read : goal.returns-then-settled-before-clause-read
returns-then-settled-before-clause-read g c = λ _.
    let source = c.args.self.now in
    let numeric = c.args.numeric in
    let steps = g.I.Iterator.next_gives in
    let chars = c.args.chars in
    let rest = c.next.new.self in
    let old = c.args.text.now in
    let decomposing : IsDecomposing (canonical_by source) = search rules in
    let on : c.in_ok-is_read.is_read ≡ true = search rules in
    let new : StretchedElements = record {
      stretch = c.read_next.new.stretch;
      elements = c.read_next.new.elements;
      settled = c.settled-settled.result;
      is_ended = c.reading.text.is_ended;
    } in
    let more = λ (text : List ℕ) (h : IsReadInto source numeric steps text chars old).
    read_more source numeric steps text c.reading.chars rest c.in-Some.c c.reading.text new (c.reading.invariant.read text h) c.in-Some.ensures.steps (c.in_ok-is_read.ensures on) in
    let kept = λ (text : List ℕ) (h : IsStretched source numeric steps text chars old).
    stretched_on source numeric steps text rest new c.reading.invariant.unended (more text (h.left c.requires.open))
    (λ read left front opened apart all. c.settled-settled.ensures.stands source numeric read left front decomposing opened apart all) in
    let further : old.settled ≤ new.settled = omega (arith, c.reading.invariant.kept, c.if-settled-before.true) in
    record {
      kept = λ text ok h. kept text h;
      same = λ text ok h.
          let into = more text (h.left c.requires.open) in
          same_settled source numeric steps text chars rest old new ok h (kept text h)
          (longer_settled old new further (c.settled-settled.ensures.within source numeric into.read into.opened));
    }

pub returns-clause-read : goal.returns-clause-read
returns-clause-read g c = λ whole.
    let source = c.args.self.now in
    let numeric = c.args.numeric in
    let steps = g.I.Iterator.next_gives in
    let chars = c.args.chars in
    let rest = c.next.new.self in
    let old = c.args.text.now in
    let decomposing : IsDecomposing (canonical_by source) = search rules in
    let new : StretchedElements = record { stretch = c.close.new.stretch; elements = c.close.new.elements; settled = c.len-text.result; is_ended = true } in
    let last = new.stretch.class in
    let kept = λ (text : List ℕ) (h : IsStretched source numeric steps text chars old).
    let into = c.reading.invariant.read text (h.left c.requires.open) in
    let is : text ≡ into.read = no_more source numeric steps text c.reading.chars rest into.read into.rest into.text_is into.left c.in_default.ensures.steps in
    stretched_whole source numeric steps text decomposing rest new last refl c.len-text.ensures
    (subst (λ (l : List ℕ). IsClosed source numeric l last new.elements.items) (sym is) (c.in_ok-is_read-2.ensures whole into.read into.opened)) in
    record {
      kept = λ text ok h. kept text h;
      same = λ text ok h. same_whole source numeric steps text chars rest old new ok h (kept text h) refl;
    }
