use Rattle.std.proofs.Common.{◌≢◌, ◌-◌, ◌<◌, [], length, take, drop, slice_index, sym, ap, ◌∙◌, arith}
use Rattle.std.proofs.lemmas.Bool.{false≢true, eq-eqb, eqb-true, eqb-false}
use Rattle.icu_normalizer_core.specs.Canonical.{composing}
use Rattle.icu_normalizer_core.specs.CanonicalMeaning.{meaning}
use Rattle.icu_normalizer_core.proofs.composed.CompositionLemmas.{rest_whole, none_of_nothing, one_of_mark, mark_of_one, starter_front}
use Rattle.icu_normalizer_core.proofs.canonical.check.own.composes_to.Goals as goal

pub returns-then-is_empty : goal.returns-then-is_empty
returns-then-is_empty c =
    let zero = eqb-true (length c.args.list.now) 0 (sym c.if-is_empty.ensures) in (
      λ t. absurd (false≢true t),
      λ e. absurd (none_of_nothing (meaning c.args.tables.now) c.args.list.now c.args.c zero e),
    )

pub returns-then-is_empty-2 : goal.returns-then-is_empty-2
returns-then-is_empty-2 c =
    let some = eqb-false (length c.args.list.now) 0 (sym c.if-is_empty.ensures) in
    let h : 0 < length c.args.list.now = omega (arith, some) in
    let mark : (meaning c.args.tables.now).class (slice_index c.args.list.now 0) ≢ 0 = λ e. c.if-class_of-ne0.true (c.class_of.ensures ∙ e) in
    let none = ap length (sym (rest_whole c.args.list.now)) ∙ eqb-true (length (take (length c.args.list.now - 1) (drop 1 c.args.list.now))) 0 (sym c.if-is_empty-2.ensures) in (
      λ t. one_of_mark (meaning c.args.tables.now) c.args.list.now c.args.c h mark none (eqb-true (slice_index c.args.list.now 0) c.args.c t),
      λ e. eq-eqb (slice_index c.args.list.now 0) c.args.c (mark_of_one (meaning c.args.tables.now) c.args.list.now c.args.c h mark e).1,
    )

pub returns-else-is_empty-2 : goal.returns-else-is_empty-2
returns-else-is_empty-2 c =
    let some = eqb-false (length c.args.list.now) 0 (sym c.if-is_empty.ensures) in
    let h : 0 < length c.args.list.now = omega (arith, some) in
    let mark : (meaning c.args.tables.now).class (slice_index c.args.list.now 0) ≢ 0 = λ e. c.if-class_of-ne0.true (c.class_of.ensures ∙ e) in
    let more = eqb-false (length (take (length c.args.list.now - 1) (drop 1 c.args.list.now))) 0 (sym c.if-is_empty-2.ensures) in (
      λ t. absurd (false≢true (sym c.if-is_empty-2.false ∙ t)),
      λ e. absurd (more (ap length (rest_whole c.args.list.now) ∙ (mark_of_one (meaning c.args.tables.now) c.args.list.now c.args.c h mark e).0)),
    )

pub returns : goal.returns
returns c =
    let some = eqb-false (length c.args.list.now) 0 (sym c.if-is_empty.ensures) in
    let h : 0 < length c.args.list.now = omega (arith, some) in
    let same = starter_front (meaning c.args.tables.now) c.args.list.now h (sym c.class_of.ensures ∙ c.if-class_of-ne0.false)
    ∙ ap (composing (meaning c.args.tables.now) (slice_index c.args.list.now 0) []) (sym (rest_whole c.args.list.now)) in (
      λ t. same ∙ c.composes_from.ensures.0 t,
      λ e. c.composes_from.ensures.1 (sym same ∙ e),
    )
