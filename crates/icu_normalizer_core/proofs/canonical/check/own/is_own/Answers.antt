use Rattle.std.proofs.Common.{sym, ap, ◌∙◌, arith}
use Rattle.std.proofs.lemmas.List.{take_all}
use Rattle.icu_normalizer_core.specs.Canonical.{recomposed, marks_in_order}
use Rattle.icu_normalizer_core.specs.CanonicalMeaning.{meaning}
use Rattle.icu_normalizer_core.proofs.composed.CompositionLemmas.{composed_one}
use Rattle.icu_normalizer_core.proofs.canonical.check.own.is_own.Goals as goal

pub returns : goal.returns
returns c =
    let short = c.requires.short in
    let full = c.full_start-left.ensures ∙ take_all 9 ((meaning c.args.tables.now).full c.args.c) (omega (arith, short)) in
    let sorted = c.put_marks_in_order.ensures ∙ ap (marks_in_order (meaning c.args.tables.now).class) full in
    let same = composed_one (meaning c.args.tables.now) c.args.c ∙ ap (recomposed (meaning c.args.tables.now)) (sym sorted) in (
      λ t. same ∙ c.composes_to.ensures.0 t,
      λ e. c.composes_to.ensures.1 (sym same ∙ e),
    )
