use Rattle.std.proofs.Common.{◌≡◌, Some, sym, ap, ◌∙◌}
use Rattle.std.proofs.lemmas.Bool.{false≢true}
use Rattle.std.proofs.lemmas.Option.{same_Some}
use Rattle.std.specs.Option.{option_map}
use Rattle.icu_normalizer_core.specs.Compatibility.{fixed_list}
use Rattle.icu_normalizer_core.specs.Settled.{left_items}
use Rattle.icu_normalizer_core.specs.Words.{word_lists, full_in}
use Rattle.icu_normalizer_core.proofs.compatible.FixedListLemmas.{fixed_good, fixed_bad}
use Rattle.icu_normalizer_core.proofs.compatibility.check.fixed.is_fixed.Goals as goal

pub returns-in-Some-clause-good : goal.returns-in-Some-clause-good
returns-in-Some-clause-good c = λ good w.
    let e : fixed_list c.args.c ≡ Some (left_items c.in-Some.list) = sym c.fixed_list.ensures ∙ ap (option_map left_items) c.in-Some.is in
    let same = same_Some (left_items c.in-Some.list) w.0 (sym e ∙ w.1) in
    let full = fixed_good c.args.c (left_items c.in-Some.list) (left_items c.full_start.result) (full_in (word_lists c.args.words) c.args.c) e c.full_start.ensures (c.is.ensures.same.0 good) in
    w.2 (full ∙ same)

pub returns-in-Some-clause-bad : goal.returns-in-Some-clause-bad
returns-in-Some-clause-bad c = λ bad.
    let e : fixed_list c.args.c ≡ Some (left_items c.in-Some.list) = sym c.fixed_list.ensures ∙ ap (option_map left_items) c.in-Some.is in (
      left_items c.in-Some.list,
      e,
      λ same. false≢true (sym bad ∙ c.is.ensures.same.1
          (fixed_bad c.args.c (left_items c.in-Some.list) (left_items c.full_start.result) (full_in (word_lists c.args.words) c.args.c) e c.full_start.ensures same)),
    )
