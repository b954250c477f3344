use Rattle.std.proofs.Common.{◌∙◌, ◌<◌, ◌≤◌, ◌++◌, length, subst, ap, sym, arith}
use Rattle.std.proofs.lemmas.Bool.{eqb-true, eqb-false}
use Rattle.icu_collator_core.specs.ElementLists.{unpacked}
use Rattle.icu_collator_core.specs.NumberBytes.{AreDigitValues}
use Rattle.icu_collator_core.specs.Numbers.{number_elements, number_part}
use Rattle.icu_collator_core.proofs.numbers.NumberPartLemmas.{part_appended, part_is, part_values, parts_ended, rest_is, rest_shorter, rest_values}
use Rattle.icu_collator_core.proofs.reading.numbers.push_number.Goals as goal

pub push_part-requires-clause-digits : goal.push_part-requires-clause-digits
push_part-requires-clause-digits c =
    let part = part_is c.parts.rest.now c.significant-counted.result.now c.split_at.result.0.now c.min.result
    c.significant-counted.ensures c.min.ensures c.split_at.ensures.front in
    subst AreDigitValues (sym part) (part_values 254 c.parts.rest.now c.parts.invariant.0)

pub parts-smaller : goal.parts-smaller
parts-smaller c =
    let rest = rest_is c.parts.rest.now c.significant-counted.result.now c.split_at.result.1.now c.min.result
    c.significant-counted.ensures c.min.ensures c.split_at.ensures.back in
    let some : 0 < length c.parts.rest.now = let filled = eqb-false (length c.parts.rest.now) 0 (sym c.is_empty.ensures ∙ c.parts-test.true) in omega (arith, filled) in
    subst (λ ds. length ds < length c.parts.rest.now) (sym rest) (rest_shorter c.parts.rest.now some)

pub parts-preserved : goal.parts-preserved
parts-preserved c =
    let ds = c.parts.rest.now in
    let part = part_is ds c.significant-counted.result.now c.split_at.result.0.now c.min.result
    c.significant-counted.ensures c.min.ensures c.split_at.ensures.front in
    let rest = rest_is ds c.significant-counted.result.now c.split_at.result.1.now c.min.result
    c.significant-counted.ensures c.min.ensures c.split_at.ensures.back in
    let some : 0 < length ds = let filled = eqb-false (length ds) 0 (sym c.is_empty.ensures ∙ c.parts-test.true) in omega (arith, filled) in (
      subst AreDigitValues (sym rest) (rest_values 254 ds c.parts.invariant.0),
      ap (λ es. unpacked c.push_part.new.elements.items ++ number_elements c.args.lead es) rest
          ∙ part_appended c.args.lead (unpacked c.args.elements.now.items ++ number_elements c.args.lead c.args.digits.now) (unpacked c.parts.elements.items)
          (unpacked c.push_part.new.elements.items) ds some c.parts.invariant.1
          (c.in_ok-push_part.ensures ∙ ap (λ es. unpacked c.parts.elements.items ++ number_part c.args.lead es) part),
    )

pub returns : goal.returns
returns c =
    let none : length c.parts.rest.now ≤ 0 = let end = eqb-true (length c.parts.rest.now) 0 (sym c.is_empty.ensures ∙ c.parts-test.false) in omega (arith, end) in
    parts_ended c.args.lead (unpacked c.args.elements.now.items ++ number_elements c.args.lead c.args.digits.now) (unpacked c.parts.elements.items) c.parts.rest.now none
    c.parts.invariant.1
