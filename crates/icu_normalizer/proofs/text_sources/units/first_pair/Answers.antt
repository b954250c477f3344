use Rattle.std.proofs.Common.{length, sym, ap, ◌∙◌, arith}
use Rattle.icu_normalizer.proofs.passed.FormTextLemmas.{no_pair, first_small, first_large}
use Rattle.icu_normalizer.proofs.text_sources.units.first_pair.Goals as goal

pub returns-in_err-first : goal.returns-in_err-first
returns-in_err-first c =
    rw c.from_residual.ensures (λ high low more. no_pair c.args.units.now high low more (sym c.decode_utf16.ensures.chars ∙ c.in_err-first.ensures.steps.0))

pub returns-then-first-lt65536 : goal.returns-then-first-lt65536
returns-then-first-lt65536 c high low more =
    first_small c.args.units.now _ c.in_ok-first.first high low more (sym c.decode_utf16.ensures.chars ∙ c.in_ok-first.ensures.steps) c.if-first-lt65536.true

pub slice_bounds-result-count : goal.slice_bounds-result-count
slice_bounds-result-count c =
    let pair = first_large c.args.units.now _ c.in_ok-first.first (λ i. (c.type_inv.units i).fits) (sym c.decode_utf16.ensures.chars ∙ c.in_ok-first.ensures.steps) c.if-first-lt65536.false in
    omega (arith, ap length pair.2)

pub slice_bounds-result-start : goal.slice_bounds-result-start
slice_bounds-result-start c =
    let pair = first_large c.args.units.now _ c.in_ok-first.first (λ i. (c.type_inv.units i).fits) (sym c.decode_utf16.ensures.chars ∙ c.in_ok-first.ensures.steps) c.if-first-lt65536.false in
    omega (arith, ap length pair.2)

pub returns : goal.returns
returns c =
    first_large c.args.units.now _ c.in_ok-first.first (λ i. (c.type_inv.units i).fits) (sym c.decode_utf16.ensures.chars ∙ c.in_ok-first.ensures.steps) c.if-first-lt65536.false
