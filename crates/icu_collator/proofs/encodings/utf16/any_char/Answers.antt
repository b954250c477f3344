use Rattle.std.proofs.Common.{◌∙◌, sym}
use Rattle.icu_collator.proofs.SurrogateLemmas.{one_behind, two_behind, two_long}
use Rattle.icu_collator.proofs.encodings.utf16.any_char.Goals as goal

pub slice_bounds-result-count-else-first-lt65536 : goal.slice_bounds-result-count-else-first-lt65536
slice_bounds-result-count-else-first-lt65536 c =
    two_long c.args.units.now _ c.in_ok-first.first (λ i. (c.type_inv.units i).fits) (sym c.decode_utf16-chars.ensures.chars ∙ c.in_ok-first.ensures.steps) c.if-first-lt65536.false

pub slice_bounds-result-start-else-first-lt65536 : goal.slice_bounds-result-start-else-first-lt65536
slice_bounds-result-start-else-first-lt65536 c =
    two_long c.args.units.now _ c.in_ok-first.first (λ i. (c.type_inv.units i).fits) (sym c.decode_utf16-chars.ensures.chars ∙ c.in_ok-first.ensures.steps) c.if-first-lt65536.false

pub returns-then-first-lt65536 : goal.returns-then-first-lt65536
returns-then-first-lt65536 c =
    one_behind c.args.units.now _ c.in_ok-first.first (sym c.decode_utf16-chars.ensures.chars ∙ c.in_ok-first.ensures.steps) c.if-first-lt65536.true

pub returns-else-first-lt65536 : goal.returns-else-first-lt65536
returns-else-first-lt65536 c =
    two_behind c.args.units.now _ c.in_ok-first.first (λ i. (c.type_inv.units i).fits) (sym c.decode_utf16-chars.ensures.chars ∙ c.in_ok-first.ensures.steps) c.if-first-lt65536.false
