use Rattle.std.proofs.Common.{◌∙◌, [], sym}
use mathlib.Core.Bool.{true≢false}
use Rattle.icu_collator.specs.Collators.{source_collation}
use Rattle.icu_collator.proofs.lists.CompareLemmas.{elements_read}
use Rattle.icu_collator.proofs.compare.listed.compare_counted.Goals as goal

pub returns : goal.returns
returns c = λ es fs lefts rights.
    c.in_ok-order.ensures
    ∙ elements_read (source_collation c.args.checked.now) c.args.options.now es fs [] [] _ _ lefts rights
    (λ exact. absurd (true≢false (sym exact ∙ c.requires.inexact))) (λ exact. absurd (true≢false (sym exact ∙ c.requires.inexact)))
