use Rattle.std.proofs.Common.{take, sym, ap, ◌∙◌}
use Rattle.icu_normalizer_core.specs.CanonicalMeaning.{lists_of}
use Rattle.icu_normalizer_core.specs.Words.{WordLists, full_in}
use Rattle.icu_normalizer_core.proofs.accepted.TableMeanings.{full_is}
use Rattle.icu_normalizer_core.proofs.canonical.check.full_start.full_start.Goals as goal

pub returns : goal.returns
returns c =
    c.full_start.ensures
    ∙ ap (take 9) (ap (λ (words : WordLists). full_in words c.args.c) c.words.ensures ∙ sym (full_is (lists_of c.args.tables.now) c.args.c))
