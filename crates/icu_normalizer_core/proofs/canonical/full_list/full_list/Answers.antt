use Rattle.std.proofs.Common.{All, sym, subst, ap, ◌∙◌}
use Rattle.std.specs.Char.{IsScalar}
use Rattle.icu_normalizer_core.specs.CanonicalMeaning.{lists_of}
use Rattle.icu_normalizer_core.specs.Words.{WordLists, full_in}
use Rattle.icu_normalizer_core.proofs.accepted.TableMeanings.{full_is}
use Rattle.icu_normalizer_core.proofs.canonical.full_list.full_list.Goals as goal

pub full_list-requires : goal.full_list-requires
full_list-requires c =
    subst (λ (words : WordLists). All IsScalar (full_in words c.args.c)) (sym c.words.ensures)
    (subst (All IsScalar) (full_is (lists_of c.args.tables.now) c.args.c) c.requires)

pub returns : goal.returns
returns c = c.full_list.ensures ∙ ap (λ (words : WordLists). full_in words c.args.c) c.words.ensures ∙ sym (full_is (lists_of c.args.tables.now) c.args.c)
