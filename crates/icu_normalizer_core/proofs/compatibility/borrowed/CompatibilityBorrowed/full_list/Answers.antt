use Rattle.std.proofs.Common.{All, sym, subst, ap, ◌∙◌}
use Rattle.std.specs.Char.{IsScalar}
use Rattle.icu_normalizer_core.specs.declared.compatibility.tables.NfkdTables.{NfkdTables}
use Rattle.icu_normalizer_core.specs.CanonicalMeaning.{lists_of}
use Rattle.icu_normalizer_core.specs.CompatibilityMeaning.{nfkd_lists}
use Rattle.icu_normalizer_core.specs.Words.{WordLists, full_in}
use Rattle.icu_normalizer_core.proofs.accepted.AcceptedWords.{word_scalars}
use Rattle.icu_normalizer_core.proofs.compatibility.borrowed.CompatibilityBorrowed.full_list.Goals as goal

pub full_list-requires : goal.full_list-requires
full_list-requires c =
    subst (λ (words : WordLists). All IsScalar (full_in words c.args.c)) (sym (c.words.ensures ∙ ap (λ (t : NfkdTables). nfkd_lists t) c.tables.ensures.same))
    (word_scalars (lists_of c.args.self.now.checked.now.canonical) (nfkd_lists c.args.self.now.checked.now.nfkd) c.tables.ensures.canonical c.tables.ensures.accepted c.args.c c.ranges.c.0)

pub returns : goal.returns
returns c = c.full_list.ensures ∙ ap (λ (words : WordLists). full_in words c.args.c) (c.words.ensures ∙ ap (λ (t : NfkdTables). nfkd_lists t) c.tables.ensures.same)
