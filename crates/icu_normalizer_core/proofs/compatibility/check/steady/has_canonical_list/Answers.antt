use Rattle.std.proofs.Common.{◌≡◌, take, sym, ap, ◌∙◌}
use Rattle.icu_normalizer_core.specs.CanonicalMeaning.{lists_of, meaning}
use Rattle.icu_normalizer_core.specs.Settled.{left_items}
use Rattle.icu_normalizer_core.specs.Words.{WordLists, word_lists, full_in}
use Rattle.icu_normalizer_core.proofs.settling.SettledLemmas.{cut_known}
use Rattle.icu_normalizer_core.proofs.accepted.TableMeanings.{full_is}
use Rattle.icu_normalizer_core.proofs.full_lists.WordListLemmas.{plain_same}
use Rattle.icu_normalizer_core.proofs.compatibility.check.steady.has_canonical_list.Goals as goal

pub returns-then-word-eq0-2 : goal.returns-then-word-eq0-2
returns-then-word-eq0-2 c = λ yes.
    plain_same (lists_of c.args.tables.now) (word_lists c.args.words) c.args.c c.ranges.c.0 (sym c.word.ensures.word ∙ c.if-word-eq0.true) (sym c.word-then-word-eq0.ensures.word ∙ c.if-word-eq0-2.true)

pub returns : goal.returns
returns c = λ yes.
    let canonical : left_items c.full_start.result ≡ take 9 ((meaning c.args.tables.now).full c.args.c) =
    c.full_start.ensures
    ∙ ap (λ (ws : WordLists). take 9 (full_in ws c.args.c)) c.words.ensures
    ∙ ap (take 9) (sym (full_is (lists_of c.args.tables.now) c.args.c)) in
    sym
    (cut_known ((meaning c.args.tables.now).full c.args.c) (full_in (word_lists c.args.words) c.args.c) c.requires
    (sym canonical ∙ c.is.ensures.same.0 yes ∙ c.full_start-2.ensures))
