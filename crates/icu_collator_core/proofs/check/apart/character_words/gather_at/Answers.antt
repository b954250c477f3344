use Rattle.std.proofs.Common.{◌≡◌, subst, rules, ◌∙◌, ap}
use Rattle.std.specs.Char.{IsScalar}
use Rattle.icu_codepointtrie.specs.Slots.{value_at}
use Rattle.icu_collator_core.specs.PrefixFaults.{IsAmong}
use Rattle.icu_collator_core.specs.TableMeaning.{pools_of, word_at}
use Rattle.icu_collator_core.specs.WeightLists.{Grows}
use Rattle.icu_collator_core.proofs.apart.GrowthLemmas.{grown_where}
use Rattle.icu_collator_core.proofs.checks.CheckedListLemmas.{word_same}
use Rattle.icu_collator_core.proofs.check.apart.character_words.gather_at.Goals as goal

pub returns : goal.returns
returns c =
    let source = c.args.source.now in
    let before = c.args.words.now.items in
    let after = c.gather_among.new.words.items in
    let same : c.in-Some.c ≡ c.args.code = search rules in
    let scalar : IsScalar c.args.code = search rules in
    grown_where (IsScalar c.args.code) (IsAmong (pools_of source) (word_at source c.args.code)) before after scalar
    (subst (λ word. Grows (IsAmong (pools_of source) word) before after)
    (word_same c.get.result (value_at source.trie c.in-Some.c) c.get.ensures.value ∙ ap (word_at source) same)
    c.in_ok-gather_among.ensures)
