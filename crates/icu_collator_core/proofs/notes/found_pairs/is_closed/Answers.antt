use Rattle.std.proofs.Common.{◌≡◌, None, rules, sym, true, ◌∙◌}
use Rattle.icu_collator_core.specs.ReadSources.{weights_by}
use Rattle.icu_collator_core.specs.ReadWords.{table_word}
use Rattle.icu_collator_core.proofs.readings.PairLemmas.{closed_by}
use Rattle.icu_collator_core.proofs.notes.found_pairs.is_closed.Goals as goal

pub returns : goal.returns
returns c = λ closed.
    let source = c.args.sound.now in
    let first = c.args.first in
    let said = c.checked_word-word.ensures None in
    let unprefixed : c.is_unprefixed.result ≡ true = search rules in
    let begins : c.begins_with.result ≡ true = search rules in
    let text = c.begins_with.ensures.text begins in
    closed_by source first c.args.second (table_word c.checked_word-word.result) said (sym c.is_kept_apart.ensures ∙ c.if-is_kept_apart.false)
    (c.is_unprefixed.ensures unprefixed (weights_by None source) first said) text.0 text.1 text.2
    (c.begins_with.ensures.recorded begins (weights_by None source) first said) (c.ends_with.ensures closed)
