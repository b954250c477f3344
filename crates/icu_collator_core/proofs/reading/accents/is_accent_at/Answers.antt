use Rattle.std.proofs.Common.{◌∙◌, arith}
use Rattle.std.proofs.lemmas.List.{get_or_read}
use Rattle.icu_collator_core.proofs.readings.ReadStepLemmas.{accent_at, no_accent_at}
use Rattle.icu_collator_core.proofs.reading.accents.is_accent_at.Goals as goal

pub returns-then-index-list : goal.returns-then-index-list
returns-then-index-list c =
    let list = c.args.list.now in
    let index = c.args.index in
    let inside = c.if-index-list.true in
    let here = c.index-list-index.result in
    c.is_accent.ensures ∙ accent_at list index here inside (get_or_read list index here inside c.index-list-index.is 0)

pub returns-else-index-list : goal.returns-else-index-list
returns-else-index-list c =
    let list = c.args.list.now in
    let within = c.requires in
    let past = c.if-index-list.false in
    no_accent_at list c.args.index (omega (arith, within, past))
