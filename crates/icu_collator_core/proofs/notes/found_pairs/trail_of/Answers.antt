use Rattle.std.proofs.Common.{◌≡◌, ◌∷◌, [], rules, true}
use lib.Utf8.{scalars}
use Rattle.icu_collator_core.specs.ReadSources.{canonical_by}
use Rattle.icu_collator_core.proofs.readings.PairLemmas.{bounded_pair, closed_pair}
use Rattle.icu_collator_core.proofs.notes.found_pairs.trail_of.Goals as goal

pub returns-then-not-is_starter : goal.returns-then-not-is_starter
returns-then-not-is_starter c = λ items are first is.
    let ok : scalars (c.args.head ∷ c.args.second ∷ []) ≡ true = search rules in
    bounded_pair c.args.sound.now c.args.head c.args.second items c.requires ok are first is

pub returns-then-is_closed : goal.returns-then-is_closed
returns-then-is_closed c = λ items are first is.
    let source = c.args.sound.now in
    let ok : scalars (c.args.head ∷ c.args.second ∷ []) ≡ true = search rules in
    let starter : (canonical_by source).class c.args.second ≡ 0 = search rules in
    closed_pair source c.args.head c.args.second items c.requires ok are (c.is_closed.ensures c.if-is_closed.true) first is starter

pub returns : goal.returns
returns c = λ items are first is.
    let ok : scalars (c.args.head ∷ c.args.second ∷ []) ≡ true = search rules in
    bounded_pair c.args.sound.now c.args.head c.args.second items c.requires ok are first is
