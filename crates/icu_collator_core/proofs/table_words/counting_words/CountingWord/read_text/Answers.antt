use Rattle.std.proofs.Common.{◌≡◌, ◌∙◌, ◌≤◌, sym, ap, subst, arith, length, take, true, []}
use Rattle.std.specs.Option.{is_some, unwrap_or}
use lib.Utf8.{scalars}
use Rattle.icu_normalizer_core.specs.BorrowedMeaning.{borrowed_meaning}
use Rattle.icu_collator_core.specs.ElementLists.{AddsElements}
use Rattle.icu_collator_core.specs.Elements.{prefix_match}
use Rattle.icu_collator_core.specs.ReadSteps.{placed_at}
use Rattle.icu_collator_core.proofs.lookups.MatchLemmas.{scalars_front}
use Rattle.icu_collator_core.proofs.lookups.OpenTextLemmas.{scalars_behind}
use Rattle.icu_collator_core.proofs.readings.ReadStepLemmas.{prefixed_read, unprefixed_read}
use Rattle.icu_collator_core.proofs.table_words.counting_words.CountingWord.read_text.Goals as goal

pub returns-then-found-clause-read : goal.returns-then-found-clause-read
returns-then-found-clause-read c = λ weights said ok.
    let canonical = borrowed_meaning c.args.canonical in
    let old = c.args.list.now.items in
    let index = c.args.index in
    let front : scalars (take index c.deref.result.now) ≡ true = ap (λ l. scalars (take index l)) c.deref.ensures ∙ scalars_front index old ok in
    prefixed_read canonical weights old index c.args.c c.args.ready.now.items c.push_prefixed.new.ready.items
    (sym c.if-found.true ∙ c.in_ok-found.ensures.found weights c.args.c said front ∙ ap (λ l. is_some (prefix_match weights (placed_at l index c.args.c))) c.deref.ensures)
    (subst (λ l. AddsElements c.args.ready.now.items (unwrap_or (prefix_match weights (placed_at l index c.args.c)) []) c.push_prefixed.new.ready.items) c.deref.ensures
    (c.in_ok-found.ensures.elements weights c.args.c said front))

pub returns-clause-read : goal.returns-clause-read
returns-clause-read c = λ weights said ok.
    let canonical = borrowed_meaning c.args.canonical in
    let old = c.args.list.now.items in
    let index = c.args.index in
    let inside = c.requires.inside in
    let front : scalars (take index c.deref.result.now) ≡ true = ap (λ l. scalars (take index l)) c.deref.ensures ∙ scalars_front index old ok in
    let within : index ≤ length old = omega (arith, inside) in
    unprefixed_read canonical weights old index c.args.c c.args.ready.now.items c.push_prefixed.new.ready.items c.push_match.new.list.items c.in_ok-next.next c.push_match.new.ready.items
    (sym c.if-found.false ∙ c.in_ok-found.ensures.found weights c.args.c said front ∙ ap (λ l. is_some (prefix_match weights (placed_at l index c.args.c))) c.deref.ensures)
    (subst (λ l. AddsElements c.args.ready.now.items (unwrap_or (prefix_match weights (placed_at l index c.args.c)) []) c.push_prefixed.new.ready.items) c.deref.ensures
    (c.in_ok-found.ensures.elements weights c.args.c said front))
    within c.requires.here
    (c.in_ok-next.ensures.read weights said (scalars_behind index old ok))
