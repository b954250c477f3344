use Rattle.std.proofs.Common.{◌≡◌, ◌↔◌, true, refl, ap, subst, ◌∙◌}
use Rattle.std.specs.Bool.{IsTrue}
use Rattle.icu_char16trie.specs.Cursors.{place_state, trie_units}
use Rattle.icu_char16trie.specs.UnitSteps.{start}
use Rattle.icu_normalizer_core.specs.BorrowedMeaning.{borrowed_meaning}
use Rattle.icu_collator_core.specs.declared.check.records.Recorded.{Recorded}
use Rattle.icu_collator_core.specs.ContextFaults.{entry_in}
use Rattle.icu_collator_core.specs.ContextRules.{KeysPass, is_recorded_by, is_recorded_shorter}
use Rattle.icu_collator_core.specs.KeyTexts.{by_fold}
use Rattle.icu_collator_core.specs.Pools.{trie_of}
use Rattle.icu_collator_core.specs.TableMeaning.{pools_of}
use Rattle.icu_collator_core.specs.TextFolds.{is_kept, recorded_with}
use Rattle.icu_collator_core.proofs.checks.RecordLemmas.{recorded_told}
use Rattle.icu_collator_core.proofs.checks.WalkLemmas.{told_same}
use Rattle.icu_collator_core.proofs.check.records.are_recorded_shorter.Goals as goal

pub returns : goal.returns
returns c =
    let canonical = borrowed_meaning c.args.canonical in
    let pools = pools_of c.args.source.now in
    let entry = entry_in c.args.source.now c.args.word in
    let units = trie_of c.args.source.now.contexts c.args.index in
    let known : Recorded = record { place = c.place.result; is_recorded = true; is_kept = true } in
    let same : trie_units c.new-trie.result ≡ units = c.new-trie.ensures ∙ c.units_of.ensures.units in
    let stands : place_state known.place ≡ start units = c.place.ensures ∙ c.iter.ensures.start ∙ ap start same in
    told_same units (by_fold is_kept (recorded_with canonical pools units) known)
    (is_recorded_shorter canonical (is_recorded_by entry) c.args.c) c.in_ok-all.all
    (recorded_told canonical entry c.args.c c.args.index c.requires.tagged c.requires.named known stands refl refl)
    (subst (λ us. IsTrue c.in_ok-all.all ↔ KeysPass (by_fold is_kept (recorded_with canonical pools us) known) units) same c.in_ok-all.ensures)
