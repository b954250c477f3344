use Rattle.std.proofs.Common.{◌≡◌, ◌≤◌, ◌+◌, ◌==◌, ◌&&◌, ◌∙◌, ℕ, Bool, List, [], sym, ap, subst, arith, append-nil, drop, length}
use Rattle.std.specs.Option.{is_some}
use Rattle.icu_normalizer_core.specs.CanonicalMeaning.{meaning}
use Rattle.icu_collator_core.specs.declared.tables.CollationTables.{CollationTables}
use Rattle.icu_collator_core.specs.ElementLists.{unpacked}
use Rattle.icu_collator_core.specs.Elements.{is_before_accent, placed}
use Rattle.icu_collator_core.specs.ReadSources.{canonical_by, weights_by}
use Rattle.icu_collator_core.specs.ReadSteps.{IsReadAs, placed_at, reading_in_context}
use Rattle.icu_collator_core.specs.TableMeaning.{weights_of}
use Rattle.icu_collator_core.specs.TableSettings.{has_bit}
use Rattle.icu_collator_core.proofs.meaning.AcceptedPrefixLemmas.{accepted_tables_know_no_marks_before}
use Rattle.icu_collator_core.proofs.readings.CaseLemmas.{reading_dropped, reading_otherwise}
use Rattle.icu_collator_core.proofs.readings.ReadStepLemmas.{alike_self, no_marks_for, read_from}
use Rattle.icu_collator_core.proofs.reading.next.read_uncounted.Goals as goal

pub returns-then-is_dropped-clause-read : goal.returns-then-is_dropped-clause-read
returns-then-is_dropped-clause-read c =
    let source = c.args.sound.now in
    let canonical = canonical_by source in
    let weights = weights_by c.args.numeric source in
    let old = c.args.list.now.items in
    let index = c.args.index in
    let ready = c.args.ready.now.items in
    let inside = c.requires.inside in
    let ps = drop (index + 1) (placed old) in
    let within : index ≤ length old = omega (arith, inside) in
    let test : CollationTables → List ℕ → Bool = λ t l. has_bit 6 t.metadata.bits && (c.args.c == 0x307) && is_before_accent (drop (index + 1) (placed l)) in
    let is : c.is_dropped.result ≡ test source.tables old =
    c.is_dropped.ensures ∙ ap (λ t. test t c.deref.result.now) c.tables.ensures ∙ ap (test source.tables) c.deref.ensures in
    read_from canonical weights (is_some c.args.numeric) old index c.args.c ready old (index + 1) ready (record { elements = []; left = ps })
    within c.requires.here
    (no_marks_for c.args.numeric (weights_of canonical source.tables) canonical.class (accepted_tables_know_no_marks_before canonical source.tables c.keep_promise.ensures))
    (reading_dropped canonical weights (is_some c.args.numeric) (placed_at old index c.args.c) ps c.requires.ordinary
    (ap (λ o. is_some c.args.numeric && is_some o) c.requires.said.digit ∙ c.requires.uncounted) (sym is ∙ c.if-is_dropped.true))
    (record { elements = sym (append-nil (unpacked ready)); left = λ _. alike_self weights ps })

pub returns-clause-read : goal.returns-clause-read
returns-clause-read c =
    let source = c.args.sound.now in
    let canonical = canonical_by source in
    let weights = weights_by c.args.numeric source in
    let old = c.args.list.now.items in
    let index = c.args.index in
    let ready = c.args.ready.now.items in
    let new = c.read_text.new.list.items in
    let next = c.in_ok-next.next in
    let after = c.read_text.new.ready.items in
    let inside = c.requires.inside in
    let p = placed_at old index c.args.c in
    let ps = drop (index + 1) (placed old) in
    let within : index ≤ length old = omega (arith, inside) in
    let test : CollationTables → List ℕ → Bool = λ t l. has_bit 6 t.metadata.bits && (c.args.c == 0x307) && is_before_accent (drop (index + 1) (placed l)) in
    let is : c.is_dropped.result ≡ test source.tables old =
    c.is_dropped.ensures ∙ ap (λ t. test t c.deref.result.now) c.tables.ensures ∙ ap (test source.tables) c.deref.ensures in
    read_from canonical weights (is_some c.args.numeric) old index c.args.c ready new next after (reading_in_context canonical weights p ps)
    within c.requires.here
    (no_marks_for c.args.numeric (weights_of canonical source.tables) canonical.class (accepted_tables_know_no_marks_before canonical source.tables c.keep_promise.ensures))
    (reading_otherwise canonical weights (is_some c.args.numeric) p ps c.requires.ordinary
    (ap (λ o. is_some c.args.numeric && is_some o) c.requires.said.digit ∙ c.requires.uncounted) (sym is ∙ c.if-is_dropped.false))
    (subst (λ k. IsReadAs k weights (reading_in_context k weights p ps) ready new next after) (ap meaning c.canonical.ensures)
    (c.in_ok-next.ensures.read weights c.requires.said c.requires.characters))
