use Rattle.std.proofs.Common.{◌==◌, ◌&&◌, ◌∙◌, ◌++◌, ℕ, Bool, [], ◌∷◌, true, false, sym, ap, subst, append-nil, drop}
use Rattle.std.specs.Option.{is_some}
use Rattle.std.proofs.lemmas.Bool.{and_right}
use lib.Utf8.{scalars}
use Rattle.icu_collator_types.specs.declared.elements.Element.{Element}
use Rattle.icu_collator_core.specs.declared.tables.CollationTables.{CollationTables}
use Rattle.icu_collator_core.specs.Defaults.{special_primary}
use Rattle.icu_collator_core.specs.ElementLists.{unpacked}
use Rattle.icu_collator_core.specs.Elements.{is_before_accent, placed}
use Rattle.icu_collator_core.specs.MarkRuns.{HasPushed}
use Rattle.icu_collator_core.specs.Pools.{element_of}
use Rattle.icu_collator_core.specs.ReadSources.{canonical_by, weights_by}
use Rattle.icu_collator_core.specs.TableMeaning.{weights_of}
use Rattle.icu_collator_core.specs.TableSettings.{has_bit}
use Rattle.icu_collator_core.proofs.lookups.FoundTextLemmas.{characters_left}
use Rattle.icu_collator_core.proofs.lookups.OpenTextLemmas.{scalars_behind}
use Rattle.icu_collator_core.proofs.lookups.PackedLemmas.{element_of_primary, unpacked_more}
use Rattle.icu_collator_core.proofs.meaning.AcceptedMarkLemmas.{KnowMark, accepted_tables_know_marks, mark_for}
use Rattle.icu_collator_core.proofs.meaning.AcceptedPrefixLemmas.{accepted_tables_know_no_marks_before}
use Rattle.icu_collator_core.proofs.readings.MarkReadLemmas.{dropped_first, special_first, text_first}
use Rattle.icu_collator_core.proofs.readings.MovedMarkLemmas.{mark_has_no_prefix, not_true}
use Rattle.icu_collator_core.proofs.readings.ReadStepLemmas.{no_marks_for}
use Rattle.icu_collator_core.proofs.reading.mark_runs.read_mark.Goals as goal

pub returns-in_ok-push-in-Some-clause-read : goal.returns-in_ok-push-in-Some-clause-read
returns-in_ok-push-in-Some-clause-read c = λ numeric p here same is.
    let source = c.args.sound.now in
    let behind = drop c.args.end (placed c.args.list.now) in
    let primary = c.in-Some.primary in
    let ready = c.args.ready.now.items in
    special_first (canonical_by source) (weights_by numeric source) (is_some numeric) p here behind c.args.classes.now ready c.push.new.self.items primary
    (ap special_primary same ∙ sym c.special_primary.ensures ∙ c.in-Some.is) is
    (unpacked_more ready c.push.new.self.items c.new_from_primary.result c.in_ok-push-in-Some.ensures.ok
    ∙ ap (λ (e : Element). unpacked ready ++ e ∷ []) (ap element_of c.new_from_primary.ensures ∙ element_of_primary primary))

pub returns-then-is_dropped-clause-read : goal.returns-then-is_dropped-clause-read
returns-then-is_dropped-clause-read c = λ numeric p here same is.
    let source = c.args.sound.now in
    let canonical = canonical_by source in
    let weights = weights_by numeric source in
    let behind = drop c.args.end (placed c.args.list.now) in
    let d = c.args.c in
    let ready = c.args.ready.now.items in
    let starter = not_true canonical.class (canonical.class d == 0) c.requires.mark in
    let known : KnowMark canonical weights d =
    mark_for numeric canonical (weights_of canonical source.tables) d (accepted_tables_know_marks canonical source.tables c.keep_promise.ensures d c.ranges.c.0 starter) in
    let test : CollationTables → ℕ → Bool = λ t x. has_bit 6 t.metadata.bits && (x == 0x307) && is_before_accent (here ++ behind) in
    dropped_first canonical weights (is_some numeric) p here behind c.args.classes.now ready ready
    (ap special_primary same ∙ sym c.special_primary.ensures ∙ c.in-None.is)
    (ap (λ x. is_some numeric && is_some (weights.digit x)) same ∙ and_right (is_some numeric) (is_some (weights.digit d)) known.digit)
    (ap (test source.tables) same ∙ ap (λ t. test t d) (sym c.tables.ensures) ∙ sym (c.is_dropped.ensures here is) ∙ c.if-is_dropped.true) is (sym (append-nil (unpacked ready)))

pub returns-in_ok-push_joined-in-None-clause-read : goal.returns-in_ok-push_joined-in-None-clause-read
returns-in_ok-push_joined-in-None-clause-read c = λ numeric p here same is.
    let source = c.args.sound.now in
    let canonical = canonical_by source in
    let weights = weights_by numeric source in
    let list = c.args.list.now in
    let behind = drop c.args.end (placed list) in
    let d = c.args.c in
    let ready = c.args.ready.now.items in
    let after = c.push_joined.new.ready.items in
    let classes = c.push_joined.new.classes in
    let starter = not_true canonical.class (canonical.class d == 0) c.requires.mark in
    let known : KnowMark canonical weights d =
    mark_for numeric canonical (weights_of canonical source.tables) d (accepted_tables_know_marks canonical source.tables c.keep_promise.ensures d c.ranges.c.0 starter) in
    let test : CollationTables → ℕ → Bool = λ t x. has_bit 6 t.metadata.bits && (x == 0x307) && is_before_accent (here ++ behind) in
    let spelled = ap scalars (characters_left c.args.end list) ∙ scalars_behind c.args.end list c.requires.characters in
    let pushed = c.in_ok-push_joined-in-None.ensures.pushed canonical weights here behind (c.checked_word-entry.ensures numeric) c.requires.marks is c.requires.ended spelled in
    text_first canonical weights (is_some numeric) p here behind classes ready after
    (ap special_primary same ∙ sym c.special_primary.ensures ∙ c.in-None.is)
    (ap (λ x. is_some numeric && is_some (weights.digit x)) same ∙ and_right (is_some numeric) (is_some (weights.digit d)) known.digit)
    (ap (test source.tables) same ∙ ap (λ t. test t d) (sym c.tables.ensures) ∙ sym (c.is_dropped.ensures here is) ∙ c.if-is_dropped.false)
    (mark_has_no_prefix canonical.class weights
    (no_marks_for numeric (weights_of canonical source.tables) canonical.class (accepted_tables_know_no_marks_before canonical source.tables c.keep_promise.ensures))
    p (ap (λ x. canonical.class x == 0) same ∙ starter))
    (subst (KnowMark canonical weights) (sym same) known)
    (subst (λ x. HasPushed canonical weights x here behind classes ready after) (sym same) pushed)
