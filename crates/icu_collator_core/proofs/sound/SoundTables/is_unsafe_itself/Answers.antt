use Rattle.std.proofs.Common.{◌∙◌, ap, subst}
use Rattle.icu_normalizer_core.specs.Canonical.{is_starter}
use Rattle.icu_normalizer_core.specs.CanonicalMeaning.{meaning}
use Rattle.icu_collator_core.specs.Acceptance.{CollationSource}
use Rattle.icu_collator_core.specs.TableMeaning.{weights_of}
use Rattle.icu_collator_core.specs.UnsafeWords.{AreUnsafeByRecords}
use Rattle.icu_collator_core.proofs.unsafety.UnsafeLemmas.{starter_is_unsafe}
use Rattle.icu_collator_core.proofs.sound.SoundTables.is_unsafe_itself.Goals as goal

pub returns : goal.returns
returns c =
    let source = c.args.self.now in
    let canonical = meaning source.canonical in
    let unsafe_characters = c.self.inside.unsafe_characters.items in
    starter_is_unsafe canonical (weights_of canonical source.tables) c.args.c unsafe_characters c.as_slice.result.now c.is_starter.result c.holds.result
    (subst (λ (source : CollationSource). AreUnsafeByRecords (weights_of (meaning source.canonical) source.tables) unsafe_characters) c.self.view_is c.self.invariant.1)
    c.as_slice.ensures.value
    (c.is_starter.ensures ∙ ap (λ tables. is_starter (meaning tables) c.args.c) c.canonical.ensures)
    c.if-not-is_starter.false c.holds.ensures
