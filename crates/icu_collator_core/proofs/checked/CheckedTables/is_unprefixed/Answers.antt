use Rattle.std.proofs.Common.{subst}
use Rattle.std.specs.Prelude.{None}
use Rattle.icu_normalizer_core.specs.CanonicalMeaning.{meaning}
use Rattle.icu_collator_core.specs.Acceptance.{CollationSource}
use Rattle.icu_collator_core.specs.PlainWords.{IsUnprefixed}
use Rattle.icu_collator_core.specs.TableMeaning.{weights_of}
use Rattle.icu_collator_core.proofs.checked.CheckedTables.is_unprefixed.Goals as goal

pub returns : goal.returns
returns c = λ tells.
    let sound = c.self.inside.sound in
    subst (λ (source : CollationSource). IsUnprefixed (weights_of (meaning source.canonical) source.tables) c.args.c) c.self.view_is
    (c.is_unprefixed.ensures tells (weights_of (meaning sound.canonical) sound.tables) c.args.c (c.checked_word.ensures None))
