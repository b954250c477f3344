use Rattle.std.proofs.Common.{◌↔◌, subst}
use Rattle.std.specs.Prelude.{IsTrue}
use Rattle.icu_normalizer_core.specs.CanonicalMeaning.{meaning}
use Rattle.icu_collator_core.specs.Acceptance.{CollationSource}
use Rattle.icu_collator_core.specs.TableMeaning.{weights_of}
use Rattle.icu_collator_core.specs.UnsafeCharacters.{IsUnsafe}
use Rattle.icu_collator_core.proofs.checked.CheckedTables.is_unsafe.Goals as goal

pub returns : goal.returns
returns c =
    subst (λ (source : CollationSource). IsTrue c.is_unsafe.result ↔ IsUnsafe (meaning source.canonical) (weights_of (meaning source.canonical) source.tables) c.args.c)
    c.self.view_is c.is_unsafe.ensures
