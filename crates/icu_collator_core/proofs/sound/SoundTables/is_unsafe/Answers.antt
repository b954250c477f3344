use Rattle.std.proofs.Common.{◌≡◌, ◌∷◌, subst}
use Rattle.icu_normalizer_core.specs.CanonicalMeaning.{meaning}
use Rattle.icu_collator_core.specs.TableMeaning.{weights_of}
use Rattle.icu_collator_core.proofs.unsafety.UnsafeLemmas.{unsafe_by_first}
use Rattle.icu_collator_core.proofs.sound.SoundTables.is_unsafe.Goals as goal

pub returns-in-Some : goal.returns-in-Some
returns-in-Some c =
    let source = c.args.self.now in
    let canonical = meaning source.canonical in
    let rest = c.in-Some.ensures.0 in
    unsafe_by_first canonical (weights_of canonical source.tables) c.args.c c.is_unsafe_itself.result c.is_unsafe_itself-in-Some.result c.in-Some.first rest
    c.if-is_unsafe_itself.false c.is_unsafe_itself.ensures
    (subst (λ tables. (meaning tables).full c.args.c ≡ c.in-Some.first ∷ rest) c.canonical.ensures c.in-Some.ensures.1)
    c.is_unsafe_itself-in-Some.ensures
