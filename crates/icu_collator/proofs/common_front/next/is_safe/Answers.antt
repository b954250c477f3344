use Rattle.std.proofs.Common.{rules, subst}
use Rattle.std.specs.Char.{IsScalar}
use Rattle.icu_normalizer_core.specs.Canonical.{IsDecomposing}
use Rattle.icu_normalizer_core.specs.CanonicalMeaning.{meaning}
use Rattle.icu_collator_core.specs.TableMeaning.{weights_of}
use Rattle.icu_collator.proofs.boundaries.SafeCharacterLemmas.{safe_by}
use Rattle.icu_collator.proofs.common_front.next.is_safe.Goals as goal

pub returns-clause-safe : goal.returns-clause-safe
returns-clause-safe c =
    let source = c.args.checked.now in
    let canonical = meaning source.canonical in
    let scalar : IsScalar c.args.c = search rules in
    let decomposing : IsDecomposing canonical = subst (λ tables. IsDecomposing (meaning tables)) c.canonical.ensures c.keep_promise.ensures.decomposing in
    safe_by canonical (weights_of canonical source.tables) c.args.c c.is_unsafe.result decomposing scalar c.is_unsafe.ensures
