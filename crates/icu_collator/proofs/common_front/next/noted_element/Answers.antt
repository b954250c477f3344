use Rattle.std.proofs.Common.{◌≡◌, ◌==◌, ◌||◌, false, rules, subst}
use Rattle.std.specs.Char.{IsScalar}
use Rattle.std.proofs.lemmas.Bool.{or_parts}
use Rattle.icu_normalizer_core.specs.Canonical.{IsDecomposing}
use Rattle.icu_normalizer_core.specs.CanonicalMeaning.{meaning}
use Rattle.icu_collator.proofs.boundaries.SafeCharacterLemmas.{noted_plain}
use Rattle.icu_collator.proofs.common_front.next.noted_element.Goals as goal

pub returns : goal.returns
returns c =
    let source = c.args.checked.now in
    let scalar : IsScalar c.args.c = search rules in
    let decomposing : IsDecomposing (meaning source.canonical) = subst (λ tables. IsDecomposing (meaning tables)) c.canonical.ensures c.keep_promise.ensures.decomposing in
    let tilde : (c.args.c == 0x303) ≡ false = (or_parts ((c.args.c == 0x300) || (c.args.c == 0x301)) (c.args.c == 0x303) c.in_ok-element.ensures.unaccented).1 in
    noted_plain source c.args.c c.in_ok-element.element decomposing scalar tilde c.in_ok-element.ensures.plain
