use Rattle.std.proofs.Common.{◌++◌, sym, ap, ◌∙◌}
use lib.Utf8.{encode}
use Rattle.icu_collections_sets.proofs.texts.SpellingLemmas.{IsCharBoundary-number, BeginsWith-surrogate, BeginsWith-character, scalar_first}
use Rattle.icu_collections_sets.proofs.json.spelling.read_code_point.Goals as goal

pub range_from-requires : goal.range_from-requires
range_from-requires c =
    let begins = rw c.as_bytes.ensures.value at c.in-Some.ensures in
    λ _. IsCharBoundary-number c.args.text.now c.in-Some.surrogate c.utf8.text begins

pub returns-in-Some : goal.returns-in-Some
returns-in-Some c =
    let begins = rw c.as_bytes.ensures.value at c.in-Some.ensures in
    BeginsWith-surrogate c.args.text.now c.range_from.result.now c.in-Some.surrogate begins c.range_from.ensures.value

pub returns : goal.returns
returns c =
    let split = sym c.chars-characters.ensures.rest ∙ c.in_ok-character.ensures.steps.0 ∙ ap (λ r. encode c.in_ok-character.character ++ r) (sym c.as_str.ensures) in
    let character = scalar_first c.args.text.now c.as_str.result.now c.in_ok-character.character c.utf8.text split in
    BeginsWith-character c.args.text.now c.as_str.result.now c.in_ok-character.character character.0 character.1 split (λ s tail is f. c.in_default.ensures s tail is (c.as_bytes.ensures.value ∙ f))
