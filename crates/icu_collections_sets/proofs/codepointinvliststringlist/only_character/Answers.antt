use Rattle.std.proofs.Common.{◌++◌, sym, ap, ◌∙◌, arith}
use Rattle.std.proofs.lemmas.Bool.Decides.{nat_tests}
use lib.Utf8.{encode}
use Rattle.icu_collections_sets.proofs.texts.StringListLemmas.{chars_only, chars_more}
use Rattle.icu_collections_sets.proofs.codepointinvliststringlist.only_character.Goals as goal

pub returns-then-is_empty : goal.returns-then-is_empty
returns-then-is_empty c =
    let split = sym c.chars-characters.ensures.rest ∙ c.in_ok-character.ensures.steps.0 ∙ ap (λ r. encode c.in_ok-character.character ++ r) (sym c.as_str.ensures) in
    chars_only _ c.as_str.result.now _ c.utf8.text split (grind (arith, nat_tests))

pub returns-else-is_empty : goal.returns-else-is_empty
returns-else-is_empty c =
    let split = sym c.chars-characters.ensures.rest ∙ c.in_ok-character.ensures.steps.0 ∙ ap (λ r. encode c.in_ok-character.character ++ r) (sym c.as_str.ensures) in
    chars_more _ c.as_str.result.now c.in_ok-character.character c.utf8.text split (λ none. grind (arith, nat_tests))
