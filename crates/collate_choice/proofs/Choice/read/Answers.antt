use Rattle.std.proofs.Common.{◌≡◌, ℕ, List, map, ap, subst}
use Rattle.std.specs.String.{string_bytes}
use Rattle.collate_choice.specs.Choices.{options_of}
use Rattle.collate_choice.specs.GivenOptions.{AreWordsOf}
use Rattle.collate_choice.proofs.Choice.read.Goals as goal

pub returns-in_default : goal.returns-in_default
returns-in_default c choice chosen =
    let given = options_of choice.prefs choice.options in
    let parted = ap (map string_bytes) c.in_ok-file.ensures.cases.0 in
    let rest : chosen.rest ≡ map string_bytes c.in_ok-file.rest.now = cc (parted, chosen.words_are) in
    c.in_default.ensures given (subst (λ (words : List (List ℕ)). AreWordsOf given words) rest chosen.given)
