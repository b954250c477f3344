use Rattle.std.proofs.Common.{string_bytes, sym, ap, ◌∙◌}
use lib.Utf8.{encode}
use Rattle.icu_collections_sets.specs.Spelling.{spelling}
use Rattle.icu_collections_sets.proofs.texts.SpellingLemmas.{written, spelling-other, spelling-surrogate, not_surrogate, surrogate_of}
use Rattle.icu_collections_sets.proofs.json.spelling.push_code_point.Goals as goal

pub returns-in-Some : goal.returns-in-Some
returns-in-Some c =
    let code_point = c.args.code_point in
    let same = ap encode c.in-Some.ensures.value.1 ∙ sym (spelling-other code_point (not_surrogate code_point c.in-Some.ensures.cases)) in
    written c.push.result (string_bytes c.args.text.now) _ (encode c.in-Some.character) (spelling code_point) c.push.ensures.bytes same

pub returns-in-None : goal.returns-in-None
returns-in-None c =
    rw (spelling-surrogate c.args.code_point (surrogate_of c.args.code_point c.requires c.in-None.ensures.cases)) c.push_surrogate.ensures
