use Rattle.std.proofs.Common.{◌≡◌, sym, subst, arith, rules}
use Rattle.std.proofs.lemmas.Grind.{common_steps}
use Rattle.serde_json.specs.Data.{Data}
use Rattle.serde_json.specs.View.{view}
use Rattle.icu_collections_sets.specs.CodePoints.{IsInversionList}
use Rattle.icu_collections_sets.specs.JsonStringList.{string_list_json_of, IsStringListJson}
use Rattle.icu_collections_sets.proofs.texts.JsonStringListLemmas.{IsStringListJson-json_of}
use Rattle.icu_collections_sets.proofs.codepointinvliststringlist.CodePointInversionListAndStringList.to_json.Goals as goal

pub returns-clause-stands : goal.returns-clause-stands
returns-clause-stands c =
    let set = c.args.self.now in
    let written : view c.from.result ≡ string_list_json_of set = first_of (search rules, grind (arith, common_steps)) in
    let list = subst IsInversionList c.code_points.ensures c.in_ok-code_points.ensures.stands.spell.list in
    subst (λ (v : Data). IsStringListJson v set) (sym written) (IsStringListJson-json_of set list c.strings.ensures.valid)
