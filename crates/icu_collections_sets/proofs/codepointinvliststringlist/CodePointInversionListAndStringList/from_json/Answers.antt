use Rattle.std.proofs.Common.{map, string_bytes, ◌∙◌}
use Rattle.std.proofs.lemmas.Result.{err_from_is_err_and}
use Rattle.serde_json.specs.View.{view}
use Rattle.icu_collections_sets.specs.StringList.{CodePointsAndStrings}
use Rattle.icu_collections_sets.specs.declared.json.error.JsonError.TheVariants.{JsonShape, Strings}
use Rattle.icu_collections_sets.proofs.texts.JsonStringListLemmas.{refused_members, refused_list, refused_strings, not_refused_string_list, one_string_list, IsStringListJson-members}
use Rattle.icu_collections_sets.proofs.codepointinvliststringlist.CodePointInversionListAndStringList.from_json.Goals as goal

pub returns-in_default-clause-exact : goal.returns-in_default-clause-exact
returns-in_default-clause-exact c = refused_members (view c.args.value.now) c.in_default.ensures

pub returns-in_default-clause-reads : goal.returns-in_default-clause-reads
returns-in_default-clause-reads c = λ set h.
    not_refused_string_list (view c.args.value.now) set JsonShape h (refused_members (view c.args.value.now) c.in_default.ensures)

pub returns-in_err-code_points-clause-reads : goal.returns-in_err-code_points-clause-reads
returns-in_err-code_points-clause-reads c = λ set h.
    let p = err_from_is_err_and c.from_residual-in_err-code_points.result c.from_residual-in_err-code_points.ensures.1 in
    let refused = refused_list (view c.args.value.now) (view c.in-Some.list.now) (view c.in-Some.texts.now) (map string_bytes c.in_ok-strings.strings.items) c.in_err-code_points.field-0.0 c.in-Some.ensures c.in_ok-strings.ensures c.in_err-code_points.ensures.exact in
    rw (p.1, p.2) (not_refused_string_list (view c.args.value.now) set c.in_err-code_points.field-0.0 h refused)

pub returns-in-Ok-clause-reads : goal.returns-in-Ok-clause-reads
returns-in-Ok-clause-reads c = λ set h.
    let value = view c.args.value.now in
    let read : CodePointsAndStrings = record { code_points = c.in_ok-code_points.code_points; strings = map string_bytes c.in_ok-strings.strings.items } in
    let own = IsStringListJson-members value (view c.in-Some.list.now) (view c.in-Some.texts.now) read c.in-Some.ensures c.in_ok-strings.ensures c.in_ok-code_points.ensures.exact c.in-Ok.ensures.0 in
    c.in-Ok.ensures.1 ∙ one_string_list value read set own h

pub returns-in-Err-clause-reads : goal.returns-in-Err-clause-reads
returns-in-Err-clause-reads c = λ set h.
    let value = view c.args.value.now in
    let refused = refused_strings value (view c.in-Some.list.now) (view c.in-Some.texts.now) (map string_bytes c.in_ok-strings.strings.items) c.in_ok-code_points.code_points c.in-Err.fault c.in-Some.ensures c.in_ok-strings.ensures c.in_ok-code_points.ensures.exact c.in-Err.ensures in
    not_refused_string_list value set (Strings c.in-Err.fault) h refused
