use Rattle.std.proofs.Common.{map, string_bytes, sym, ap, subst, ◌∙◌}
use Rattle.icu_collections_sets.specs.StringList.{AreStrings}
use Rattle.icu_collections_sets.proofs.texts.TextLemmas.{same_texts, set_of}
use Rattle.icu_collections_sets.proofs.codepointinvliststringlist.CodePointInversionListAndStringList.clone.Goals as goal

pub invariant_of-result : goal.invariant_of-result
invariant_of-result c = subst AreStrings (sym (same_texts c.self.inside.strings.items c.in_ok-strings.strings.items c.in_ok-strings.ensures.cases.0)) c.self.invariant

pub returns : goal.returns
returns c =
    ap (λ code_points. set_of code_points (map string_bytes c.in_ok-strings.strings.items)) c.in_ok-code_points.ensures
    ∙ ap (λ texts. set_of c.self.inside.code_points texts) (same_texts c.self.inside.strings.items c.in_ok-strings.strings.items c.in_ok-strings.ensures.cases.0)
    ∙ c.self.view_is
