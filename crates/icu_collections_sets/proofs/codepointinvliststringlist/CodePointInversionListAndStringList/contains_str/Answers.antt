use Rattle.std.proofs.Common.{String, Global, map, string_bytes, nat_cmp, rules}
use Rattle.std.proofs.lemmas.Fn.{always_returns_same}
use Rattle.std.specs.Cmp.Lexicographic.{slice_cmp}
use Rattle.icu_collections_sets.specs.StringList.{AreStrings}
use Rattle.icu_collections_sets.proofs.texts.StringListLemmas.{searched_text}
use Rattle.icu_collections_sets.proofs.codepointinvliststringlist.CodePointInversionListAndStringList.contains_str.Goals as goal

pub returns-in-None-clause-string : goal.returns-in-None-clause-string
returns-in-None-clause-string c =
    let text = c.args.text.now in
    let strings = c.deref.result.now in
    let valid : AreStrings (map string_bytes strings) = rw c.deref.ensures.value c.self.invariant in
    let found = c.binary_search_by.ensures.position (λ (s : String Global). slice_cmp nat_cmp (string_bytes s) text) (always_returns_same _ _ _ (λ a r f' k. search rules)) in
    let all = searched_text strings text c.binary_search_by.result valid c.binary_search_by.ensures.bound found in
    λ _. rw (c.is_ok.ensures.value, ← c.self.view_is, ← c.deref.ensures.value) all
