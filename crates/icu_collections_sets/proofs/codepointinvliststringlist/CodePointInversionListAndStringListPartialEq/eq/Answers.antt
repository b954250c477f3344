use Rattle.std.proofs.Common.{◌≡◌, true, sym, ◌∙◌}
use Rattle.std.specs.Prelude.{nat_eq}
use Rattle.std.specs.Cmp.Lexicographic.{pointwise}
use Rattle.icu_collections_sets.proofs.texts.TextLemmas.{equal_texts}
use Rattle.icu_collections_sets.proofs.codepointinvliststringlist.CodePointInversionListAndStringListPartialEq.eq.Goals as goal

pub returns-then-eq : goal.returns-then-eq
returns-then-eq c =
    let same : pointwise nat_eq c.self.inside.code_points c.other.inside.code_points ≡ true = sym c.eq.ensures ∙ c.if-eq.true in
    rw (← c.self.view_is, ← c.other.view_is, same) (c.eq-then-eq.ensures ∙ equal_texts c.self.inside.strings.items c.other.inside.strings.items)
