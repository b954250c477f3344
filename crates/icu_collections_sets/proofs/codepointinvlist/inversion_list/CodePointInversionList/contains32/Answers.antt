use Rattle.std.proofs.Common.{ap, sym, ◌∙◌, false}
use Rattle.icu_collections_sets.specs.CodePoints.{holds}
use Rattle.icu_collections_sets.proofs.sets.InversionListLemmas.{is_in_count, turned_out}
use Rattle.icu_collections_sets.proofs.codepointinvlist.inversion_list.CodePointInversionList.contains32.Goals as goal

pub returns : goal.returns
returns c =
    sym (turned_out c.edges_up_to.result).0 ∙ sym (is_in_count false c.self.inside.edges c.args.code_point c.edges_up_to.result c.edges_up_to.ensures)
    ∙ ap (λ xs. holds xs c.args.code_point) c.self.view_is
