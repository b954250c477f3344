use Rattle.std.proofs.Common.{◌≡◌, ◌∙◌, ap, nat_cmp}
use Rattle.collate_lists.proofs.SlotFrontLemmas.{fronts_tell}
use Rattle.collate_lists.proofs.fronts.Front.compare.Goals as goal

pub returns-in_default-clause-told : goal.returns-in_default-clause-told
returns-in_default-clause-told c = λ bytes others f g n.
    let is : c.cmp.result ≡ nat_cmp c.args.self.now c.args.other.now = c.cmp.ensures ∙ ap (λ x. nat_cmp x c.other.inside.value) c.self.view_is ∙ ap (λ y. nat_cmp c.args.self.now y) c.other.view_is in
    fronts_tell c.args.self.now c.args.other.now bytes others c.cmp.result f g is n
