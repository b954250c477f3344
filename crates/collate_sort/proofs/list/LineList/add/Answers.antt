use Rattle.std.proofs.Common.{◌++◌, ◌∙◌, ℕ, List, ap}
use Rattle.std.specs.Prelude.{unwrap_or}
use Rattle.std.specs.Option.{option_copied}
use Rattle.collate_sort.specs.Keys.{key_by_rule}
use Rattle.collate_sort.proofs.ListLemmas.{added_keyed, added_listing}
use Rattle.collate_sort.proofs.list.LineList.add.Goals as goal

pub invariant_of-self-2 : goal.invariant_of-self-2
invariant_of-self-2 c = record {
  accepted = c.self.invariant.accepted;
  keyed =
      added_keyed c.self.inside c.self.invariant c.args.self.now c.self.view_is c.add.result c.add.new.self c.args.line.now
      (unwrap_or (option_copied c.args.text) c.args.line.now) c.as_slice.result.now (c.as_slice.ensures.value ∙ c.in_ok-write_key.ensures ∙ ap (λ (ks : List ℕ). ks ++ key_by_rule c.self.inside.order.now c.compared.result.now) c.clear.ensures.items ∙ ap (key_by_rule c.self.inside.order.now) c.compared.ensures) c.add.ensures.added c.add.ensures.unchanged;
}

pub returns-clause-added : goal.returns-clause-added
returns-clause-added c =
    added_listing c.self.inside c.self.invariant c.args.self.now c.self.view_is c.add.result c.add.new.self c.args.line.now
    (unwrap_or (option_copied c.args.text) c.args.line.now) c.as_slice.result.now (c.as_slice.ensures.value ∙ c.in_ok-write_key.ensures ∙ ap (λ (ks : List ℕ). ks ++ key_by_rule c.self.inside.order.now c.compared.result.now) c.clear.ensures.items ∙ ap (key_by_rule c.self.inside.order.now) c.compared.ensures) c.add.ensures.added c.add.ensures.unchanged
