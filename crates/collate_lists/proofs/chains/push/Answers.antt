use Rattle.std.proofs.Common.{◌≡◌, ℕ, List, length, sym, ◌∙◌, subst}
use Rattle.collate_lists.specs.Chains.{IsLinkedTo}
use Rattle.collate_lists.specs.declared.chains.Link.{Link}
use Rattle.collate_lists.proofs.ChainLemmas.{linked_push}
use Rattle.collate_lists.proofs.chains.push.Goals as goal

pub put_in-requires-clause-linked : goal.put_in-requires-clause-linked
put_in-requires-clause-linked c =
    let heads : List ℕ = c.args.heads.now.items in
    let links : List Link = c.args.links.now.items in
    let slot : c.len-slot.result ≡ length links = c.len-slot.ensures ∙ c.args.links.now.ok.0 in
    subst (IsLinkedTo heads c.push_reserved.new.self.items) (sym slot)
    (subst (λ (ls : List Link). IsLinkedTo heads ls (length links)) (sym c.push_reserved.ensures.items)
    (linked_push heads links (record { hash = c.args.hash; before = 0 }) c.requires.linked.all))
