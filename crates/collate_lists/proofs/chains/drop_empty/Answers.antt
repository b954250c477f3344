use Rattle.std.proofs.Common.{◌≡◌, ap, ◌∙◌, rules}
use Rattle.std.specs.List.{filter}
use Rattle.std.proofs.lemmas.Fn.{filter_same}
use Rattle.collate_lists.specs.Hashes.{is_hash}
use Rattle.collate_lists.specs.Chains.{hashes_of}
use Rattle.collate_lists.specs.declared.chains.Link.{Link}
use Rattle.collate_lists.proofs.ChainLemmas.{filtered}
use Rattle.collate_lists.proofs.chains.drop_empty.Goals as goal

pub returns-clause-hashes : goal.returns-clause-hashes
returns-clause-hashes c =
    let kept : c.retain.new.self.items ≡ filter (λ (link : Link). is_hash link.hash) c.args.links.now.items = filter_same _ _ _ (λ x b f' k. search rules) _ _ c.retain.ensures.filtered in
    c.relink.ensures.hashes ∙ ap hashes_of kept ∙ filtered c.args.links.now.items
