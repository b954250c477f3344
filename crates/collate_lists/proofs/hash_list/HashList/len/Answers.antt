use Rattle.std.proofs.Common.{sym, ap, ◌∙◌, length}
use Rattle.std.proofs.lemmas.List.{length-map}
use Rattle.collate_lists.specs.Listed.{Listed}
use Rattle.collate_lists.specs.declared.chains.Link.{Link}
use Rattle.collate_lists.proofs.hash_list.HashList.len.Goals as goal

pub returns : goal.returns
returns c = c.len.ensures ∙ c.self.inside.links.ok.0 ∙ sym (length-map c.self.inside.links.items (λ (link : Link). link.hash)) ∙ ap (λ (s : Listed). length s.hashes) c.self.view_is
