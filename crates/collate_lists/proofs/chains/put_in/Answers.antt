use Rattle.std.proofs.Common.{◌≡◌, ℕ, ◌%◌, ◌<◌, List, length, get_or, refl, sym, ap, ◌∙◌, arith}
use Rattle.collate_lists.specs.Chains.{hashes_of}
use Rattle.collate_lists.specs.declared.chains.Link.{Link}
use Rattle.collate_lists.proofs.ChainLemmas.{hash_read, head_read, linked_empty, linked_put, same_hashes}
use Rattle.collate_lists.proofs.chains.put_in.Goals as goal

pub returns-then-hash-gt0-clause-linked : goal.returns-then-hash-gt0-clause-linked
returns-then-hash-gt0-clause-linked c =
    let heads : List ℕ = c.args.heads.now.items in
    let links : List Link = c.args.links.now.items in
    let link : Link = c.index.result.now in
    let many : c.len.result ≡ length heads = c.len.ensures ∙ c.args.heads.now.ok.0 in
    let within : c.bucket_of-bucket.result < length heads = omega (arith, c.bucket_of-bucket.ensures.within, many) in
    linked_put heads links c.args.slot link.hash c.bucket_of-bucket.result c.index-before.result.now c.requires.slot within (omega (arith, c.if-hash-gt0.true))
    (sym (c.bucket_of-bucket.ensures.bucket ∙ ap (λ n. link.hash % n) many)) (hash_read links c.args.slot link c.requires.slot c.index.ensures)
    (head_read heads c.bucket_of-bucket.result c.index-before.result.now within c.index-before.ensures) c.requires.linked
    (record { hash = link.hash; before = c.index-before.result.now }) refl refl

pub returns-then-hash-gt0-clause-hashes : goal.returns-then-hash-gt0-clause-hashes
returns-then-hash-gt0-clause-hashes c =
    let links : List Link = c.args.links.now.items in
    let link : Link = c.index.result.now in
    same_hashes links c.args.slot link.hash (hash_read links c.args.slot link c.requires.slot c.index.ensures) (record { hash = link.hash; before = c.index-before.result.now }) refl

pub returns-else-hash-gt0-clause-linked : goal.returns-else-hash-gt0-clause-linked
returns-else-hash-gt0-clause-linked c =
    let links : List Link = c.args.links.now.items in
    let link : Link = c.index.result.now in
    let is : link.hash ≡ get_or (hashes_of links) c.args.slot 0 = hash_read links c.args.slot link c.requires.slot c.index.ensures in
    linked_empty c.args.heads.now.items links c.args.slot (omega (arith, is, c.if-hash-gt0.false)) c.requires.linked
