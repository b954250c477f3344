use Rattle.std.proofs.Common.{◌≡◌, ◌<◌, ◌∙◌, ◌/◌, ap, get_or, length, arith}
use Rattle.std.proofs.lemmas.List.{get_or_read}
use Rattle.collate_lists.proofs.Ranks.{length-ranks, rank_at}
use Rattle.collate_lists.proofs.starts.Starts.at.Goals as goal

pub index-requires : goal.index-requires
index-requires c = omega (arith, c.requires, c.args.self.now.offsets.ok.0, length-ranks c.args.self.now.bases.items 0 c.args.self.now.offsets.items)

pub returns : goal.returns
returns c =
    let bases = c.args.self.now.bases.items in
    let offsets = c.args.self.now.offsets.items in
    let within : c.args.index < length offsets = omega (arith, c.requires, length-ranks bases 0 offsets) in
    let offset : c.index.result.now ≡ get_or offsets c.args.index 0 = get_or_read offsets c.args.index c.index.result.now within c.index.ensures 0 in
    let base : c.base_of.result ≡ get_or bases (c.args.index / 128) 0 = c.base_of.ensures ∙ ap (λ xs. get_or xs (c.args.index / 128) 0) c.as_slice.ensures.value in
    omega (arith, rank_at bases offsets c.args.index within, offset, base)
