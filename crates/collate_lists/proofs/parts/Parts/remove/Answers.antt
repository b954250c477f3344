use Rattle.std.proofs.Common.{◌≡◌, ◌+◌, ◌<◌, All, length, drop, remove, sym, ap, ◌∙◌, subst, arith}
use Rattle.std.proofs.lemmas.List.Edits.{length-remove}
use Rattle.collate_lists.specs.Lists.{joined, lowered, rank_of}
use Rattle.collate_lists.proofs.Rows.{length-starts_from}
use Rattle.collate_lists.proofs.PartIndices.{lower_ready}
use Rattle.collate_lists.proofs.parts.Parts.remove.Goals as goal

pub lower-requires-clause-within : goal.lower-requires-clause-within
lower-requires-clause-within c = omega (arith, c.find-part.ensures.index.within, ap length c.requires.sound.starts, length-starts_from 0 c.args.self.now.lists.items)

pub lower-requires-clause-space : goal.lower-requires-clause-space
lower-requires-clause-space c =
    let part = c.find-part.result.0 in
    subst (λ xs. All (λ start. 0 < start) (drop (part + 1) xs)) (sym c.requires.sound.starts)
    (lower_ready c.args.self.now.lists.items part c.find-part.ensures.index.within (omega (arith, c.find-part.ensures.inside c.requires.rank)))

pub tidy-requires-clause-sound : goal.tidy-requires-clause-sound
tidy-requires-clause-sound c =
    let part = c.find-part.result.0 in
    let rank = rank_of c.args.self.now.lists.items part c.find-part.result.1 in
    let before = joined c.args.self.now.lists.items in
    let fewer : length (remove before rank) + 1 ≡ length before = length-remove before rank (omega (arith, c.find-part.ensures.index.ranked, c.requires.sound.count, c.requires.rank)) in
    record {
      starts = c.lower.ensures.ranks ∙ ap (λ xs. lowered (part + 1) xs) c.requires.sound.starts ∙ sym c.take_out-value.ensures.starts;
      based = c.lower.ensures.based;
      count = omega (arith, ap length c.take_out-value.ensures.values, fewer, c.requires.sound.count);
      room = c.take_out-value.ensures.room;
      spare = c.requires.sound.spare;
    }
