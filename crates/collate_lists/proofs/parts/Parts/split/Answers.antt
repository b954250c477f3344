use Rattle.std.proofs.Common.{◌≡◌, ◌+◌, length, insert, sym, ap, ◌∙◌, arith, slice_index}
use Rattle.collate_lists.specs.Lists.{starts_of}
use Rattle.collate_lists.proofs.Rows.{length-starts_from, list_ends}
use Rattle.collate_lists.proofs.PartIndices.{free_in_halves}
use Rattle.collate_lists.proofs.parts.Parts.split.Goals as goal

pub at-start-requires : goal.at-start-requires
at-start-requires c = omega (arith, c.requires.part, ap length c.requires.sound.starts, length-starts_from 0 c.args.self.now.lists.items)

pub overflow_add-start : goal.overflow_add-start
overflow_add-start c =
    let lists = c.args.self.now.lists.items in
    let here : c.at-start.result ≡ slice_index (starts_of lists) c.args.part = c.at-start.ensures ∙ ap (λ xs. slice_index xs c.args.part) c.requires.sound.starts in
    omega (arith, here, list_ends 0 lists c.args.part c.requires.part, c.requires.full, c.requires.sound.count)

pub insert-requires-clause-index : goal.insert-requires-clause-index
insert-requires-clause-index c = omega (arith, c.requires.part, ap length c.requires.sound.starts, length-starts_from 0 c.args.self.now.lists.items)

pub returns-clause-sound : goal.returns-clause-sound
returns-clause-sound c =
    let part = c.args.part in
    let lists = c.args.self.now.lists.items in
    let start = c.at-start.result + 256 in
    let here : start ≡ slice_index (starts_of lists) part + 256 = ap (λ n. n + 256) (c.at-start.ensures ∙ ap (λ xs. slice_index xs part) c.requires.sound.starts) in
    record {
      starts = c.insert.ensures.ranks ∙ ap (λ xs. insert xs (part + 1) start) c.requires.sound.starts ∙ ap (λ n. insert (starts_of lists) (part + 1) n) here ∙ sym c.halve.ensures.starts;
      based = c.insert.ensures.based;
      count = c.requires.sound.count ∙ ap length (sym c.halve.ensures.values);
      room = c.halve.ensures.room;
      spare = cc;
    }

pub returns-clause-lower : goal.returns-clause-lower
returns-clause-lower c =
    λ rank index at. (free_in_halves c.args.self.now.lists.items c.halve.new.lists.items c.args.part index rank 256 (omega arith) c.requires.full c.halve.ensures.starts c.halve.ensures.lengths at).0

pub returns-clause-upper : goal.returns-clause-upper
returns-clause-upper c =
    λ rank index at. (free_in_halves c.args.self.now.lists.items c.halve.new.lists.items c.args.part index rank 256 (omega arith) c.requires.full c.halve.ensures.starts c.halve.ensures.lengths at).1
