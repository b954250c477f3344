use Rattle.std.proofs.Common.{◌≡◌, ℕ, ◌≤◌, [], List, length, insert, sym, ap, ◌∙◌, subst, arith}
use Rattle.std.specs.Prelude.{vec_capacity}
use Rattle.std.specs.Global.{Vec}
use Rattle.collate_lists.specs.Lists.{joined, starts_of, AreRoomy}
use Rattle.collate_lists.specs.Parts.{IsFreeFor}
use Rattle.collate_lists.specs.declared.windows.FrontedSlot.{FrontedSlot}
use Rattle.collate_lists.proofs.Rows.{length-starts_from}
use Rattle.collate_lists.proofs.PartIndices.{free_behind, joined_behind, roomy_behind, starts_behind}
use Rattle.collate_lists.proofs.parts.Parts.append.Goals as goal

pub insert-requires-clause-index : goal.insert-requires-clause-index
insert-requires-clause-index c =
    let lists = c.args.self.now.lists in
    omega (arith, ap length c.requires.sound.starts, length-starts_from 0 lists.items, lists.ok.0, c.len-part.ensures)

pub returns-clause-sound : goal.returns-clause-sound
returns-clause-sound c =
    let lists = c.args.self.now.lists in
    let list = c.replace-list.result in
    let count = c.args.self.now.count in
    let none : list.items ≡ [] = ap (λ (v : Vec FrontedSlot). v.items) c.replace-list.ensures.value ∙ c.requires.sound.spare in
    let memory : 512 ≤ vec_capacity list = omega (arith, ap (λ (v : Vec FrontedSlot). vec_capacity v) c.replace-list.ensures.value, c.requires.room.spare) in
    let part : c.len-part.result ≡ length lists.items = omega (arith, c.len-part.ensures, lists.ok.0) in
    record {
      starts =
          c.insert.ensures.ranks
          ∙ ap (λ (xs : List ℕ). insert xs c.len-part.result count) c.requires.sound.starts
          ∙ ap (λ (n : ℕ). insert (starts_of lists.items) n count) part
          ∙ starts_behind lists.items list none count c.requires.sound.count
          ∙ sym (ap starts_of c.push_reserved.ensures.items);
      based = c.insert.ensures.based;
      count = c.requires.sound.count ∙ ap length (sym (ap joined c.push_reserved.ensures.items ∙ joined_behind lists.items list none));
      room = subst AreRoomy (sym c.push_reserved.ensures.items) (roomy_behind lists.items list none c.requires.sound.room memory);
      spare = cc;
    }

pub returns-clause-values : goal.returns-clause-values
returns-clause-values c =
    let list = c.replace-list.result in
    let none : list.items ≡ [] = ap (λ (v : Vec FrontedSlot). v.items) c.replace-list.ensures.value ∙ c.requires.sound.spare in
    ap joined c.push_reserved.ensures.items ∙ joined_behind c.args.self.now.lists.items list none

pub returns-clause-free : goal.returns-clause-free
returns-clause-free c =
    let lists = c.args.self.now.lists in
    let list = c.replace-list.result in
    let none : list.items ≡ [] = ap (λ (v : Vec FrontedSlot). v.items) c.replace-list.ensures.value ∙ c.requires.sound.spare in
    subst (λ (ls : List (Vec FrontedSlot)). IsFreeFor ls c.args.self.now.count (length lists.items) 0) (sym c.push_reserved.ensures.items)
    (free_behind lists.items list none c.args.self.now.count c.requires.sound.count)
