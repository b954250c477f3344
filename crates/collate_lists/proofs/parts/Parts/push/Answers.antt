use Rattle.std.proofs.Common.{ℕ, List, ◌++◌, ◌∷◌, [], ap, sym, subst, ◌∙◌, insert, arith}
use Rattle.std.proofs.lemmas.List.Edits.{insert_end}
use Rattle.collate_lists.specs.Lists.{joined}
use Rattle.collate_lists.specs.Parts.{IsFreeFor}
use Rattle.collate_lists.specs.declared.windows.FrontedSlot.{FrontedSlot}
use Rattle.collate_lists.proofs.parts.Parts.push.Goals as goal

pub put_at-requires-clause-free : goal.put_at-requires-clause-free
put_at-requires-clause-free c =
    let free = c.last_index-part.ensures.free in
    subst (λ (rank : ℕ). IsFreeFor c.last_index-part.new.self.lists.items rank c.last_index-part.result.0 c.last_index-part.result.1) (sym free.at.ranked) free

pub returns-clause-values : goal.returns-clause-values
returns-clause-values c =
    let values : List FrontedSlot = joined c.last_index-part.new.self.lists.items in
    c.put_at.ensures.values
    ∙ ap (λ n. insert values n c.args.value) (c.last_index-part.ensures.free.at.ranked ∙ c.last_index-part.ensures.sound.count)
    ∙ insert_end values c.args.value
    ∙ ap (λ (xs : List FrontedSlot). xs ++ c.args.value ∷ []) c.last_index-part.ensures.values

pub put_at-requires-clause-rank : goal.put_at-requires-clause-rank
put_at-requires-clause-rank c = omega (arith, c.last_index-part.ensures.free.at.ranked)
