use Rattle.std.proofs.Common.{◌++◌, ◌∷◌, [], ◌∙◌, List, ap, arith, subst, sym}
use Rattle.std.specs.Prelude.{unwrap_or}
use Rattle.std.specs.Option.{option_copied}
use Rattle.collate_lists.specs.Fronts.{IsFrontOf}
use Rattle.collate_keyed_lines.specs.KeyedLines.{KeyedLine}
use Rattle.collate_keyed_lines.specs.Slots.{line_between}
use Rattle.collate_keyed_lines.specs.declared.lines.KeyedLines.TheInside.{Inside}
use Rattle.collate_keyed_lines.specs.declared.slots.Bounds.{Bounds}
use Rattle.collate_keyed_lines.specs.declared.slots.Slot.{Slot}
use Rattle.collate_keyed_lines.proofs.AddedLemmas.{added_kept, added_lines}
use Rattle.collate_keyed_lines.proofs.lines.KeyedLines.add.Goals as goal

pub invariant_of-self-2 : goal.invariant_of-self-2
invariant_of-self-2 c =
    let t : Inside = record { bytes = c.append.new.bytes; bounds = c.push_reserved.new.self; slots = c.push_reserved-2.new.self } in
    let slot : Slot = record { front = c.front_of-front.result; index = c.len-index.result } in
    added_kept c.self.inside t c.self.invariant (c.args.line.now ++ (unwrap_or (option_copied c.args.text) [] ++ c.args.key.now)) c.in_ok-bounds.bounds slot
    c.in_ok-bounds.ensures.kept
    (c.push_reserved.ensures.items ∙ ap (λ (bs : List Bounds). bs ++ c.in_ok-bounds.bounds ∷ []) c.in_ok-reserve.ensures.items)
    (c.push_reserved-2.ensures.items ∙ ap (λ (ss : List Slot). ss ++ slot ∷ []) c.in_ok-reserve-2.ensures.items)
    c.in_ok-bounds.ensures.within (omega (arith, c.len-index.ensures, c.in_ok-reserve.ensures.len, c.self.inside.bounds.ok.0))
    (subst (λ (line : KeyedLine). IsFrontOf c.front_of-front.result line.key) (sym c.in_ok-bounds.ensures.appended) c.front_of-front.ensures)

pub returns-clause-added : goal.returns-clause-added
returns-clause-added c =
    let t : Inside = record { bytes = c.append.new.bytes; bounds = c.push_reserved.new.self; slots = c.push_reserved-2.new.self } in
    let slot : Slot = record { front = c.front_of-front.result; index = c.len-index.result } in
    added_lines c.self.inside t c.self.invariant (c.args.line.now ++ (unwrap_or (option_copied c.args.text) [] ++ c.args.key.now)) c.in_ok-bounds.bounds slot
    c.in_ok-bounds.ensures.kept
    (c.push_reserved.ensures.items ∙ ap (λ (bs : List Bounds). bs ++ c.in_ok-bounds.bounds ∷ []) c.in_ok-reserve.ensures.items)
    (c.push_reserved-2.ensures.items ∙ ap (λ (ss : List Slot). ss ++ slot ∷ []) c.in_ok-reserve-2.ensures.items)
    c.in_ok-bounds.ensures.within (omega (arith, c.len-index.ensures, c.in_ok-reserve.ensures.len, c.self.inside.bounds.ok.0))
    (subst (λ (line : KeyedLine). IsFrontOf c.front_of-front.result line.key) (sym c.in_ok-bounds.ensures.appended) c.front_of-front.ensures)
    ∙ ap (λ (lines : List KeyedLine). lines ++ line_between c.append.new.bytes.items c.in_ok-bounds.bounds ∷ []) c.self.view_is
    ∙ ap (λ (line : KeyedLine). c.args.self.now ++ line ∷ []) c.in_ok-bounds.ensures.appended
