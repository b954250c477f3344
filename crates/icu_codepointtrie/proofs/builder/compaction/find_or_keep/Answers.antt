use Rattle.std.proofs.Common.{◌≡◌, ℕ, List, map, sym, ◌∙◌, arith}
use Rattle.std.specs.Prelude.{None}
use Rattle.std.specs.HashMap.{get}
use Rattle.std.proofs.lemmas.List.{length-map}
use Rattle.icu_codepointtrie.specs.Blocks.{has_same_numbers}
use Rattle.icu_codepointtrie.proofs.built.BlockLemmas.{AreKept-push, IsFound-push, not_found}
use Rattle.icu_codepointtrie.proofs.builder.compaction.find_or_keep.Goals as goal

pub returns-clause-kept : goal.returns-clause-kept
returns-clause-kept g c =
    let number = g.T.TrieValue.number in
    let numbers : List ℕ = map number c.args.values.now in
    let none : get has_same_numbers c.args.found.now c.in_ok-block.block ≡ None = sym c.get.ensures.value ∙ sym c.copied.ensures ∙ c.in_default.is in
    rw c.in_ok-push.ensures.items (AreKept-push c.args.width numbers c.args.first c.args.number c.args.kept.now.items c.requires.first (omega (arith, length-map c.args.values.now number)) c.requires.kept
    (not_found c.args.width numbers c.args.kept.now.items c.args.number _ _ c.in_ok-block.ensures none (c.requires.found c.in_ok-block.block)))

pub returns-clause-found : goal.returns-clause-found
returns-clause-found g c q =
    rw c.in_ok-push.ensures.items (IsFound-push c.args.width (map g.T.TrieValue.number c.args.values.now) c.args.kept.now.items c.args.number c.len-slot.result q.numbers.items c.in_ok-block.block.numbers.items
    (get has_same_numbers c.args.found.now q) _ c.in_ok-block.ensures (omega arith) (c.in_ok-insert.ensures.updates.0 q) (c.requires.found q))
