use Rattle.std.proofs.Common.{◌≡◌, ℕ, ◌+◌, true, List, map, refl, inr, ◌∙◌, arith, rules}
use Rattle.std.specs.Result.{is_ok}
use Rattle.icu_codepointtrie.proofs.built.BlockLemmas.{AreKept-none, AreSlots-none, FindsKept-none, AreKept-further, AreSlots-push, last_inside}
use Rattle.icu_codepointtrie.proofs.builder.compaction.Compaction.new.Goals as goal

pub loop-number-init : goal.loop-number-init
loop-number-init g c =
    let numbers : List ℕ = map g.T.TrieValue.number c.args.values.now in
    record {
      kept = AreKept-none c.args.width numbers c.args.first c.new-kept.result.items c.new-kept.ensures.items;
      slots = AreSlots-none c.args.width numbers c.args.first c.new-slots.result.items c.new-kept.result.items c.new-slots.ensures.items;
      found = FindsKept-none c.args.width numbers c.new-kept.result.items c.new-found.result c.new-kept.ensures.items c.new-found.ensures.empty;
      few = search rules;
    }

pub keep-requires-clause-last : goal.keep-requires-clause-last
keep-requires-clause-last g c =
    last_inside c.args.width (map g.T.TrieValue.number c.args.values.now) c.args.first c.loop-number.number c.loop-number.slots.items c.loop-number.kept.items c.copied-last.result (omega arith) c.loop-number.invariant.slots
    (c.copied-last.ensures ∙ (rw c.deref.ensures.value at c.last.ensures.value))

pub returns-then-len-limit-clause-refused : goal.returns-then-len-limit-clause-refused
returns-then-len-limit-clause-refused g c =
    inr (refl, (c.keep.new.kept.items, AreKept-further c.args.width (map g.T.TrieValue.number c.args.values.now) c.args.first (c.loop-number.number + 1) c.args.end c.keep.new.kept.items (omega arith) c.in_ok-slot.ensures.kept, omega arith))

pub loop-number-preserved : goal.loop-number-preserved
loop-number-preserved g c =
    let ok : is_ok c.push.result ≡ true = grind (arith, c.is_err.ensures, c.if-is_err.ensures) in
    record {
      kept = c.in_ok-slot.ensures.kept;
      slots = rw (c.push.ensures.items, ok) (AreSlots-push c.args.width (map g.T.TrieValue.number c.args.values.now) c.args.first c.loop-number.number c.loop-number.slots.items c.loop-number.kept.items c.keep.new.kept.items c.in_ok-slot.slot (omega arith) c.loop-number.invariant.slots c.in_ok-slot.ensures.grown c.in_ok-slot.ensures.slot);
      found = c.in_ok-slot.ensures.found;
      few = omega arith;
    }
