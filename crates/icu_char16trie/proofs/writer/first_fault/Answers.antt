use Rattle.std.proofs.Common.{ℕ, ℤ, List, [], Bor, pos}
use Rattle.icu_char16trie.specs.WrittenUnits.{keyed}
use Rattle.icu_char16trie.proofs.Writing.KeyFaultLemmas.{none_more, none_all, key_none, empty_at, not_empty_at, unsorted_at, sorted_at, first_sorted, untrue}
use Rattle.icu_char16trie.proofs.writer.first_fault.Goals as goal
use Rattle.icu_char16trie.proofs.writer.first_fault.Goals.{else-index-gt0-via-then-index-gt0+else-not-comes_before, else-index-gt0-via-else-index-gt0}

-- what stands at no index
abbrev no_key : Bor (List ℕ) × ℤ
no_key = (record { ref_ptr = (0, 0); now = [] }, pos 0)

pub returns-then-is_empty : goal.returns-then-is_empty
returns-then-is_empty c =
    (c.loop-index.invariant, empty_at c.args.pairs.now c.loop-index.index no_key c.loop-index-test.true (key_none _ c.is_empty.result c.is_empty.ensures c.if-is_empty.true))

pub returns-then-not-comes_before : goal.returns-then-not-comes_before
returns-then-not-comes_before c = (
  c.loop-index.invariant,
  not_empty_at c.args.pairs.now c.loop-index.index no_key c.loop-index-test.true c.is_empty.result c.is_empty.ensures c.if-is_empty.false,
  unsorted_at c.args.pairs.now c.loop-index.index no_key c.loop-index-test.true c.if-index-gt0.true (untrue c.comes_before.result c.comes_before.ensures c.if-not-comes_before.true),
)

pub loop-index-preserved : goal.loop-index-preserved
loop-index-preserved c =
    none_more (keyed c.args.pairs.now) c.loop-index.index c.loop-index.invariant
    (not_empty_at c.args.pairs.now c.loop-index.index no_key c.loop-index-test.true c.is_empty.result c.is_empty.ensures c.if-is_empty.false)
    (elim c.else-index-gt0.branch [
      | else-index-gt0-via-then-index-gt0+else-not-comes_before w ↦ sorted_at c.args.pairs.now c.loop-index.index no_key c.loop-index-test.true (w.comes_before.ensures.0 w.if-not-comes_before.false)
      | else-index-gt0-via-else-index-gt0 w ↦ first_sorted (keyed c.args.pairs.now) c.loop-index.index w.if-index-gt0.false
    ])

pub returns : goal.returns
returns c = none_all c.args.pairs.now c.loop-index.index c.loop-index.invariant c.loop-index-test.false
