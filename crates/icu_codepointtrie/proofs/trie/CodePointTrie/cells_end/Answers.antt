use Rattle.std.proofs.Common.{◌≡◌, ◌<◌, ◌≤◌, ◌+◌, true, subst, arith, rules}
use Rattle.icu_codepointtrie.specs.CellRuns.{IsAsSaid, AreAsSaid}
use Rattle.icu_codepointtrie.proofs.walks.CellRunLemmas.{said_first, said_further, ends_at, skipped_block, read_block, said_tail}
use Rattle.icu_codepointtrie.proofs.trie.CodePointTrie.cells_end.Goals as goal

pub loop-next-init : goal.loop-next-init
loop-next-init g c = record {
  from = omega arith;
  to = omega (arith, c.requires);
  alike = said_first c.args.self.now c.get32-value.result c.has_cell-owned.result c.args.start c.get32-value.ensures.value c.has_cell-owned.ensures;
  uniform = tt;
}

pub returns-then-stop-end : goal.returns-then-stop-end
returns-then-stop-end g c =
    let t = c.args.self.now in
    let i = c.loop-next.invariant in
    let stop = c.first_other-stop.ensures in
    let before : c.first_other-stop.result < c.block_end-end.result = search rules in
    ends_at t c.get32-value.result c.has_cell-owned.result c.args.start c.first_other-stop.result c.get32-value.ensures.value c.has_cell-owned.ensures
    (omega (arith, i.from, stop.from)) (omega (arith, before, c.block_end-end.ensures.within))
    (said_further t c.get32-value.result c.has_cell-owned.result c.args.start c.loop-next.next c.first_other-stop.result i.alike stop.alike)
    (λ _. stop.differs before)

pub loop-next-preserved : goal.loop-next-preserved
loop-next-preserved g c =
    let t = c.args.self.now in
    let i = c.loop-next.invariant in
    let read : c.is_read.result ≡ true = search rules in
    record {
      from = omega (arith, i.from, c.block_end-end.ensures.after);
      to = c.block_end-end.ensures.within;
      alike = skipped_block t c.get32-value.result c.has_cell-owned.result c.args.start c.loop-next.next c.block_end-end.result c.block_key-key.result c.loop-next.uniform
          i.alike (c.is_read.ensures.same read) (c.is_read.ensures.some read) c.block_key-key.ensures c.block_end-end.ensures.width i.uniform;
      uniform = i.uniform;
    }

pub loop-next-preserved-else-stop-end : goal.loop-next-preserved-else-stop-end
loop-next-preserved-else-stop-end g c =
    let t = c.args.self.now in
    let i = c.loop-next.invariant in
    let stop = c.first_other-stop.ensures in
    let whole : c.first_other-stop.result ≡ c.block_end-end.result = search rules in
    let said = subst (λ e. AreAsSaid t c.get32-value.result c.has_cell-owned.result c.loop-next.next e) whole stop.alike in
    record {
      from = omega (arith, i.from, c.block_end-end.ensures.after);
      to = c.block_end-end.ensures.within;
      alike = said_further t c.get32-value.result c.has_cell-owned.result c.args.start c.loop-next.next c.block_end-end.result i.alike said;
      uniform = read_block t c.get32-value.result c.has_cell-owned.result c.loop-next.next c.block_end-end.result c.block_key-key.result said c.block_key-key.ensures c.block_end-end.ensures.width;
    }

pub returns-then-next-ge1114112 : goal.returns-then-next-ge1114112
returns-then-next-ge1114112 g c =
    let t = c.args.self.now in
    let i = c.loop-next.invariant in
    ends_at t c.get32-value.result c.has_cell-owned.result c.args.start c.loop-next.next c.get32-value.ensures.value c.has_cell-owned.ensures
    (omega (arith, i.from)) i.to i.alike (λ lt. let past : 0x11_0000 ≤ c.loop-next.next = search rules in absurd (omega (arith, lt, past)))

pub returns-then-is_as_said : goal.returns-then-is_as_said
returns-then-is_as_said g c =
    let t = c.args.self.now in
    let i = c.loop-next.invariant in
    let here : IsAsSaid t c.get32-value.result c.has_cell-owned.result c.loop-next.next = search rules in
    let low : c.loop-next.next < 0x11_0000 = search rules in
    let past : c.tail_start-limit.result ≤ c.loop-next.next = search rules in
    ends_at t c.get32-value.result c.has_cell-owned.result c.args.start 0x11_0000 c.get32-value.ensures.value c.has_cell-owned.ensures
    (omega (arith, c.requires)) (omega arith)
    (said_tail t c.get32-value.result c.has_cell-owned.result c.args.start c.tail_start-limit.result c.loop-next.next c.tail_start-limit.ensures.tail c.tail_start-limit.ensures.cells past (omega (arith, low)) i.alike here)
    (λ lt. absurd (omega (arith, lt)))

pub returns : goal.returns
returns g c =
    let t = c.args.self.now in
    let i = c.loop-next.invariant in
    let here : IsAsSaid t c.get32-value.result c.has_cell-owned.result c.loop-next.next → ⊥ = search rules in
    ends_at t c.get32-value.result c.has_cell-owned.result c.args.start c.loop-next.next c.get32-value.ensures.value c.has_cell-owned.ensures
    (omega (arith, i.from)) i.to i.alike (λ _. here)
