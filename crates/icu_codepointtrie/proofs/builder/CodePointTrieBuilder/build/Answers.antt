use Rattle.std.proofs.Common.{◌≡◌, ◌+◌, List, length, map, sym, ap, subst, ◌∙◌, inl, inr, ⊎_elim, arith}
use Rattle.std.proofs.lemmas.List.{length-append}
use Rattle.icu_codepointtrie.specs.Layouts.{HasIndex}
use Rattle.icu_codepointtrie.specs.BuiltTries.{AreAllCells}
use Rattle.icu_codepointtrie.proofs.built.BuiltTrieLemmas.{IsTrieOf-built, IsTrie-built, type_facts}
use Rattle.icu_codepointtrie.proofs.built.BlockCountLemmas.{layout_count, more_different}
use Rattle.icu_codepointtrie.proofs.built.UpperBlockLemmas.{more_upper}
use Rattle.icu_codepointtrie.proofs.builder.CodePointTrieBuilder.build.Goals as goal

pub returns-in-Err-clause-refused : goal.returns-in-Err-clause-refused
returns-in-Err-clause-refused g c =
    let number = g.T.TrieValue.number in
    let values : List g.row.T.Denot = c.self.inside.values.items in
    let given : c.as_slice-values.result.now ≡ values = c.as_slice-values.ensures.value in
    let all : length values ≡ 0x11_0000 = c.self.invariant.all in
    let x = type_facts c.self.inside.trie_type in
    rw (← c.self.view_is) (⊎_elim
    (λ memory. inl memory)
    (λ large. inr (
      large.0,
      ⊎_elim
          (λ wide. inl (more_different number 512 _ 0x880 800 values (λ b h. omega arith) (rw given at wide)))
          (λ small. inr (more_upper number 12000 _ values all (omega (arith, x.1, x.2)) (rw given at small)))
          large.1,
    ))
    c.in-Err.ensures.refused)

pub from_tables-requires : goal.from_tables-requires
from_tables-requires g c =
    let number = g.T.TrieValue.number in
    let layout = c.in-Ok.layout in
    let index : c.in_ok-index-2.index ≡ c.in_ok-index.index.items = c.in_ok-index-2.ensures ∙ c.as_slice.ensures.value in
    let cells : c.in_ok-cells.cells ≡ c.put_last_two.new.cells.items = c.in_ok-cells.ensures ∙ c.as_slice-2.ensures.value in
    IsTrie-built number (map number c.as_slice-values.result.now) layout c.self.inside.error_value _ c.new.new.cells.items c.header-header.ensures.trie_type c.in-Ok.ensures.layout c.in-Ok.ensures.bounds
    (subst (HasIndex layout) (sym index) c.in_ok-index.ensures)
    (subst (AreAllCells number (map number c.as_slice-values.result.now) c.new.new.cells.items c.self.inside.error_value) (sym cells) c.in_ok-put_last_two.ensures)

pub returns-clause-reads : goal.returns-clause-reads
returns-clause-reads g c =
    let number = g.T.TrieValue.number in
    let layout = c.in-Ok.layout in
    let given : c.as_slice-values.result.now ≡ c.self.inside.values.items = c.as_slice-values.ensures.value in
    let index : c.in_ok-index-2.index ≡ c.in_ok-index.index.items = c.in_ok-index-2.ensures ∙ c.as_slice.ensures.value in
    let cells : c.in_ok-cells.cells ≡ c.put_last_two.new.cells.items = c.in_ok-cells.ensures ∙ c.as_slice-2.ensures.value in
    rw (← c.self.view_is, c.from_tables.ensures) (IsTrieOf-built number g.met.T.TrieValue.tells_apart _ layout _ c.new.new.cells.items c.self.invariant.all
    (c.header-header.ensures.trie_type ∙ c.in-Ok.ensures.trie_type) c.in-Ok.ensures.trie_type c.header-header.ensures.high_start
    (rw given at c.in-Ok.ensures.layout) c.in-Ok.ensures.bounds
    (subst (HasIndex layout) (sym index) c.in_ok-index.ensures)
    (rw given at (subst (AreAllCells number (map number c.as_slice-values.result.now) c.new.new.cells.items c.self.inside.error_value) (sym cells) c.in_ok-put_last_two.ensures)))

pub returns-clause-cells : goal.returns-clause-cells
returns-clause-cells g c =
    let number = g.T.TrieValue.number in
    let layout = c.in-Ok.layout in
    let given : c.as_slice-values.result.now ≡ c.self.inside.values.items = c.as_slice-values.ensures.value in
    let cells : c.in_ok-cells.cells ≡ c.put_last_two.new.cells.items = c.in_ok-cells.ensures ∙ c.as_slice-2.ensures.value in
    let count : length c.in_ok-cells.cells ≡ length c.new.new.cells.items + 2 =
    ap (λ (xs : List g.row.T.Denot). length xs) (cells ∙ c.in_ok-put_last_two.ensures.2) ∙ length-append c.new.new.cells.items _ in
    let most = layout_count number c.self.inside.values.items c.self.inside.trie_type layout.wide_end (length c.new.new.cells.items) c.self.invariant.all c.in-Ok.ensures.bounds.to (rw given at c.in-Ok.ensures.few) in
    rw (← c.self.view_is, c.from_tables.ensures) (omega (arith, count, most))
