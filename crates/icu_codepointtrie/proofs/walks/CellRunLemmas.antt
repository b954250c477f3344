-- Runs of code points of one value that all have a cell, or of which none has one.
use Rattle.std.proofs.Common.{◌≡◌, ◌≢◌, ℕ, Bool, ◌+◌, ◌-◌, ◌<◌, ◌≤◌, Some, None, Option, refl, sym, subst, ◌∙◌, arith, ⊎_elim}
use Rattle.std.specs.Prelude.{IfSome}
use Rattle.std.proofs.lemmas.Bool.{cases_lt}
use Rattle.icu_codepointtrie.specs.CellRuns.{IsAsSaid, AreAsSaid, IsKeyAsSaid, IsEndOfCells}
use Rattle.icu_codepointtrie.specs.Slots.{TrieTables, has_cell, value_at}
use Rattle.icu_codepointtrie.specs.SharedBlocks.{key_width, IsKey, IsTail, IsCellTail}

module _ {T : Type 0} (t : TrieTables T) (value : T) (owned : Bool) where
  pub said_first : (start : ℕ) → Some value ≡ value_at t start → owned ≡ has_cell t start → AreAsSaid t value owned start (start + 1)
  said_first start first cell c from below =
      let same : start ≡ c = omega arith in
      subst (λ (d : ℕ). IsAsSaid t value owned d) same (sym first, sym cell)

  pub said_further : (start mid end : ℕ) → AreAsSaid t value owned start mid → AreAsSaid t value owned mid end → AreAsSaid t value owned start end
  said_further start mid end before more c from below = ⊎_elim (λ low. before c from low) (λ high. more c high below) (cases_lt c mid)

  -- where the run ends
  pub ends_at : (start end : ℕ) → Some value ≡ value_at t start → owned ≡ has_cell t start → start < end → end ≤ 0x11_0000
      → AreAsSaid t value owned start end → (end < 0x11_0000 → IsAsSaid t value owned end → ⊥) → IsEndOfCells t start end
  ends_at start end first cell some to said other = record {
    not_empty = some;
    in_range = to;
    values = λ c from below. (said c from below).0 ∙ first;
    cells = λ c from below. (said c from below).1 ∙ cell;
    maximal = λ lt v h. other lt (v ∙ sym first, h ∙ sym cell);
  }

  -- a block like one that was read is as said
  pub skipped_block : (start next end : ℕ) (key read : Option ℕ) → AreAsSaid t value owned start next → key ≡ read → key ≢ None
      → IfSome key (IsKey t next) → ((k : ℕ) → key ≡ Some k → end ≡ next + key_width k) → IfSome read (IsKeyAsSaid t value owned) → AreAsSaid t value owned start end
  skipped_block start next end None read before same some is width known = absurd (some refl)
  skipped_block start next end (Some k) read before same some is width known =
      let alike : IsKeyAsSaid t value owned k = subst (λ (o : Option ℕ). IfSome o (IsKeyAsSaid t value owned)) (sym same) known in
      let ends = width k refl in
      said_further start next end before (λ c from below.
      let there : next + (c - next) ≡ c = omega (arith, from) in
      let inside : c - next < key_width k = omega (arith, from, below, ends) in
      let said = alike (c - next) inside in
      subst (λ (d : ℕ). IsAsSaid t value owned d) there (is.values (c - next) inside ∙ said.0, is.cells (c - next) inside ∙ said.1))

  -- a block that was read whole
  pub read_block : (next end : ℕ) (key : Option ℕ) → AreAsSaid t value owned next end → IfSome key (IsKey t next)
      → ((k : ℕ) → key ≡ Some k → end ≡ next + key_width k) → IfSome key (IsKeyAsSaid t value owned)
  read_block next end None said is width = tt
  read_block next end (Some k) said is width = λ r below.
      let ends = width k refl in
      let here = said (next + r) (omega arith) (omega (arith, below, ends)) in
      (sym (is.values r below) ∙ here.0, sym (is.cells r below) ∙ here.1)

  -- the tail
  pub said_tail : (start limit next : ℕ) → IsTail t limit → IsCellTail t limit → limit ≤ next → next ≤ 0x10_FFFF
      → AreAsSaid t value owned start next → IsAsSaid t value owned next → AreAsSaid t value owned start 0x11_0000
  said_tail start limit next tail cells from to before here c low below =
      ⊎_elim (λ lt. before c low lt)
      (λ high.
      let reached : limit ≤ c = omega (arith, from, high) in
      let last : c ≤ 0x10_FFFF = omega (arith, below) in
      (tail c next reached last from to ∙ here.0, cells c next reached last from to ∙ here.1))
      (cases_lt c next)
