-- Rules that further lines don't heal: the first line with which those up to it break one, by halves.
use Rattle.std.proofs.Common.{◌≡◌, ℕ, ◌+◌, ◌<◌, ◌≤◌, Bool, true, false, List, ◌++◌, length, map, take, drop, sym, ◌∙◌, ap, subst, arith}
use Rattle.std.proofs.lemmas.Bool.{false≢true}
use Rattle.std.proofs.lemmas.List.{take-append-drop, take-map, take-take, take_all}
use Rattle.collate_lines.specs.declared.record.Record.{Record as Line}
use Rattle.collate_lines.specs.Record.{Record, said}
use Rattle.collate_rules.specs.Breaks.{IsLasting, NoneBreak}

-- the lines up to one, as they are tested
pub part_tested : (breach : List Record → Bool) (lines part : List Line) (middle : ℕ) (b : Bool) → b ≡ breach (map said part) → part ≡ take (middle + 1) lines
    → b ≡ breach (take (middle + 1) (map said lines))
part_tested breach lines part middle b tested is =
    tested ∙ ap (λ (ls : List Line). breach (map said ls)) is ∙ ap breach (sym (take-map said (middle + 1) lines))

module _ (breach : List Record → Bool) (stays : IsLasting breach) where
  -- what fewer lines break, more lines break
  part_breaks : (records : List Record) (a b : ℕ) → a ≤ b → breach (take a records) ≡ true → breach (take b records) ≡ true
  part_breaks records a b within h =
      let whole : take a records ++ drop a (take b records) ≡ take b records =
      ap (λ lines. lines ++ drop a (take b records)) (sym (take-take a b records within)) ∙ take-append-drop a (take b records) in
      subst (λ lines. breach lines ≡ true) whole (stays (take a records) (drop a (take b records)) h)

  -- where all lines break nothing, none does
  pub whole_unbroken : (lines : List Line) (b : Bool) → b ≡ breach (map said lines) → b ≡ false → NoneBreak breach (map said lines)
  whole_unbroken lines b tested unset i within h =
      let records = map said lines in
      let all : breach records ≡ true = subst (λ part. breach part ≡ true) (take_all (length records) records (omega arith)) (part_breaks records (i + 1) (length records) (omega (arith, within)) h) in
      false≢true (sym unset ∙ tested ∙ all)

  -- they break nothing: nor do those up to a line before
  pub none_up_to : (lines part : List Line) (middle : ℕ) (b : Bool) → b ≡ breach (map said part) → part ≡ take (middle + 1) lines → b ≡ false
      → (j : ℕ) → j < middle + 1 → breach (take (j + 1) (map said lines)) ≡ true → ⊥
  none_up_to lines part middle b tested is unset j below h =
      false≢true (sym unset ∙ part_tested breach lines part middle b tested is ∙ part_breaks (map said lines) (j + 1) (middle + 1) (omega (arith, below)) h)
