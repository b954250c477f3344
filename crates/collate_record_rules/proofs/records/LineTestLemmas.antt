-- The first line that a test picks, asked line by line.
use Rattle.std.proofs.Common.{◌≡◌, ℕ, ◌+◌, ◌<◌, ◌≤◌, Bool, true, false, List, length, map, get_or, sym, ap, ◌∙◌, arith, below_more}
use Rattle.std.specs.Bool.{IsTrue}
use Rattle.std.proofs.lemmas.Bool.{false≢true}
use Rattle.std.proofs.lemmas.List.{length-map}
use Rattle.collate_lines.specs.declared.record.Record.{Record as Line}
use Rattle.collate_lines.specs.Record.{Record, said}
use Rattle.collate_lines.specs.Repeats.{record_at}
use Rattle.collate_rules.proofs.offenders.LineRuleLemmas.{record_at-said}

module _ (test : Record → Bool) (lines : List Line) where
  -- it picks none of the first ones
  abbrev pub PicksNone : ℕ → Type 0
  PicksNone i = (j : ℕ) → j < i → IsTrue (test (record_at (map said lines) j)) → ⊥

  tested : (i : ℕ) (x : Line) (b : Bool) → i < length lines → x ≡ get_or lines i x → b ≡ test (said x) → b ≡ test (record_at (map said lines) i)
  tested i x b within read told = told ∙ ap (λ (l : Line). test (said l)) read ∙ ap test (sym (record_at-said lines i x within))

  pub none_more : (i : ℕ) (x : Line) (b : Bool) → i < length lines → x ≡ get_or lines i x → b ≡ test (said x) → b ≡ false → PicksNone i → PicksNone (i + 1)
  none_more i x b within read told unset none =
      below_more (λ j. IsTrue (test (record_at (map said lines) j)) → ⊥) i none (λ h. false≢true (sym unset ∙ tested i x b within read told ∙ h))

  pub is_first : (i : ℕ) (x : Line) (b : Bool) → i < length lines → x ≡ get_or lines i x → b ≡ test (said x) → b ≡ true → PicksNone i
      → (i < length (map said lines)) × IsTrue (test (record_at (map said lines) i)) × PicksNone i
  is_first i x b within read told set none = (omega (arith, length-map lines said), sym (tested i x b within read told) ∙ set, none)

  pub none_at_all : (i : ℕ) → length lines ≤ i → PicksNone i → PicksNone (length (map said lines))
  none_at_all i past none j below = none j (omega (arith, length-map lines said))
