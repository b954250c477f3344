use Rattle.std.proofs.Common.{◌≡◌, List, ℕ, ◌∷◌, None, Some, arith, inl, inr}
use Rattle.std.proofs.lemmas.Str.Pattern.{strip_prefix_char}
use Rattle.icu_collections_sets.proofs.texts.SpellingLemmas.{no_text, no_dash, no_last, not_both, is_empty_false}
use Rattle.icu_collections_sets.proofs.json.spelling.read_range.Goals as goal

pub returns-in_err-first : goal.returns-in_err-first
returns-in_err-first c = rw c.from_residual.ensures (λ range h. no_text c.args.text.now range c.in_err-first.ensures h)

pub returns-in_err-end : goal.returns-in_err-end
returns-in_err-end c =
    let rest = c.in_ok-first.rest.now in
    let dash : (more : List ℕ) → rest ≡ 45 ∷ more → ⊥ = strip_prefix_char 45 rest None c.in_err-end.ensures.cases (omega arith) in
    rw c.from_residual-in_err-end.ensures (λ range h. no_dash c.args.text.now rest c.in_ok-first.first range c.in_ok-first.ensures (is_empty_false rest c.is_empty.result c.if-is_empty.false c.is_empty.ensures) dash h)

pub returns-in_err-last : goal.returns-in_err-last
returns-in_err-last c =
    let rest = c.in_ok-first.rest.now in
    let dash : rest ≡ 45 ∷ c.in_ok-end.end.now = strip_prefix_char 45 rest (Some c.in_ok-end.end) c.in_ok-end.ensures.cases (omega arith) in
    rw c.from_residual-in_err-last.ensures (λ range h. no_last c.args.text.now rest c.in_ok-end.end.now c.in_ok-first.first range c.in_ok-first.ensures dash c.in_err-last.ensures h)

pub returns-else-is_empty-2 : goal.returns-else-is_empty-2
returns-else-is_empty-2 c = λ range h.
    let rest = c.in_ok-first.rest.now in
    let dash : rest ≡ 45 ∷ c.in_ok-end.end.now = strip_prefix_char 45 rest (Some c.in_ok-end.end) c.in_ok-end.ensures.cases (omega arith) in
    let both = not_both c.args.text.now rest c.in_ok-end.end.now c.in_ok-last.rest.now c.in_ok-first.first c.in_ok-last.last range c.in_ok-first.ensures dash c.in_ok-last.ensures h in
    elim c.else-is_empty-2.either [
      | inl w ↦ omega (arith, w.1, both.0, both.1, h.rises)
      | inr w ↦ is_empty_false c.in_ok-last.rest.now c.is_empty-2.result w c.is_empty-2.ensures both.2
    ]
