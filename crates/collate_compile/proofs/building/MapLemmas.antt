-- What a map has after a write.
use Rattle.std.proofs.Common.{◌≡◌, ℕ, ◌≤◌, Bool, true, false, not, cond, ◌&&◌, eqb, refl, sym, ap, ◌∙◌, eq-eqb, subst, Result, Ok, Err}
use Rattle.std.specs.Prelude.{MatchResult, nat_le}
use Rattle.std.specs.declared.ops.RangeInclusive.{RangeInclusive}
use Rattle.icu_codepointtrie.specs.CodePointMaps.{CodePointMap, covers, mapped, IsWritten}
use Rattle.icu_normalizer_core.specs.BuiltIn.{is_within}

module _ (old new : CodePointMap ℕ) (covers : ℕ → Bool) (word : ℕ) (written : IsWritten (λ n. n) old covers word new)
    (c : ℕ) (inside : c ≤ 0x10_FFFF) where
  -- a word that isn't the default, for a character that it is written for
  pub mapped-written : covers c ≡ true → eqb word old.default ≡ false → mapped new c ≡ word
  mapped-written e other = written.values c inside
      ∙ ap (λ (b : Bool). cond (b && not (eqb word old.default)) word (mapped old c)) e
      ∙ ap (λ (b : Bool). cond (not b) word (mapped old c)) other

  -- the default is none: where it stood before, it still does
  pub mapped-default : covers c ≡ true → word ≡ old.default → mapped old c ≡ old.default → mapped new c ≡ word
  mapped-default e is before = written.values c inside ∙ either (covers c && not (eqb word old.default)) ∙ sym is
    where
      either : (b : Bool) → cond b word (mapped old c) ≡ old.default
      either true = is
      either false = before

  -- the default is none: all is as before
  pub mapped-kept : word ≡ old.default → mapped new c ≡ mapped old c
  mapped-kept is = written.values c inside
      ∙ ap (λ (b : Bool). cond (covers c && not b) word (mapped old c)) (eq-eqb word old.default is) ∙ none (covers c)
    where
      none : (b : Bool) → cond (b && false) word (mapped old c) ≡ mapped old c
      none true = refl
      none false = refl

  -- any other character has what it had
  pub mapped-other : covers c ≡ false → mapped new c ≡ mapped old c
  mapped-other e = written.values c inside
      ∙ ap (λ (b : Bool). cond (b && not (eqb word old.default)) word (mapped old c)) e

-- a write that isn't refused is made
pub made_from : {E : Type 0} (W U A : Type 0) (R : E → Type 0) (r : Result (Unit {0}) E)
    → MatchResult r (λ _. W) (λ _. U)
    → MatchResult r (λ _. A) R → ((e : E) → R e → ⊥) → W
made_from W U A R (Ok x) made refused inside = made
made_from W U A R (Err e) made refused inside = absurd (inside e refused)

-- what is written for a range that was not gone over is written for what stands within it
pub written_within : (old new : CodePointMap ℕ) (range : RangeInclusive ℕ) (word first last : ℕ)
    → range.start ≡ first → range.end ≡ last → range.exhausted ≡ false
    → IsWritten (λ n. n) old (covers range) word new → IsWritten (λ n. n) old (is_within first last) word new
written_within old new range word first last e f g written =
    subst (λ (b : ℕ). IsWritten (λ n. n) old (λ c. nat_le first c && nat_le c b) word new) f
    (subst (λ (a : ℕ). IsWritten (λ n. n) old (λ c. nat_le a c && nat_le c range.end) word new) e
    (subst (λ (x : Bool). IsWritten (λ n. n) old (λ c. not x && (nat_le range.start c && nat_le c range.end)) word
    new) g written))
