-- What tables tell of characters, as boundaries, as characters that stand apart, and as plain characters.
use Rattle.std.proofs.Common.{◌≡◌, ℕ, ◌==◌, Bool, false, ◌&&◌, ◌||◌, List, ◌∷◌, None, ap, arith}
use Rattle.std.proofs.lemmas.Bool.{and_right, eqb-true, false_from_ne_true, or_from}
use Rattle.icu_normalizer_core.specs.Canonical.{Canonical, IsDecomposing}
use Rattle.icu_collator_core.specs.Acceptance.{CollationSource}
use Rattle.icu_collator_core.specs.ReadSources.{IsAloneAnywhere}
use Rattle.icu_collator_core.specs.Weights.{Weights}
use Rattle.icu_collator_core.specs.Boundaries.{IsApart, IsBoundary, is_accent}
use Rattle.icu_collator.specs.Boundaries.{IsPlain}
use Rattle.icu_collator.specs.Collators.{source_collation}
use Rattle.icu_collator.specs.NumbersInTexts.{is_digit}
use Rattle.icu_collator.proofs.readings.SplitAtDigitLemmas.{acute_class, grave_class}

other_than : (canonical : Canonical) (c d : ℕ) → canonical.class c ≡ 0 → canonical.class d ≡ 230 → (c == d) ≡ false
other_than canonical c d starter mark =
    false_from_ne_true (c == d) (λ e. let same = ap canonical.class (eqb-true c d e) in omega (arith, same, starter, mark))

-- before a starter other than U+0303 no dot above is dropped
pub no_accent : (canonical : Canonical) (c : ℕ) → IsDecomposing canonical → canonical.class c ≡ 0 → (c == 0x303) ≡ false → is_accent c ≡ false
no_accent canonical c d starter tilde =
    or_from ((c == 0x300) || (c == 0x301)) (c == 0x303)
    (or_from (c == 0x300) (c == 0x301) (other_than canonical c 0x300 starter (grave_class canonical d)) (other_than canonical c 0x301 starter (acute_class canonical d)))
    tilde

pub starter_apart : (canonical : Canonical) (weights : Weights) (numeric : Bool) (c : ℕ) → IsDecomposing canonical → canonical.class c ≡ 0 → (c == 0x303) ≡ false
    → (numeric && is_digit weights c) ≡ false → IsApart weights numeric c
starter_apart canonical weights numeric c d starter tilde number =
    record {
      number = number;
      accent = and_right weights.dot_above (is_accent c) (no_accent canonical c d starter tilde);
    }

-- a character whose full list begins with a boundary that is read alone
pub alone_plain : (source : CollationSource) (c bits first : ℕ) (others : List ℕ) → IsDecomposing (source_collation source).canonical
    → (source_collation source).canonical.full c ≡ first ∷ others
    → IsBoundary (source_collation source).canonical (source_collation source).weights first → (first == 0x303) ≡ false
    → IsAloneAnywhere source first bits → IsPlain (source_collation source) c bits
alone_plain source c bits first others d full boundary tilde alone =
    let collation = source_collation source
    in record {
      first = first;
      others = others;
      full = full;
      boundary = boundary;
      accent = and_right collation.weights.dot_above (is_accent first) (no_accent collation.canonical first d boundary.starter tilde);
      ordinary = alone.ordinary;
      undotted = alone.undotted;
      alone = alone.alone None;
    }
