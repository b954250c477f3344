-- Texts that begin with ASCII, and what is known of characters.
use Rattle.std.proofs.Common.{◌≡◌, ℕ, zero, suc, ◌+◌, ◌<◌, ◌≤◌, true, List, [], ◌∷◌, ◌++◌, length, take, get_or, encode_utf8_all, IsUtf8, refl, ap₂, subst, arith}
use Rattle.std.proofs.lemmas.Bool.{and_parts}
use Rattle.std.specs.List.{AllByRecursion}
use Rattle.std.specs.Str.{IsCharBoundary}
use Rattle.std.proofs.lemmas.Str.{IsCharBoundary-start, IsCharBoundary-after_ascii, encode_ascii}
use lib.Utf8.{scalar, scalars}
use Rattle.icu_normalizer_core.specs.Canonical.{Canonical, decomposed}
use Rattle.icu_normalizer_core.specs.Forming.{IsForming}
use Rattle.icu_normalizer_core.specs.Readable.{IsReadable}
use Rattle.icu_normalizer_core.proofs.decomposed_lists.DecomposedLemmas.{AreScalar}
use Rattle.icu_normalizer.proofs.cuts.SplitLemmas.{in_place_is_decomposed}

-- the data of a normal form can be read fast
pub readable : (canonical : Canonical) → IsForming canonical → IsReadable canonical
readable canonical ok = (ok.bounded, ok.low, λ c low. ok.starters c (omega arith))

pub are_scalar : (cs : List ℕ) → scalars cs ≡ true → AreScalar cs
are_scalar [] h = tt
are_scalar (c ∷ cs) h = let parts = and_parts (scalar c) (scalars cs) h in (parts.0, are_scalar cs parts.1)

-- ---- ASCII at the start

abbrev pub ArePlain : List ℕ → Type 0
ArePlain cs = AllByRecursion (λ c. c < 0x80) cs

pub are_plain : (text : List ℕ) (n : ℕ) → ((k : ℕ) → k < n → get_or text k 0 < 0x80) → ArePlain (take n text)
are_plain [] zero h = tt
are_plain [] (suc n) h = tt
are_plain (x ∷ xs) zero h = tt
are_plain (x ∷ xs) (suc n) h = (h zero (omega arith), are_plain xs n (λ k lt. h (suc k) (omega arith)))

pub plain_low : (cs : List ℕ) → ArePlain cs → AllByRecursion (λ c. c < 0xa0) cs
plain_low [] h = tt
plain_low (c ∷ cs) h = ((let first = h.0 in omega arith), plain_low cs h.1)

pub plain_bytes : (cs : List ℕ) → ArePlain cs → encode_utf8_all cs ≡ cs
plain_bytes [] h = refl
plain_bytes (c ∷ cs) h = ap₂ (λ x y. x ++ y) (encode_ascii c h.0) (plain_bytes cs h.1)

pub plain_boundary : (text : List ℕ) (n : ℕ) → IsUtf8 text → n ≤ length text → ((k : ℕ) → k < n → get_or text k 0 < 0x80) → IsCharBoundary text n
plain_boundary text zero u within plain = IsCharBoundary-start text u
plain_boundary text (suc m) u within plain =
    subst (IsCharBoundary text) (let one : m + 1 ≡ suc m = omega arith in one) (IsCharBoundary-after_ascii text m u (omega arith) (plain m (omega arith)))

-- nothing is its own decomposed list
pub decomposed_nothing : (canonical : Canonical) → decomposed canonical [] ≡ []
decomposed_nothing canonical = in_place_is_decomposed canonical 0 [] tt
