-- From where two texts are read.
use Rattle.std.proofs.Common.{◌≡◌, ℕ, ◌≤◌, ◌&&◌, ◌==◌, false, List, [], ◌∷◌, ◌++◌, length, drop, take, Option, refl, sym, ap, subst, ◌∙◌, inl, inr, ⊎_elim, arith, length-append}
use Rattle.std.specs.List.{AllByRecursion}
use Rattle.std.specs.Prelude.{All}
use Rattle.std.specs.Char.{IsScalar}
use Rattle.std.specs.declared.cmp.Ordering.{Ordering}
use Rattle.std.proofs.lemmas.List.{drop_at, take-append-le}
use Rattle.icu_normalizer_core.specs.Canonical.{IsDecomposing}
use Rattle.icu_collator_types.specs.declared.options.ResolvedCollatorOptions.{ResolvedCollatorOptions}
use Rattle.icu_collator_types.specs.Options.{is_numeric}
use Rattle.icu_collator_core.specs.Acceptance.{CollationSource}
use Rattle.icu_collator_core.specs.Collation.{Collation}
use Rattle.icu_collator_core.specs.PlainCharacters.{IsOwnBeginning}
use Rattle.icu_collator_core.specs.PlainWords.{IsUnprefixed}
use Rattle.icu_collator_core.specs.UnsafeCharacters.{IsSafe}
use Rattle.icu_collator.specs.Boundaries.{GoesOn, IsPassage}
use Rattle.icu_collator.specs.Collators.{source_collation}
use Rattle.icu_collator.specs.Fronts.{IsPlaceToBegin, PartAt, ThreeStandAt}
use Rattle.icu_collator.specs.NumbersInTexts.{is_digit}
use Rattle.icu_collator.specs.Order.{collation_order}
use Rattle.icu_collator.specs.ReadingStarts.{IsCommonStart, IsOpenPassage, IsReadingStart, MaySkip, StandsSafely}
use Rattle.icu_collator.proofs.boundaries.BehindBoundaryLemmas.{boundary_unprefixed}
use Rattle.icu_collator.proofs.boundaries.DifferenceOrderLemmas.{front_skipped_to}
use Rattle.icu_collator.proofs.boundaries.SafeCharacterLemmas.{safe_beginning, safe_boundary}
use Rattle.icu_collator.proofs.boundaries.TableBoundaryLemmas.{starter_apart}

-- a character at which reading may begin, and with none of whose full list a prefix is recorded
pub open_passage : (source : CollationSource) (c first : ℕ) (others : List ℕ) → IsDecomposing (source_collation source).canonical
    → IsSafe (source_collation source).canonical (source_collation source).weights c
    → (source_collation source).canonical.full c ≡ first ∷ others → (first == 0x303) ≡ false
    → GoesOn (source_collation source).canonical (source_collation source).weights c → IsOpenPassage (source_collation source) c
open_passage source c first others decomposing safe full tilde on =
    let collation = source_collation source in
    let boundary = safe_boundary collation.canonical collation.weights c first others safe full in
    let number : (options : ResolvedCollatorOptions) → is_numeric options.numeric ≡ false → (is_numeric options.numeric && is_digit collation.weights first) ≡ false =
    λ options unnumbered. ap (λ b. b && is_digit collation.weights first) unnumbered in
    record {
      safe = safe;
      passes = λ options unshifted unnumbered. record {
        first = first;
        others = others;
        full = full;
        boundary = boundary;
        goes_on = on;
        apart = starter_apart collation.canonical collation.weights (is_numeric options.numeric) first decomposing boundary.starter tilde (number options unnumbered);
        counts = inl unshifted;
      };
    }

-- the same of one that is its own full list, where the core says it
pub open_beginning : (source : CollationSource) (c : ℕ) → IsDecomposing (source_collation source).canonical → IsScalar c
    → IsOwnBeginning (source_collation source).canonical (source_collation source).weights c → (c == 0x303) ≡ false
    → IsOpenPassage (source_collation source) c
open_beginning source c decomposing scalar begins tilde =
    let collation = source_collation source in
    let safe = safe_beginning collation.canonical collation.weights c decomposing scalar begins in
    let boundary = safe_boundary collation.canonical collation.weights c c [] safe begins.own in
    open_passage source c c [] decomposing safe begins.own tilde
    (subst (AllByRecursion (IsUnprefixed collation.weights)) (sym begins.own) (boundary_unprefixed collation.canonical collation.weights c boundary, tt))

-- three that pass one test, and so another
three_as : (P Q GoesOn : ℕ → Type 0) (text : List ℕ) (common index : ℕ) → ((c : ℕ) → P c → Q c) → ThreeStandAt P GoesOn text common index
    → ThreeStandAt Q GoesOn text common index
three_as P Q GoesOn text common index weaker three =
    record {
      before = three.before;
      first = three.first;
      between = three.between;
      second = three.second;
      further = three.further;
      third = three.third;
      behind = three.behind;
      text_is = three.text_is;
      place_is = three.place_is;
      within = three.within;
      first_passes = weaker three.first three.first_passes;
      between_goes_on = three.between_goes_on;
      second_passes = weaker three.second three.second_passes;
      further_goes_on = three.further_goes_on;
      third_passes = weaker three.third three.third_passes;
    }

pub beginning : (collation : Collation) (options : ResolvedCollatorOptions) (text : List ℕ) (common : ℕ) → IsReadingStart collation options text common 0
beginning collation options text common =
    record { within = omega arith; may_skip = inl refl; safe = inl refl; same = λ other left right h g part. refl }

-- the test of characters that go on
abbrev Go : Collation → ℕ → Type 0
Go collation = GoesOn collation.canonical collation.weights

-- at an index where three stand that pass, reading may begin
three_safe : (collation : Collation) (text : List ℕ) (common index : ℕ) → ThreeStandAt (IsOpenPassage collation) (Go collation) text common index
    → StandsSafely collation text index
three_safe collation text common index three =
    let rest = three.between ++ three.second ∷ (three.further ++ three.third ∷ three.behind) in
    record {
      first = three.first;
      rest = rest;
      rest_is = ap (drop index) three.text_is ∙ drop_at three.before (three.first ∷ rest) index three.place_is;
      safe = three.first_passes.safe;
    }

-- and it is within the first so many characters
three_within : (collation : Collation) (text : List ℕ) (common index : ℕ) → ThreeStandAt (IsOpenPassage collation) (Go collation) text common index
    → index ≤ common
three_within collation text common index three =
    let count = length-append three.before (three.first ∷ (three.between ++ three.second ∷ (three.further ++ three.third ∷ []))) in
    omega (arith, count, three.place_is, three.within)

pub found_index : (collation : Collation) (options : ResolvedCollatorOptions) (text : List ℕ) (common index : ℕ) → IsDecomposing collation.canonical
    → MaySkip collation options → IsPlaceToBegin (IsOpenPassage collation) (Go collation) text common index → IsReadingStart collation options text common index
found_index collation options text common index decomposing may stands =
    ⊎_elim
    (λ (none : index ≡ 0). subst (λ (k : ℕ). IsReadingStart collation options text common k) (sym none) (beginning collation options text common))
    (λ (three : ThreeStandAt (IsOpenPassage collation) (Go collation) text common index).
    let passes = three_as (IsOpenPassage collation) (IsPassage collation options) (Go collation) text common index (λ c p. p.passes options may.unshifted may.unnumbered) three in
    record {
      within = three_within collation text common index three;
      may_skip = inr may;
      safe = inr (three_safe collation text common index three);
      same = λ other left right h g part. front_skipped_to collation options decomposing text other common h g index left right may.forward part (inr passes);
    })
    stands

-- an index within what two texts have in common is within both
pub within_left : (a b : List ℕ) (common index : ℕ) (left right : Option ℕ) → PartAt a b common left right → index ≤ common → index ≤ length a
within_left a b common index left right part within =
    let count = ap (λ (w : List ℕ). length w) part.left_is in
    omega (arith, count, length-append part.front part.left_rest, part.count, within)

pub within_right : (a b : List ℕ) (common index : ℕ) (left right : Option ℕ) → PartAt a b common left right → index ≤ common → index ≤ length b
within_right a b common index left right part within =
    let count = ap (λ (w : List ℕ). length w) part.right_is in
    omega (arith, count, length-append part.front part.right_rest, part.count, within)

-- the order of what stands from an index on is that of the texts
pub read_from : (collation : Collation) (options : ResolvedCollatorOptions) (text other : List ℕ) (common index : ℕ) (left right : Option ℕ) (answer : Ordering)
    → IsReadingStart collation options text common index → All IsScalar text → All IsScalar other → PartAt text other common left right
    → answer ≡ collation_order collation options (drop index text) (drop index other) → answer ≡ collation_order collation options text other
read_from collation options text other common index left right answer stands h g part e = e ∙ sym (stands.same other left right h g part)

-- what stands before an index within what two texts have in common is the same in both
same_before : (a b : List ℕ) (common index : ℕ) (left right : Option ℕ) → PartAt a b common left right → index ≤ common → take index a ≡ take index b
same_before a b common index left right part within =
    let count = part.count in
    let reached : index ≤ length part.front = omega (arith, count, within) in
    ap (λ (w : List ℕ). take index w) part.left_is ∙ take-append-le index part.front part.left_rest reached
    ∙ sym (ap (λ (w : List ℕ). take index w) part.right_is ∙ take-append-le index part.front part.right_rest reached)

-- an index of one text, as an index of both
pub index_of_both : (collation : Collation) (options : ResolvedCollatorOptions) (a b : List ℕ) (common index : ℕ) (left right : Option ℕ)
    → IsReadingStart collation options a common index → All IsScalar a → All IsScalar b → PartAt a b common left right → IsCommonStart collation options a b index
index_of_both collation options a b common index left right stands h g part =
    record {
      left_reaches = within_left a b common index left right part stands.within;
      right_reaches = within_right a b common index left right part stands.within;
      common = same_before a b common index left right part stands.within;
      may_skip = stands.may_skip;
      safe = stands.safe;
      same = stands.same b left right h g part;
    }
