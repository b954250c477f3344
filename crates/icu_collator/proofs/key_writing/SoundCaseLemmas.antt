-- The case of each element that a text can have is one.
use Rattle.std.proofs.Common.{◌≡◌, ℕ, zero, suc, Bool, true, false, cond, leb, ◌==◌, ◌&&◌, List, [], ◌∷◌, ◌++◌, length, take, drop, refl, ◌∙◌, ap}
use Rattle.std.proofs.lemmas.List.Folds.{list_all-append}
use Rattle.std.specs.List.{list_all}
use Rattle.icu_collator_types.specs.declared.elements.Element.{Element}
use Rattle.icu_collator_types.specs.declared.options.ResolvedCollatorOptions.{ResolvedCollatorOptions}
use Rattle.icu_collator_core.specs.Collation.{Collation}
use Rattle.icu_collator_core.specs.Numbers.{elements_of_bytes, number_elements, number_part, number_parts, significant}
use Rattle.icu_collator_core.specs.SoundElements.{IsSingle, of_record, by_default, IsSoundSequence, nothing, single, number}
use Rattle.icu_collator_core.specs.WeightRules.{AreSoundWeights}
use Rattle.icu_collator_core.specs.Weights.{Weights}
use Rattle.icu_collator_core.proofs.numbers.NumberBytesLemmas.{number_bytes, part_is_bytes}
use Rattle.icu_collator.specs.LevelLists.{has_sound_case}
use Rattle.icu_collator.specs.Shifted.{Counted, whole, variable, counted, counted_behind, is_variable}
use Rattle.icu_collator.proofs.keys.CommonAloneLemmas.{and_true}

abbrev pub has_case : Element → Bool
has_case e = leb e.case 2

both_have : (ds es : List Element) → list_all has_case ds ≡ true → list_all has_case es ≡ true → list_all has_case (ds ++ es) ≡ true
both_have ds es all others = rw (list_all-append has_case ds es, all, others) refl

-- ---- numbers

bytes_have : (lead : ℕ) (bytes : List ℕ) → list_all has_case (elements_of_bytes lead bytes) ≡ true
unfolding elements_of_bytes
bytes_have lead [] = refl
bytes_have lead (a ∷ []) = refl
bytes_have lead (a ∷ b ∷ []) = refl
bytes_have lead (a ∷ b ∷ c ∷ bytes) = bytes_have lead bytes

part_has : (lead : ℕ) (digits : List ℕ) → list_all has_case (number_part lead digits) ≡ true
part_has lead digits = ap (list_all has_case) (part_is_bytes lead digits) ∙ bytes_have lead (number_bytes digits)

parts_have : (n lead : ℕ) (digits : List ℕ) → list_all has_case (number_parts n lead digits) ≡ true
unfolding number_parts
parts_have zero lead digits = refl
parts_have (suc n) lead [] = refl
parts_have (suc n) lead (d ∷ ds) =
    let digits = significant (d ∷ ds) in
    both_have (number_part lead (take 254 digits)) (number_parts n lead (drop 254 digits)) (part_has lead (take 254 digits)) (parts_have n lead (drop 254 digits))

-- ---- texts

single_has : (weights : Weights) (e : Element) → AreSoundWeights weights → IsSingle weights e → has_case e ≡ true
single_has weights e sound (of_record d is) = (and_true _ _ (and_true _ _ (sound.widths d is)).0).1
single_has weights e sound (by_default c is) = refl

pub sequence_has : (weights : Weights) (numeric : Bool) (es : List Element) → AreSoundWeights weights → IsSoundSequence weights numeric es → list_all has_case es ≡ true
sequence_has weights numeric es sound nothing = refl
sequence_has weights numeric es sound (single d ds is later) = rw (single_has weights d sound is, sequence_has weights numeric ds sound later) refl
sequence_has weights numeric es sound (number digits ds on are later) =
    both_have (number_elements weights.numeric_lead digits) ds (parts_have (length digits) weights.numeric_lead digits) (sequence_has weights numeric ds sound later)

-- ---- the elements that count

chosen : (b : Bool) (xs ys : List Counted) → list_all has_sound_case xs ≡ true → list_all has_sound_case ys ≡ true → list_all has_sound_case (cond b xs ys) ≡ true
chosen true xs ys h k = h
chosen false xs ys h k = k

counted_have : (collation : Collation) (options : ResolvedCollatorOptions) (is_behind : Bool) (es : List Element) → list_all has_case es ≡ true
    → list_all has_sound_case (counted_behind collation options is_behind es) ≡ true
unfolding counted_behind
counted_have collation options is_behind [] all = refl
counted_have collation options is_behind (e ∷ es) all =
    let both = and_true (leb e.case 2) (list_all has_case es) all in
    let behind = counted_have collation options true es both.1 in
    let whole_behind : list_all has_sound_case (whole e ∷ counted_behind collation options false es) ≡ true =
    rw (both.0, counted_have collation options false es both.1) refl in
    let ignored = counted_behind collation options true es in
    let counts = whole e ∷ counted_behind collation options false es in
    chosen (is_variable collation options e) (variable e.primary ∷ ignored) (cond (is_behind && (e.primary == 0)) ignored counts) behind
    (chosen (is_behind && (e.primary == 0)) ignored counts behind whole_behind)

-- the elements of a text that count have a case that is one
pub cases_are_sound :
    (collation : Collation) (options : ResolvedCollatorOptions) (numeric : Bool) (es : List Element) → AreSoundWeights collation.weights
    → IsSoundSequence collation.weights numeric es → list_all has_sound_case (counted collation options es) ≡ true
cases_are_sound collation options numeric es sound are = counted_have collation options false es (sequence_has collation.weights numeric es sound are)
