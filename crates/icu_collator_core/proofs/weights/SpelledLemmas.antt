-- The elements that a word spells, read one after another, pass just where they keep the rules together.
use Rattle.std.proofs.Common.{◌≡◌, ℕ, ◌+◌, ◌<◌, ◌≤◌, ◌⊎◌, inl, inr, Bool, true, false, List, [], ◌∷◌, length, take, drop, Option, Some, None, refl, sym, ◌∙◌, ap, arith}
use Rattle.std.proofs.lemmas.List.{length-drop, get_or-drop, take_all}
use Rattle.std.proofs.lemmas.Bool.{cases_lt}
use Rattle.std.proofs.lemmas.List.Folds.{fold-map}
use Rattle.std.proofs.lemmas.List.Sums.{fold_more}
use Rattle.std.proofs.lemmas.Option.{slice_get-get_or, slice_get_past}
use Rattle.std.specs.Prelude.{◌&&◌, ◌||◌, fold, slice_get, map, filter_map}
use Rattle.std.specs.List.{cons_option, list_all}
use Rattle.icu_collator_types.specs.declared.elements.Element.{Element}
use Rattle.icu_collator_core.specs.declared.check_weights.spelled.Spelled.{Spelled}
use Rattle.icu_collator_core.specs.declared.tables.special_primaries.CollationSpecialPrimaries.{CollationSpecialPrimaries}
use Rattle.icu_collator_core.specs.Pools.{element_of, stated_element}
use Rattle.icu_collator_core.specs.WeightFaults.{are_sound_spelled, is_own_alone, is_own_element, is_primary_element, is_sound_spelled}
use Rattle.icu_collator_core.specs.TableMeaning.{is_primary_alone}
use Rattle.icu_collator_core.specs.SpelledTests.{if_any, nothing_read, passes, with_bits, with_element, with_word}

and_true : (b : Bool) → (b && true) ≡ b
and_true true = refl
and_true false = refl

and_assoc : (a b c : Bool) → ((a && b) && c) ≡ (a && (b && c))
and_assoc true b c = refl
and_assoc false b c = refl

sound_read : (special : CollationSpecialPrimaries) (own : Option ℕ) (es : List Element) (seen : Spelled)
    → (fold (with_element special own) seen es).is_sound ≡ (seen.is_sound && list_all (is_sound_spelled special) es)
sound_read special own [] seen = sym (and_true seen.is_sound)
sound_read special own (e ∷ es) seen =
    sound_read special own es (with_element special own seen e) ∙ and_assoc seen.is_sound (is_sound_spelled special e) (list_all (is_sound_spelled special) es)

-- after an element there is none that is alone
more_read : (special : CollationSpecialPrimaries) (own : Option ℕ) (e : Element) (es : List Element) (seen : Spelled) → seen.is_empty ≡ false
    → (fold (with_element special own) seen (e ∷ es)).is_own ≡ false
more_read special own e [] seen h = ap (λ b. b && is_own_element own e) h
more_read special own e (f ∷ es) seen h = more_read special own f es (with_element special own seen e) refl

own_read : (special : CollationSpecialPrimaries) (own : Option ℕ) (es : List Element)
    → (fold (with_element special own) nothing_read es).is_own ≡ is_own_alone own es
own_read special own [] = refl
own_read special own (e ∷ []) = refl
own_read special own (e ∷ f ∷ es) = more_read special own f es (with_element special own nothing_read e) refl

pub all_read : (special : CollationSpecialPrimaries) (own : Option ℕ) (es : List Element)
    → passes (fold (with_element special own) nothing_read es) ≡ are_sound_spelled special own es
all_read special own es =
    ap (λ b. b || (fold (with_element special own) nothing_read es).is_sound) (own_read special own es)
    ∙ ap (λ b. is_own_alone own es || b) (sound_read special own es nothing_read)

-- ---- Words and elements of 64 bits

fold_filtered : (special : CollationSpecialPrimaries) (own : Option ℕ) (words : List ℕ) (seen : Spelled)
    → fold (with_word special own) seen words ≡ fold (with_element special own) seen (filter_map stated_element words)
fold_filtered special own [] seen = refl
fold_filtered special own (word ∷ words) seen =
    elim (stated_element word) as (λ o. fold (with_word special own) (elim o [ Some e ↦ with_element special own seen e | None ↦ seen ]) words
    ≡ fold (with_element special own) seen (cons_option o (filter_map stated_element words))) [
      | Some e ↦ fold_filtered special own words (with_element special own seen e)
      | None ↦ fold_filtered special own words seen
    ]

pub words_read : (special : CollationSpecialPrimaries) (own : Option ℕ) (words : List ℕ)
    → passes (fold (with_word special own) nothing_read words) ≡ are_sound_spelled special own (filter_map stated_element words)
words_read special own words =
    ap (λ seen. passes seen) (fold_filtered special own words nothing_read) ∙ all_read special own (filter_map stated_element words)

pub elements_read : (special : CollationSpecialPrimaries) (own : Option ℕ) (items : List ℕ)
    → passes (fold (with_bits special own) nothing_read items) ≡ are_sound_spelled special own (map element_of items)
elements_read special own items =
    ap (λ seen. passes seen) (sym (fold-map (with_element special own) element_of nothing_read items)) ∙ all_read special own (map element_of items)

-- ---- The one element that the character has by itself

own_alone : (p : ℕ) (es : List Element) → is_own_alone (Some p) es ≡ is_primary_alone p es
unfolding is_primary_element
own_alone p [] = refl
own_alone p (e ∷ []) = refl
own_alone p (e ∷ f ∷ es) = refl

pub own_word_read : (special : CollationSpecialPrimaries) (p : ℕ) (words : List ℕ)
    → (fold (with_word special (Some p)) nothing_read words).is_own ≡ is_primary_alone p (filter_map stated_element words)
own_word_read special p words =
    ap (λ seen. seen.is_own) (fold_filtered special (Some p) words nothing_read)
    ∙ own_read special (Some p) (filter_map stated_element words) ∙ own_alone p (filter_map stated_element words)

pub own_elements_read : (special : CollationSpecialPrimaries) (p : ℕ) (items : List ℕ)
    → (fold (with_bits special (Some p)) nothing_read items).is_own ≡ is_primary_alone p (map element_of items)
own_elements_read special p items =
    ap (λ seen. seen.is_own) (sym (fold-map (with_element special (Some p)) element_of nothing_read items))
    ∙ own_read special (Some p) (map element_of items) ∙ own_alone p (map element_of items)

-- one more number of a part of a list was read, if there was one
pub one_more : (step : Spelled → ℕ → Spelled) (seen : Spelled) (xs : List ℕ) (index i : ℕ)
    → if_any step (fold step seen (take i (drop index xs))) (slice_get xs (index + i)) ≡ fold step seen (take (i + 1) (drop index xs))
one_more step seen xs index i = by_index (cases_lt (index + i) (length xs))
  where
    so_far : Spelled
    so_far = fold step seen (take i (drop index xs))

    by_index : (index + i < length xs) ⊎ (length xs ≤ index + i)
        → if_any step (fold step seen (take i (drop index xs))) (slice_get xs (index + i)) ≡ fold step seen (take (i + 1) (drop index xs))
    by_index (inl lt) =
        let inside : i < length (drop index xs) = let count = length-drop index xs in omega (arith, count, lt)
        in ap (if_any step so_far) (slice_get-get_or xs (index + i) 0 lt)
        ∙ ap (step so_far) (sym (get_or-drop index xs i 0))
        ∙ sym (fold_more step seen (drop index xs) i 0 inside)
    by_index (inr ge) =
        let few : length (drop index xs) ≤ i = let count = length-drop index xs in omega (arith, count, ge)
        in ap (if_any step so_far) (slice_get_past xs (index + i) ge)
        ∙ ap (fold step seen) (take_all i (drop index xs) few ∙ sym (take_all (i + 1) (drop index xs) (omega (arith, few))))
