-- A word says just the element that it is made of, and so do 64 bits.
use Rattle.std.proofs.Common.{◌≡◌, ℕ, ◌+◌, ◌*◌, ◌/◌, ◌%◌, ◌^◌, ◌<◌, ◌≤◌, ◌⊎◌, inl, inr, Bool, true, false, cond, Some, refl, ap, ◌∙◌, arith}
use Rattle.std.specs.Prelude.{◌==◌, ◌&&◌, ◌||◌, not, leb, ltb}
use Rattle.std.specs.Option.{option_map}
use Rattle.std.proofs.lemmas.Bool.{and_left, and_parts, both_ways, cond-false, cond-true, eq-eqb, eqb-false, eqb-true, leb-true, lt-leb, ltb-true, ne_eqb, not-true, or_cases, or_from, or_left, or_right}
use Rattle.icu_collator_types.specs.declared.elements.Element.{Element}
use Rattle.icu_collator_types.specs.declared.elements.word_tags.Tag.TheVariants.{LongPrimary, LongSecondary}
use Rattle.icu_collator_types.specs.ElementWords.{has_tag, is_special, long_primary_element, simple_element}
use Rattle.icu_collator_core.specs.Pools.{element_of}
use Rattle.icu_collator_core.specs.WeightRules.{has_widths, is_sound_kind}
use Rattle.icu_collator_core.specs.WordForms.{has_form}
use Rattle.collate_words.specs.Fits.{fits_bits}
use Rattle.collate_words.specs.ShortWords.{States, bits_of, case_byte, fits_word, has_long_primary, has_long_secondary, is_narrow, word_of}
use Rattle.collate_words.proofs.owned.TagLemmas.{has_form-byte, has_tag-byte}

pub same_element : (d e : Element) → d.primary ≡ e.primary → d.secondary ≡ e.secondary → d.case ≡ e.case → d.tertiary ≡ e.tertiary
    → d.quaternary ≡ e.quaternary → d ≡ e
same_element d e p s c t q =
    ap (λ (x : ℕ). record d { primary = x }) p
    ∙ ap (λ (x : ℕ). record d { primary = e.primary; secondary = x }) s
    ∙ ap (λ (x : ℕ). record d { primary = e.primary; secondary = e.secondary; case = x }) c
    ∙ ap (λ (x : ℕ). record d { primary = e.primary; secondary = e.secondary; case = e.case; tertiary = x }) t
    ∙ ap (λ (x : ℕ). record e { quaternary = x }) q

-- the numbers of an element that fits
record IsSmall (e : Element) : Type 0 where
  primary : e.primary < 2 ^ 32
  secondary : e.secondary < 2 ^ 16
  case : e.case ≤ 2
  quaternary : e.quaternary ≤ 3
  lead : e.tertiary / 2 ^ 8 < 2 ^ 6
  rest : e.tertiary % 2 ^ 8 < 2 ^ 6
  some : 0 < e.primary + e.secondary + e.case

not_zero : (n : ℕ) → not (n == 0) ≡ true → 0 < n
not_zero n h = let other = eqb-false n 0 (not-true (n == 0) h) in omega (arith, other)

some_by_kind : (e : Element) → is_sound_kind e ≡ true → 0 < e.primary + e.secondary + e.case
some_by_kind e h = by_kind (or_cases _ _ h)
  where
    by_first : ((not (e.primary == 0) && not (e.secondary == 0) && not (e.tertiary == 0)) ≡ true)
        ⊎ (((e.primary == 0) && not (e.secondary == 0) && not (e.tertiary == 0)) ≡ true) → 0 < e.primary + e.secondary + e.case
    by_first (inl primary) =
        let some = not_zero e.primary (and_parts _ _ (and_parts _ (not (e.tertiary == 0)) primary).0).0 in omega (arith, some)
    by_first (inr secondary) =
        let some = not_zero e.secondary (and_parts (e.primary == 0) _ (and_parts _ (not (e.tertiary == 0)) secondary).0).1
        in omega (arith, some)

    by_kind : (((not (e.primary == 0) && not (e.secondary == 0) && not (e.tertiary == 0))
        || ((e.primary == 0) && not (e.secondary == 0) && not (e.tertiary == 0))) ≡ true)
        ⊎ (((e.primary == 0) && (e.secondary == 0) && (e.case == 2) && leb 0x06 (e.tertiary / 256)) ≡ true)
        → 0 < e.primary + e.secondary + e.case
    by_kind (inl first) = by_first (or_cases _ _ first)
    by_kind (inr tertiary) =
        let two = eqb-true e.case 2 (and_parts _ (e.case == 2) (and_parts _ (leb 0x06 (e.tertiary / 256)) tertiary).0).1
        in omega (arith, two)

is_small : (e : Element) → fits_bits e ≡ true → IsSmall e
is_small e fit =
    let whole = and_parts (has_widths e) _ fit
    in let kind = and_parts (is_sound_kind e) _ whole.1
    in let tertiary = and_parts (ltb (e.tertiary / 2 ^ 8) (2 ^ 6)) (ltb (e.tertiary % 2 ^ 8) (2 ^ 6)) kind.1
    in let fifth = and_parts _ (leb e.quaternary 3) whole.0
    in let fourth = and_parts _ (leb e.case 2) fifth.0
    in let third = and_parts _ (ltb e.tertiary (2 ^ 16)) fourth.0
    in let second = and_parts (ltb e.primary (2 ^ 32)) (ltb e.secondary (2 ^ 16)) third.0
    in record {
      primary = ltb-true e.primary (2 ^ 32) second.0;
      secondary = ltb-true e.secondary (2 ^ 16) second.1;
      case = leb-true e.case 2 fourth.1;
      quaternary = leb-true e.quaternary 3 fifth.1;
      lead = ltb-true (e.tertiary / 2 ^ 8) (2 ^ 6) tertiary.0;
      rest = ltb-true (e.tertiary % 2 ^ 8) (2 ^ 6) tertiary.1;
      some = some_by_kind e kind.0;
    }

pub element_of-bits_of : (e : Element) → fits_bits e ≡ true → element_of (bits_of e) ≡ e
unfolding bits_of
element_of-bits_of e fit =
    let small = is_small e fit
    in same_element (element_of (bits_of e)) e (omega (arith, small)) (omega (arith, small)) (omega (arith, small)) (omega (arith, small)) (omega (arith, small))

-- ---- Each form of a word

narrow_states : (e : Element) → IsSmall e → is_narrow e ≡ true → e.quaternary ≡ 0 → States (e.primary + e.secondary + case_byte e) e
narrow_states e small narrow plain =
    let word = e.primary + e.secondary + case_byte e
    in let second = and_parts _ (e.tertiary % 2 ^ 8 == 0) narrow
    in let first = and_parts (e.primary % 2 ^ 16 == 0) (e.secondary % 2 ^ 8 == 0) second.0
    in let primary = eqb-true (e.primary % 2 ^ 16) 0 first.0
    in let secondary = eqb-true (e.secondary % 2 ^ 8) 0 first.1
    in let tertiary = eqb-true (e.tertiary % 2 ^ 8) 0 second.1
    in let low : word % 2 ^ 8 < 0xc0 = omega (arith, small, primary, secondary)
    in let ordinary : is_special word ≡ false = lt-leb 0xc0 (word % 2 ^ 8) low
    in let some : (word == 0) ≡ false = ne_eqb word 0 (λ none. omega (arith, small, none))
    in record {
      fits = omega (arith, small, primary, secondary);
      form = or_left (not (is_special word)) _ (ap not ordinary);
      says =
          cond-false (word == 0) _ _ some
          ∙ ap (option_map element_of)
          (cond-false (has_tag LongSecondary word) _ _ (and_left (is_special word) _ ordinary) ∙ cond-false (is_special word) _ _ ordinary)
          ∙ ap (λ (f : Element). Some f) (same_element (element_of (simple_element word)) e
          (omega (arith, small, primary, secondary)) (omega (arith, small, primary, secondary)) (omega (arith, small, primary, secondary))
          (omega (arith, small, primary, secondary, tertiary)) (omega (arith, small, primary, secondary, plain)));
    }

long_primary_states : (e : Element) → IsSmall e → has_long_primary e ≡ true → e.quaternary ≡ 0 → States (e.primary + 0xc1) e
long_primary_states e small long plain =
    let word = e.primary + 0xc1
    in let fourth = and_parts _ (e.tertiary == 0x500) long
    in let third = and_parts _ (e.case == 0) fourth.0
    in let second = and_parts _ (e.secondary == 0x500) third.0
    in let first = and_parts (not (e.primary == 0)) (e.primary % 2 ^ 8 == 0) second.0
    in let primary = eqb-true (e.primary % 2 ^ 8) 0 first.1
    in let secondary = eqb-true e.secondary 0x500 second.1
    in let case = eqb-true e.case 0 third.1
    in let tertiary = eqb-true e.tertiary 0x500 fourth.1
    in let low : word % 2 ^ 8 ≡ 0xc1 = omega (arith, primary)
    in let some : (word == 0) ≡ false = ne_eqb word 0 (λ none. omega (arith, none))
    in record {
      fits = omega (arith, small, primary);
      form = or_right (not (is_special word)) _ (or_left (has_form LongPrimary word) _ (has_form-byte LongPrimary word 0xc1 low (omega arith)));
      says =
          cond-false (word == 0) _ _ some
          ∙ ap (option_map element_of)
          (cond-false (has_tag LongSecondary word) _ _ (has_tag-byte LongSecondary word 0xc1 low (omega arith))
          ∙ cond-true (is_special word) _ _ (ap (leb 0xc0) low)
          ∙ cond-true (word % 2 ^ 8 == 0xc1) _ _ (eq-eqb (word % 2 ^ 8) 0xc1 low))
          ∙ ap (λ (f : Element). Some f) (same_element (element_of (long_primary_element word)) e
          (omega arith) (omega (arith, secondary)) (omega (arith, case)) (omega (arith, tertiary)) (omega (arith, plain)));
    }

long_secondary_states : (e : Element) → IsSmall e → has_long_secondary e ≡ true → e.quaternary ≡ 0
    → States (e.secondary * 2 ^ 16 + case_byte e * 2 ^ 8 + 0xc2) e
long_secondary_states e small long plain =
    let word = e.secondary * 2 ^ 16 + case_byte e * 2 ^ 8 + 0xc2
    in let both = and_parts (e.primary == 0) (e.tertiary % 2 ^ 8 == 0) long
    in let primary = eqb-true e.primary 0 both.0
    in let tertiary = eqb-true (e.tertiary % 2 ^ 8) 0 both.1
    in let low : word % 2 ^ 8 ≡ 0xc2 = omega arith
    in let some : (word == 0) ≡ false = ne_eqb word 0 (λ none. omega (arith, none))
    in record {
      fits = omega (arith, small);
      form = or_right (not (is_special word)) _ (or_right (has_form LongPrimary word) _ (has_form-byte LongSecondary word 0xc2 low (omega arith)));
      says =
          cond-false (word == 0) _ _ some
          ∙ ap (option_map element_of) (cond-true (has_tag LongSecondary word) _ _ (has_tag-byte LongSecondary word 0xc2 low (omega arith)))
          ∙ ap (λ (f : Element). Some f) (same_element (element_of (word / 2 ^ 8 * 2 ^ 8)) e
          (omega (arith, small, primary)) (omega (arith, small)) (omega (arith, small)) (omega (arith, small, tertiary)) (omega (arith, small, plain)));
    }

pub States-word_of : (e : Element) → fits_bits e ≡ true → fits_word e ≡ true → States (word_of e) e
unfolding word_of
States-word_of e fit short = by_form (is_narrow e) (has_long_primary e) refl refl (or_cases _ _ both.1)
  where
    both : ((e.quaternary == 0) ≡ true) × ((is_narrow e || has_long_primary e || has_long_secondary e) ≡ true)
    both = and_parts (e.quaternary == 0) _ short

    plain : e.quaternary ≡ 0
    plain = eqb-true e.quaternary 0 both.0

    small : IsSmall e
    small = is_small e fit

    by_form : (narrow long : Bool) → is_narrow e ≡ narrow → has_long_primary e ≡ long
        → ((is_narrow e || has_long_primary e) ≡ true) ⊎ (has_long_secondary e ≡ true)
        → States (cond narrow (e.primary + e.secondary + case_byte e)
        (cond long (e.primary + 0xc1) (e.secondary * 2 ^ 16 + case_byte e * 2 ^ 8 + 0xc2))) e
    by_form true long is_first is_second h = narrow_states e small is_first plain
    by_form false true is_first is_second h = long_primary_states e small is_second plain
    by_form false false is_first is_second (inl h) = absurd (both_ways _ (or_from _ _ is_first is_second) h)
    by_form false false is_first is_second (inr h) = long_secondary_states e small h plain
