-- Groups and compressible leads of tables.
use Rattle.std.proofs.Common.{◌≡◌, ℕ, ◌≤◌, ◌+◌, ◌/◌, ◌%◌, false, List, [], ◌∷◌, length, take, get_or, refl, sym, ◌∙◌, ap, arith}
use Rattle.std.specs.List.{list_all}
use Rattle.std.specs.Prelude.{◌==◌, ◌&&◌, leb, Some, None}
use Rattle.std.proofs.lemmas.Bool.{and_right, cond_both, eqb-true, lt-leb, ne_eqb, or_from}
use Rattle.std.proofs.lemmas.Option.{slice_get_past}
use Rattle.icu_normalizer_core.specs.BuiltIn.{is_within}
use Rattle.icu_collator_core.specs.SettingRules.{are_sound_groups, is_sound_group, never_falls}
use Rattle.icu_collator_core.specs.TableSettings.{groups_of, has_bit, has_lead_bit, is_compressible_in, is_usually_compressible}

-- the first four of a list that has as many
pub first_four : (xs : List ℕ) → 4 ≤ length xs → take 4 xs ≡ get_or xs 0 0 ∷ get_or xs 1 0 ∷ get_or xs 2 0 ∷ get_or xs 3 0 ∷ []
first_four [] h = absurd (omega (arith, h))
first_four (a ∷ []) h = absurd (omega (arith, h))
first_four (a ∷ b ∷ []) h = absurd (omega (arith, h))
first_four (a ∷ b ∷ c ∷ []) h = absurd (omega (arith, h))
first_four (a ∷ b ∷ c ∷ d ∷ xs) h = refl

no_bit_past : (xs : List ℕ) (lead : ℕ) → length xs ≡ 20 → 256 ≤ lead → has_lead_bit xs lead ≡ false
no_bit_past xs lead count h =
    ap (λ o. elim o [ Some word ↦ has_bit (lead % 16) word | None ↦ false ]) (slice_get_past xs (4 + lead / 16) (omega (arith, count, h)))

usually_none_past : (lead : ℕ) → 256 ≤ lead → is_usually_compressible lead ≡ false
usually_none_past lead h =
    or_from (is_within 0x61 0x80 lead) (lead == 0xfe)
    (and_right (leb 0x61 lead) (leb lead 0x80) (lt-leb lead 0x80 (omega (arith, h))))
    (ne_eqb lead 0xfe (λ e. omega (arith, e, h)))

-- no number past the bytes is a compressible lead
pub none_compressible_past : (xs : List ℕ) (lead : ℕ) → 256 ≤ lead → is_compressible_in xs lead ≡ false
unfolding is_compressible_in
none_compressible_past xs lead h =
    cond_both (length xs == 20) (has_lead_bit xs lead) (is_usually_compressible lead) (λ b. b ≡ false)
    (λ e. no_bit_past xs lead (eqb-true (length xs) 20 e) h)
    (λ e. usually_none_past lead h)

-- the groups by four values
pub groups_read : (lead : ℕ) (xs : List ℕ) (a b c d : ℕ) → 4 ≤ length xs → a ≡ get_or xs 0 0 → b ≡ get_or xs 1 0 → c ≡ get_or xs 2 0 → d ≡ get_or xs 3 0
    → (list_all (is_sound_group lead) (a ∷ b ∷ c ∷ d ∷ []) && never_falls (a ∷ b ∷ c ∷ d ∷ [])) ≡ are_sound_groups lead (groups_of xs)
groups_read lead xs a b c d h ha hb hc hd =
    let same : a ∷ b ∷ c ∷ d ∷ [] ≡ get_or xs 0 0 ∷ get_or xs 1 0 ∷ get_or xs 2 0 ∷ get_or xs 3 0 ∷ [] = cc
    in ap (are_sound_groups lead) (same ∙ sym (first_four xs h))
