-- Where no line offends against the rule on settings, what the lines set is sound.
use Rattle.std.proofs.Common.{◌≡◌, ℕ, Bool, true, false, not, ◌==◌, ◌&&◌, ◌||◌, leb, List, [], ◌∷◌, length, refl, sym, ◌∙◌, subst, ⊎_elim, All}
use Rattle.std.specs.Bool.{IsTrue}
use Rattle.std.specs.List.{list_all, list_any}
use Rattle.std.proofs.lemmas.Bool.{and_cases, and_from, and_parts, eq-eqb, eqb-true, false_from_ne_true, false≢true, not-false, not_from_false, or_cases, or_left, or_parts, or_right}
use Rattle.std.proofs.lemmas.List.Elements.{All-head, All-tail}
use Rattle.icu_collator_core.specs.SettingRules.{are_sound_groups, is_amid_numbers, is_exchange, is_sound_group, keep_compressible, never_falls}
use Rattle.icu_collator_core.specs.WeightRules.{is_letter_lead}
use Rattle.collate_lines.specs.declared.rule.Rule.TheVariants.{Set}
use Rattle.collate_lines.specs.Record.{Record, nothing, class, mapping, compatibility, weights, range, digit, setting, alternate, backward, case_first, max_variable, dot_above, numeric, groups, compress, reorder}
use Rattle.collate_rules.specs.LineCounts.{KeepsCounts}
use Rattle.collate_rules.specs.KeptSettings.{AreSoundlySet}
use Rattle.collate_rules.specs.Meaning.{is_compressible_in}
use Rattle.collate_rules.specs.Offenders.{NoneOffends}
use Rattle.collate_rules.specs.SettingLines.{are_bad_groups, are_bad_settings, breaks_settings, compress_of, groups_of, is_compressible_by, numeric_of, reorder_of}
use Rattle.collate_record_rules.proofs.records.ExchangeLemmas.{exchanges}
use Rattle.collate_rules.proofs.offenders.BreachLemmas.{none_together}
use Rattle.collate_record_rules.proofs.records.RecordSettingLemmas.{none_set}

-- ---- What the rule leaves

record KeepsRule (counted n : ℕ) (gs ls : List ℕ) (ps : List (ℕ × ℕ)) : Type 0 where
  pub lead : not (is_letter_lead n) ≡ false
  pub compressed : not (list_all is_letter_lead ls) ≡ false
  pub rising : are_bad_groups gs ≡ false
  pub amid : ((n == counted) && list_any (is_amid_numbers counted) gs) ≡ false
  pub alike : not (keep_compressible (is_compressible_by ls) ps) ≡ false
  pub exchange : not (is_exchange ps) ≡ false

six : (a b c d e f : Bool) → (a || b || c || d || e || f) ≡ false
    → (a ≡ false) × (b ≡ false) × (c ≡ false) × (d ≡ false) × (e ≡ false) × (f ≡ false)
six false false false false false false h = (refl, refl, refl, refl, refl, refl)
six true b c d e f h = absurd (false≢true (sym h))
six false true c d e f h = absurd (false≢true (sym h))
six false false true d e f h = absurd (false≢true (sym h))
six false false false true e f h = absurd (false≢true (sym h))
six false false false false true f h = absurd (false≢true (sym h))
six false false false false false true h = absurd (false≢true (sym h))

keeps_rule : (counted n : ℕ) (gs ls : List ℕ) (ps : List (ℕ × ℕ)) → are_bad_settings counted n gs ls ps ≡ false → KeepsRule counted n gs ls ps
keeps_rule counted n gs ls ps h =
    let parts = six (not (is_letter_lead n)) (not (list_all is_letter_lead ls)) (are_bad_groups gs) ((n == counted) && list_any (is_amid_numbers counted) gs)
    (not (keep_compressible (is_compressible_by ls) ps)) (not (is_exchange ps)) h in
    record { lead = parts.0; compressed = parts.1; rising = parts.2; amid = parts.3; alike = parts.4; exchange = parts.5 }

-- ---- Groups

each_sound : (n : ℕ) (gs : List ℕ) → list_all (leb 0x300) gs ≡ true → list_any (is_amid_numbers n) gs ≡ false → list_all (is_sound_group n) gs ≡ true
each_sound n [] h k = refl
each_sound n (g ∷ gs) h k =
    let low = and_parts (leb 0x300 g) (list_all (leb 0x300) gs) h in
    let amid = or_parts (is_amid_numbers n g) (list_any (is_amid_numbers n) gs) k in
    and_from (is_sound_group n g) (list_all (is_sound_group n) gs)
    (and_from (leb 0x300 g) (not (is_amid_numbers n g)) low.0 (not_from_false (is_amid_numbers n g) amid.0))
    (each_sound n gs low.1 amid.1)

sound_groups : (n : ℕ) (gs : List ℕ) → length gs ≡ 4 → are_bad_groups gs ≡ false → ((n == n) && list_any (is_amid_numbers n) gs) ≡ false
    → are_sound_groups n gs ≡ true
sound_groups n gs four rising amid =
    let parts = and_parts (list_all (leb 0x300) gs) (never_falls gs) (not-false _ rising) in
    let none : list_any (is_amid_numbers n) gs ≡ false =
    ⊎_elim (λ e. absurd (false≢true (sym e ∙ eq-eqb n n refl))) (λ e. e) (and_cases (n == n) (list_any (is_amid_numbers n) gs) amid) in
    and_from ((length gs == 4) && list_all (is_sound_group n) gs) (never_falls gs)
    (and_from (length gs == 4) (list_all (is_sound_group n) gs) (eq-eqb (length gs) 4 four) (each_sound n gs parts.0 none)) parts.1

-- the groups that lines set are four
four_groups : (lines : List Record) → All KeepsCounts lines → length (groups_of lines) ≡ 4
four_groups [] all = refl
four_groups (nothing ∷ rs) all = four_groups rs (All-tail KeepsCounts _ rs all)
four_groups (class d k ∷ rs) all = four_groups rs (All-tail KeepsCounts _ rs all)
four_groups (mapping d ds x ∷ rs) all = four_groups rs (All-tail KeepsCounts _ rs all)
four_groups (compatibility d ds ∷ rs) all = four_groups rs (All-tail KeepsCounts _ rs all)
four_groups (weights l p t es ∷ rs) all = four_groups rs (All-tail KeepsCounts _ rs all)
four_groups (range r ∷ rs) all = four_groups rs (All-tail KeepsCounts _ rs all)
four_groups (digit d v ∷ rs) all = four_groups rs (All-tail KeepsCounts _ rs all)
four_groups (setting (alternate a) ∷ rs) all = four_groups rs (All-tail KeepsCounts _ rs all)
four_groups (setting (backward b) ∷ rs) all = four_groups rs (All-tail KeepsCounts _ rs all)
four_groups (setting (case_first c) ∷ rs) all = four_groups rs (All-tail KeepsCounts _ rs all)
four_groups (setting (max_variable m) ∷ rs) all = four_groups rs (All-tail KeepsCounts _ rs all)
four_groups (setting (dot_above b) ∷ rs) all = four_groups rs (All-tail KeepsCounts _ rs all)
four_groups (setting (numeric l) ∷ rs) all = four_groups rs (All-tail KeepsCounts _ rs all)
four_groups (setting (groups gs) ∷ rs) all = All-head KeepsCounts (setting (groups gs)) rs all
four_groups (setting (compress ls) ∷ rs) all = four_groups rs (All-tail KeepsCounts _ rs all)
four_groups (setting (reorder ps) ∷ rs) all = four_groups rs (All-tail KeepsCounts _ rs all)

-- ---- Compressible leads

among_letters : (ls : List ℕ) (lead : ℕ) → list_all is_letter_lead ls ≡ true → list_any (λ other. other == lead) ls ≡ true → is_letter_lead lead ≡ true
among_letters [] lead h k = absurd (false≢true k)
among_letters (l ∷ ls) lead h k =
    let both = and_parts (is_letter_lead l) (list_all is_letter_lead ls) h in
    ⊎_elim (λ e. subst (λ (x : ℕ). is_letter_lead x ≡ true) (eqb-true l lead e) both.0) (among_letters ls lead both.1) (or_cases (l == lead) _ k)

compressible : (ls : List ℕ) (lead : ℕ) → list_all is_letter_lead ls ≡ true → is_compressible_by ls lead ≡ true → (is_letter_lead lead || (lead == 0xfe)) ≡ true
compressible ls lead h k =
    ⊎_elim (λ e. or_right (is_letter_lead lead) (lead == 0xfe) e) (λ e. or_left (is_letter_lead lead) (lead == 0xfe) (among_letters ls lead h e))
    (or_cases (lead == 0xfe) (list_any (λ other. other == lead) ls) k)

-- ---- The whole

pub soundly_set : (records : List Record) → All KeepsCounts records → NoneOffends Set records → AreSoundlySet records
soundly_set records counts keep =
    let counted = numeric_of records in
    let unbroken : IsTrue (breaks_settings counted records) → ⊥ =
    none_together (λ lines. IsTrue (breaks_settings counted lines)) (λ h. false≢true (sym (none_set counted) ∙ h)) records keep in
    let kept = keeps_rule counted counted (groups_of records) (compress_of records) (reorder_of records) (false_from_ne_true _ unbroken) in
    record {
      numeric_lead = not-false _ kept.lead;
      groups = sound_groups counted (groups_of records) (four_groups records counts) kept.rising kept.amid;
      implicit = refl;
      compressible = λ lead h. compressible (compress_of records) lead (not-false _ kept.compressed) h;
      leads = exchanges (is_compressible_in records) (reorder_of records) (not-false _ kept.exchange) (not-false _ kept.alike);
    }
