-- The rule on settings, of the same lines in another order.
use Rattle.std.proofs.Common.{◌≡◌, ◌⊎◌, ℕ, ◌+◌, ◌*◌, ◌^◌, inl, inr, ⊎_elim, Bool, true, false, not, cond, ◌==◌, ◌&&◌, leb, List, [], ◌∷◌, ◌++◌, map, take, drop, Option, Some, None, refl, sym, ap, ◌∙◌, arith}
use Rattle.std.specs.Prelude.{replicate}
use Rattle.std.specs.List.{list_all, list_any}
use Rattle.std.specs.List.Sorted.{IsPermutation}
use Rattle.std.specs.Option.{unwrap_or}
use Rattle.std.proofs.lemmas.Bool.{and_cases, and_from, and_parts, and_right, eq-eqb, false_from_ne_true, false≢true, leb-true, ne_eqb, not-false, or_from, or_parts}
use Rattle.std.proofs.lemmas.List.{take-append-drop}
use Rattle.icu_collator_core.specs.SettingRules.{are_alike, are_among, are_distinct, is_amid_numbers, is_exchange, keep_compressible}
use Rattle.icu_collator_core.specs.WeightRules.{is_letter_lead}
use Rattle.collate_lines.specs.declared.rule.Rule.TheVariants.{Set, V14}
use Rattle.collate_lines.specs.Record.{Record}
use Rattle.collate_rules.specs.Meaning.{compress_in, first_found, groups_in, numeric_in, reorder_in, set_to}
use Rattle.collate_rules.specs.Offenders.{NoneOffends}
use Rattle.collate_rules.specs.SettingLines.{are_bad_groups, are_bad_settings, breaks_settings, compress_of, groups_of, is_compressible_by, numeric_of, reorder_of}
use Rattle.collate_rules.proofs.offenders.BreachLemmas.{none_together}
use Rattle.collate_record_rules.proofs.records.RecordGrowthLemmas.{first_found-append}
use Rattle.collate_record_rules.proofs.records.RecordSettingLemmas.{none_set}
use Rattle.collate_records.proofs.comparing.LineOrderLemmas.{compress_alike, equal_settings, reorder_alike}

-- what fewer lines set is the default, or what all set
set_before : {A : Type 0} (found : Record → Option A) (default : A) (lines more : List Record)
    → (set_to found default lines ≡ default) ⊎ (set_to found default lines ≡ set_to found default (lines ++ more))
set_before {A} found default lines more = by (first_found found lines) refl
  where
    by : (o : Option A) → first_found found lines ≡ o
        → (set_to found default lines ≡ default) ⊎ (set_to found default lines ≡ set_to found default (lines ++ more))
    by None e = inl (ap (λ (p : Option A). unwrap_or p default) e)
    by (Some y) e =
        inr (ap (λ (p : Option A). unwrap_or p default) e ∙ sym (ap (λ (p : Option A). unwrap_or p default) (first_found-append found lines more y e)))

-- what settings that keep the rule keep
record KeepsEach (counted n : ℕ) (gs ls : List ℕ) (ps : List (ℕ × ℕ)) : Type 0 where
  pub lead : not (is_letter_lead n) ≡ false
  pub compressed : not (list_all is_letter_lead ls) ≡ false
  pub rising : are_bad_groups gs ≡ false
  pub amid : ((n == counted) && list_any (is_amid_numbers counted) gs) ≡ false
  pub alike : not (keep_compressible (is_compressible_by ls) ps) ≡ false
  pub exchange : not (is_exchange ps) ≡ false

parts_kept : (counted n : ℕ) (gs ls : List ℕ) (ps : List (ℕ × ℕ)) → are_bad_settings counted n gs ls ps ≡ false → KeepsEach counted n gs ls ps
parts_kept counted n gs ls ps h =
    let p = or_parts _ (not (is_exchange ps)) h in
    let q = or_parts _ (not (keep_compressible (is_compressible_by ls) ps)) p.0 in
    let r = or_parts _ ((n == counted) && list_any (is_amid_numbers counted) gs) q.0 in
    let s = or_parts _ (are_bad_groups gs) r.0 in
    let t = or_parts (not (is_letter_lead n)) (not (list_all is_letter_lead ls)) s.0 in
    record { lead = t.0; compressed = t.1; rising = s.1; amid = r.1; alike = q.1; exchange = p.1 }

kept_of_parts : (counted n : ℕ) (gs ls : List ℕ) (ps : List (ℕ × ℕ)) → KeepsEach counted n gs ls ps → are_bad_settings counted n gs ls ps ≡ false
kept_of_parts counted n gs ls ps kept =
    or_from _ (not (is_exchange ps))
    (or_from _ (not (keep_compressible (is_compressible_by ls) ps))
    (or_from _ ((n == counted) && list_any (is_amid_numbers counted) gs)
    (or_from _ (are_bad_groups gs)
    (or_from (not (is_letter_lead n)) (not (list_all is_letter_lead ls)) kept.lead kept.compressed)
    kept.rising) kept.amid) kept.alike) kept.exchange

-- the default groups don't end amid numbers
amid_none : (counted : ℕ) → is_amid_numbers counted 0x300 ≡ false
amid_none counted =
    false_from_ne_true (is_amid_numbers counted 0x300) (λ t.
    let both = and_parts (leb (counted * 2 ^ 8 + 1) 0x300) (leb 0x300 (counted * 2 ^ 8 + 0xff)) t in
    let low = leb-true (counted * 2 ^ 8 + 1) 0x300 both.0 in
    let high = leb-true 0x300 (counted * 2 ^ 8 + 0xff) both.1 in
    omega (arith, low, high))

default_amid : (counted : ℕ) → list_any (is_amid_numbers counted) (replicate 4 0x300) ≡ false
default_amid counted =
    let none = amid_none counted in
    or_from _ _ none (or_from _ _ none (or_from _ _ none (or_from _ _ none refl)))

-- leads of letters that change places are all incompressible, where none is listed
letters_alike : (ps : List (ℕ × ℕ)) → list_all is_letter_lead (map (λ p. p.0) ps) ≡ true → list_all is_letter_lead (map (λ p. p.1) ps) ≡ true
    → keep_compressible (is_compressible_by []) ps ≡ true
letters_alike [] h k = refl
letters_alike (p ∷ ps) h k =
    let first = and_parts (is_letter_lead p.0) (list_all is_letter_lead (map (λ q. q.0) ps)) h in
    let second = and_parts (is_letter_lead p.1) (list_all is_letter_lead (map (λ q. q.1) ps)) k in
    and_from (are_alike (is_compressible_by []) p.0 p.1) (keep_compressible (is_compressible_by []) ps)
    (ap (λ (t : Bool). cond t (is_compressible_by [] p.1) (not (is_compressible_by [] p.1))) (plain p.0 first.0) ∙ ap not (plain p.1 second.0))
    (letters_alike ps first.1 second.1)
  where
    plain : (lead : ℕ) → is_letter_lead lead ≡ true → is_compressible_by [] lead ≡ false
    plain lead letter =
        let most = leb-true lead 0xfc (and_parts (leb 0x03 lead) (leb lead 0xfc) letter).1 in
        or_from (lead == 0xfe) false (ne_eqb lead 0xfe (λ e. omega (arith, most, e))) refl

exchange_alike : (ps : List (ℕ × ℕ)) → not (is_exchange ps) ≡ false → keep_compressible (is_compressible_by []) ps ≡ true
exchange_alike ps h =
    let leads = map (λ (p : ℕ × ℕ). p.0) ps in
    let others = map (λ (p : ℕ × ℕ). p.1) ps in
    let p = and_parts _ (are_among others leads) (not-false _ h) in
    let q = and_parts _ (are_among leads others) p.0 in
    let r = and_parts _ (are_distinct others) q.0 in
    let s = and_parts _ (are_distinct leads) r.0 in
    let t = and_parts (list_all is_letter_lead leads) (list_all is_letter_lead others) s.0 in
    letters_alike ps t.0 t.1

-- What fewer lines set keeps the rule where what all set does. The lead of numbers of all counts.
kept_before : (lines more : List Record) → breaks_settings (numeric_of (lines ++ more)) (lines ++ more) ≡ false → breaks_settings (numeric_of (lines ++ more)) lines ≡ false
kept_before lines more h =
    let counted = numeric_of (lines ++ more) in
    let kept = parts_kept counted counted (groups_of (lines ++ more)) (compress_of (lines ++ more)) (reorder_of (lines ++ more)) h in
    let none_amid : list_any (is_amid_numbers counted) (groups_of (lines ++ more)) ≡ false =
    ⊎_elim (λ e. absurd (false≢true (sym e ∙ eq-eqb counted counted refl))) (λ e. e) (and_cases (counted == counted) _ kept.amid) in
    kept_of_parts counted (numeric_of lines) (groups_of lines) (compress_of lines) (reorder_of lines) (record {
      lead = ⊎_elim (λ e. ap (λ (n : ℕ). not (is_letter_lead n)) e) (λ e. ap (λ (n : ℕ). not (is_letter_lead n)) e ∙ kept.lead) (set_before numeric_in 0x10 lines more);
      compressed = ⊎_elim (λ e. ap (λ (ls : List ℕ). not (list_all is_letter_lead ls)) e) (λ e. ap (λ (ls : List ℕ). not (list_all is_letter_lead ls)) e ∙ kept.compressed)
          (set_before compress_in [] lines more);
      rising = ⊎_elim (λ e. ap are_bad_groups e) (λ e. ap are_bad_groups e ∙ kept.rising) (set_before groups_in (replicate 4 0x300) lines more);
      amid = and_right (numeric_of lines == counted) _
          (⊎_elim (λ e. ap (list_any (is_amid_numbers counted)) e ∙ default_amid counted) (λ e. ap (list_any (is_amid_numbers counted)) e ∙ none_amid)
          (set_before groups_in (replicate 4 0x300) lines more));
      alike = ⊎_elim
          (λ none. ap (λ (ps : List (ℕ × ℕ)). not (keep_compressible (is_compressible_by (compress_of lines)) ps)) none)
          (λ all. ap (λ (ps : List (ℕ × ℕ)). not (keep_compressible (is_compressible_by (compress_of lines)) ps)) all
          ∙ ⊎_elim
          (λ e. ap (λ (ls : List ℕ). not (keep_compressible (is_compressible_by ls) (reorder_of (lines ++ more)))) e
          ∙ ap not (exchange_alike (reorder_of (lines ++ more)) kept.exchange))
          (λ e. ap (λ (ls : List ℕ). not (keep_compressible (is_compressible_by ls) (reorder_of (lines ++ more)))) e ∙ kept.alike)
          (set_before compress_in [] lines more))
          (set_before reorder_in [] lines more);
      exchange = ⊎_elim (λ e. ap (λ (ps : List (ℕ × ℕ)). not (is_exchange ps)) e) (λ e. ap (λ (ps : List (ℕ × ℕ)). not (is_exchange ps)) e ∙ kept.exchange)
          (set_before reorder_in [] lines more);
    })

module _ (a b : List Record) (moved : IsPermutation a b) (once : NoneOffends V14 a) where
  settings_same : breaks_settings (numeric_of b) b ≡ breaks_settings (numeric_of a) a
  settings_same =
      let settings = (equal_settings a b moved once).values in
      ap (λ (n : ℕ). are_bad_settings n n (groups_of b) (compress_of b) (reorder_of b)) (sym settings.numeric)
      ∙ ap (λ (gs : List ℕ). are_bad_settings (numeric_of a) (numeric_of a) gs (compress_of b) (reorder_of b)) (sym settings.groups)
      ∙ ap (λ (ls : List ℕ). are_bad_settings (numeric_of a) (numeric_of a) (groups_of a) ls (reorder_of b)) (sym (compress_alike a b moved once))
      ∙ ap (λ (ps : List (ℕ × ℕ)). are_bad_settings (numeric_of a) (numeric_of a) (groups_of a) (compress_of a) ps) (sym (reorder_alike a b moved once))

  pub settings_moved : NoneOffends Set a → NoneOffends Set b
  settings_moved keeps i lt broken =
      let whole : breaks_settings (numeric_of a) a ≡ false =
      false_from_ne_true _ (none_together (λ lines. breaks_settings (numeric_of a) lines ≡ true) (λ h. false≢true (sym (none_set (numeric_of a)) ∙ h)) a keeps) in
      let all : breaks_settings (numeric_of b) b ≡ false = settings_same ∙ whole in
      let same : take (i + 1) b ++ drop (i + 1) b ≡ b = take-append-drop (i + 1) b in
      let parted : breaks_settings (numeric_of (take (i + 1) b ++ drop (i + 1) b)) (take (i + 1) b ++ drop (i + 1) b) ≡ false =
      ap (λ (lines : List Record). breaks_settings (numeric_of lines) lines) same ∙ all in
      let before : breaks_settings (numeric_of (take (i + 1) b ++ drop (i + 1) b)) (take (i + 1) b) ≡ false = kept_before (take (i + 1) b) (drop (i + 1) b) parted in
      false≢true (sym before ∙ ap (λ (lines : List Record). breaks_settings (numeric_of lines) (take (i + 1) b)) same ∙ broken)
