-- Where no line offends against V1 to V6, the weights of all lines are sound.
use Rattle.std.proofs.Common.{◌≡◌, ℕ, ◌+◌, ◌<◌, Bool, true, false, cond, ◌==◌, ◌||◌, leb, List, [], ◌∷◌, length, take, Option, Some, None, refl, sym, ap, ◌∙◌, subst, arith, All}
use Rattle.std.specs.Option.{is_some, unwrap_or}
use Rattle.std.specs.List.{Contains, list_all}
use Rattle.std.proofs.lemmas.Bool.{and_from, and_parts, cond-true, or_right, true_from_ne_false}
use Rattle.std.proofs.lemmas.List.{take_all}
use Rattle.std.proofs.lemmas.List.Elements.{All-head, All-tail, All-weaker, Contains-append_left, Contains-append_right}
use Rattle.std.proofs.lemmas.List.Folds.{list_all-append}
use Rattle.icu_normalizer_core.specs.BuiltIn.{is_within}
use Rattle.icu_collator_types.specs.declared.elements.Element.{Element}
use Rattle.icu_collator_core.specs.Defaults.{range_primary}
use Rattle.icu_collator_core.specs.PlainLeads.{leads_alone}
use Rattle.icu_collator_core.specs.Weights.{Range}
use Rattle.icu_collator_core.specs.WeightRules.{AreSoundWeights, IsRecorded, has_widths, is_beside_ranged, is_of_other_lead, is_sound_element, is_sound_kind, is_sound_primary, is_sound_range, is_sound_ranged}
use Rattle.icu_collator_core.proofs.apart.GrowthLemmas.{first_in}
use Rattle.icu_collator_core.proofs.weights.RangePrimaryLemmas.{other_lead_beside, range_primary_sound}
use Rattle.collate_lines.specs.Record.{Record, nothing, class, mapping, compatibility, weights, range, digit, setting, Layer, root, tailoring}
use Rattle.collate_rules.specs.GivenWeights.{HasRefused, KeepsWidths, are_all_apart, are_all_disjoint, are_sound_ranges, elements_of, given_elements, given_ranges, has_sound_primary, has_sound_secondary, has_sound_tertiary, leads_to, numeric_to, ranges_of}
use Rattle.collate_rules.specs.Meaning.{digit_in, elements_in, first_found, is_compressible_in, numeric_in, range_in, set_to, span_of, weights_of}
use Rattle.collate_lines.specs.Repeats.{record_at}
use Rattle.collate_rules.specs.KeptWeights.{KeepWeightRules}
use Rattle.collate_rules.proofs.given.GivenListLemmas.{apart_tells, list_all_tells}
use Rattle.collate_rules.proofs.offenders.LineRuleLemmas.{each_line}

-- ---- Tests of all elements

-- the elements of a line pass
abbrev LinePasses : (Element → Bool) → Record → Type 0
LinePasses passes line = list_all passes (elements_of line) ≡ true

-- what the elements of each line pass, all given elements pass
all_given : (passes : Element → Bool) (records : List Record) → All (LinePasses passes) records
    → list_all passes (given_elements records) ≡ true
all_given passes [] all = refl
all_given passes (line ∷ records) all =
    list_all-append passes (elements_of line) (given_elements records)
    ∙ and_from (list_all passes (elements_of line)) (list_all passes (given_elements records))
    (All-head (LinePasses passes) line records all) (all_given passes records (All-tail (LinePasses passes) line records all))

none_refused : (passes : Element → Bool) (records : List Record)
    → ((i : ℕ) → i < length records → HasRefused passes (record_at records i) → ⊥)
    → list_all passes (given_elements records) ≡ true
none_refused passes records keeps =
    all_given passes records
    (each_line (LinePasses passes) records (λ i lt. true_from_ne_false _ (keeps i lt)))

-- what the lines up to no line break, all lines keep
none_broken : (passes : List Record → Bool) → passes [] ≡ true → (records : List Record)
    → ((i : ℕ) → i < length records → passes (take (i + 1) records) ≡ false → ⊥) → passes records ≡ true
none_broken passes empty [] keeps = empty
none_broken passes empty (line ∷ records) keeps =
    subst (λ lines. passes lines ≡ true) (take_all (length records + 1) (line ∷ records) (omega arith))
    (true_from_ne_false _ (keeps (length records) (omega arith)))

-- ---- What is recorded, is given

given_in : (layer : Layer) (before text : List ℕ) (line : Record) (es : List Element) → elements_in layer before text line ≡ Some es
    → elements_of line ≡ es
given_in layer before text (weights other prefix key fs) es h = at _ h
  where
    at : (b : Bool) → cond b (Some fs) None ≡ Some es → fs ≡ es
    at true e = cc
    at false e = cc
given_in layer before text nothing es h = cc
given_in layer before text (class c k) es h = cc
given_in layer before text (mapping c ds x) es h = cc
given_in layer before text (compatibility c ds) es h = cc
given_in layer before text (range r) es h = cc
given_in layer before text (digit c v) es h = cc
given_in layer before text (setting s) es h = cc

found_given : (layer : Layer) (before text : List ℕ) (records : List Record) (es : List Element) (e : Element)
    → first_found (elements_in layer before text) records ≡ Some es → Contains es e → Contains (given_elements records) e
found_given layer before text [] es e = λ h c. cc
found_given layer before text (line ∷ records) es e =
    elim (elements_in layer before text line) as
    (λ o. (elements_in layer before text line ≡ o → (elim o [ Some y ↦ Some y | None ↦ first_found (elements_in layer before text) records ]) ≡ Some es
    → Contains es e → Contains (given_elements (line ∷ records)) e)) [
      | Some fs ↦ λ is h c.
          Contains-append_left (elements_of line) (given_elements records) e
          (let same : fs ≡ es = cc in subst (λ xs. Contains xs e) (sym (given_in layer before text line fs is ∙ same)) c)
      | None ↦ λ is h c.
          Contains-append_right (elements_of line) (given_elements records) e (found_given layer before text records es e h c)
    ] refl

recorded_given : (records : List Record) (e : Element) → IsRecorded (weights_of records) e → Contains (given_elements records) e
recorded_given records e (before, text, es, h, c) = at (first_found (elements_in tailoring before text) records) refl h
  where
    at : (o : Option (List Element)) → first_found (elements_in tailoring before text) records ≡ o
        → (elim o [ Some fs ↦ Some fs | None ↦ first_found (elements_in root before text) records ]) ≡ Some es
        → Contains (given_elements records) e
    at (Some fs) is k = found_given tailoring before text records es e (is ∙ k) c
    at None is k = found_given root before text records es e k c

-- ---- Leads

all_lead : (records : List Record) → numeric_to records records ≡ set_to numeric_in 0x10 records
all_lead records = at (first_found numeric_in records)
  where
    at : (o : Option ℕ) → cond ((unwrap_or o 0x10 == 0x10) || is_some o) (unwrap_or o 0x10) 0 ≡ unwrap_or o 0x10
    at None = refl
    at (Some lead) = cond-true _ lead 0 (or_right (lead == 0x10) true refl)

-- leads alone are asked for
module _ (records : List Record) where
  primary_by_all : (p : ℕ) → is_sound_primary (leads_to records records) p ≡ is_sound_primary (weights_of records) p
  primary_by_all p = ap (λ n. is_sound_primary (leads_alone (is_compressible_in records) n) p) (all_lead records)

  range_by_all : (r : Range) → is_sound_range (leads_to records records) r ≡ is_sound_range (weights_of records) r
  range_by_all r = ap (λ n. is_sound_range (leads_alone (is_compressible_in records) n) r) (all_lead records)

-- ---- Ranges

found_range : (c : ℕ) (records : List Record) (r : Range) → first_found (range_in c) records ≡ Some r → Contains (given_ranges records) r
found_range c [] r = λ h. cc
found_range c (line ∷ records) r =
    elim (range_in c line) as
    (λ o. (range_in c line ≡ o → (elim o [ Some s ↦ Some s | None ↦ first_found (range_in c) records ]) ≡ Some r
    → Contains (given_ranges (line ∷ records)) r)) [
      | Some s ↦ λ is h.
          Contains-append_left (ranges_of line) (given_ranges records) r
          (let same : s ≡ r = cc in subst (λ x. Contains (ranges_of line) x) same (given_range line s is))
      | None ↦ λ is h. Contains-append_right (ranges_of line) (given_ranges records) r (found_range c records r h)
    ] refl
  where
    given_range : (line : Record) (s : Range) → range_in c line ≡ Some s → Contains (ranges_of line) s
    given_range (range t) s h = at (is_within t.first t.last c) h
      where
        at : (b : Bool) → cond b (Some (span_of t)) None ≡ Some s → Contains (span_of t ∷ []) s
        at true e = let same : span_of t ≡ s = cc in subst (λ x. Contains (span_of t ∷ []) x) same (first_in (span_of t) [])
        at false e = cc
    given_range nothing s h = cc
    given_range (class d k) s h = cc
    given_range (mapping d ds x) s h = cc
    given_range (compatibility d ds) s h = cc
    given_range (weights layer prefix text es) s h = cc
    given_range (digit d v) s h = cc
    given_range (setting t) s h = cc

-- ---- Widths and digits

widths_given : (records : List Record) → All KeepsWidths records → All (LinePasses has_widths) records
widths_given records all = All-weaker KeepsWidths (LinePasses has_widths) at records all
  where
    at : (line : Record) → KeepsWidths line → LinePasses has_widths line
    at (weights layer prefix text es) h = h
    at nothing h = refl
    at (class c k) h = refl
    at (mapping c ds x) h = refl
    at (compatibility c ds) h = refl
    at (range r) h = refl
    at (digit c v) h = refl
    at (setting s) h = refl

digits_given : (c d : ℕ) (records : List Record) → All KeepsWidths records → first_found (digit_in c) records ≡ Some d → leb d 9 ≡ true
digits_given c d [] all = λ h. cc
digits_given c d (line ∷ records) all =
    elim (digit_in c line) as
    (λ o. (digit_in c line ≡ o → (elim o [ Some y ↦ Some y | None ↦ first_found (digit_in c) records ]) ≡ Some d → leb d 9 ≡ true)) [
      | Some e ↦ λ is h. let same : e ≡ d = cc in subst (λ v. leb v 9 ≡ true) same (at line e (All-head KeepsWidths line records all) is)
      | None ↦ λ is h. digits_given c d records (All-tail KeepsWidths line records all) h
    ] refl
  where
    at : (line : Record) (e : ℕ) → KeepsWidths line → digit_in c line ≡ Some e → leb e 9 ≡ true
    at (digit b v) e keeps h = inside (c == b) h
      where
        inside : (b : Bool) → cond b (Some v) None ≡ Some e → leb e 9 ≡ true
        inside true k = let same : v ≡ e = cc in subst (λ n. leb n 9 ≡ true) same keeps
        inside false k = cc
    at nothing e keeps h = cc
    at (class b k) e keeps h = cc
    at (mapping b ds x) e keeps h = cc
    at (compatibility b ds) e keeps h = cc
    at (weights layer prefix text es) e keeps h = cc
    at (range r) e keeps h = cc
    at (setting s) e keeps h = cc

-- ---- The whole

module _ (records : List Record) (widths : All KeepsWidths records) (keep : KeepWeightRules records) where
  each_element : (e : Element) → Contains (given_elements records) e → is_sound_element (weights_of records) e ≡ true
  each_element e c =
      let kinds = list_all_tells is_sound_kind (given_elements records) (none_refused is_sound_kind records keep.kinds) e c in
      let secondaries = list_all_tells has_sound_secondary (given_elements records) (none_refused has_sound_secondary records keep.secondaries) e c in
      let tertiaries = list_all_tells has_sound_tertiary (given_elements records) (none_refused has_sound_tertiary records keep.tertiaries) e c in
      let primaries =
      list_all_tells (has_sound_primary (leads_to records records)) (given_elements records)
      (none_broken (λ lines. list_all (has_sound_primary (leads_to records lines)) (given_elements lines)) refl records keep.primaries) e c in
      and_from _ _
      (and_from _ _
      (and_from _ _ kinds (sym (ap (λ b. (e.primary == 0) || b) (primary_by_all records e.primary)) ∙ primaries))
      secondaries)
      tertiaries

  sound_ranges : are_sound_ranges (leads_to records records) (given_ranges records) (given_elements records) ≡ true
  sound_ranges =
      none_broken (λ lines. are_sound_ranges (leads_to records lines) (given_ranges lines) (given_elements lines)) refl records keep.ranges

  range_sound : (r : Range) → Contains (given_ranges records) r → is_sound_range (weights_of records) r ≡ true
  range_sound r c =
      let first = and_parts _ (list_all (λ s. list_all (is_of_other_lead s) (given_elements records)) (given_ranges records)) sound_ranges in
      let second = and_parts (list_all (is_sound_range (leads_to records records)) (given_ranges records)) (are_all_disjoint (given_ranges records)) first.0 in
      sym (range_by_all records r) ∙ list_all_tells (is_sound_range (leads_to records records)) (given_ranges records) second.0 r c

  other_lead : (r : Range) (e : Element) → Contains (given_ranges records) r → Contains (given_elements records) e → is_of_other_lead r e ≡ true
  other_lead r e c k =
      let first = and_parts _ (list_all (λ s. list_all (is_of_other_lead s) (given_elements records)) (given_ranges records)) sound_ranges in
      list_all_tells (is_of_other_lead r) (given_elements records)
      (list_all_tells (λ s. list_all (is_of_other_lead s) (given_elements records)) (given_ranges records) first.1 r c) e k

  abbrev compressible : ℕ → Bool
  compressible = is_compressible_in records

  -- the range that gives a primary
  range_of_primary : (c p : ℕ) → (weights_of records).ranged_primary c ≡ Some p
      → (r : Range) × Contains (given_ranges records) r × (range_primary compressible r c ≡ p)
  range_of_primary c p = at (first_found (range_in c) records) refl
    where
      at : (o : Option Range) → first_found (range_in c) records ≡ o
          → (elim o [ Some r ↦ Some (range_primary compressible r c) | None ↦ None ]) ≡ Some p
          → (r : Range) × Contains (given_ranges records) r × (range_primary compressible r c ≡ p)
      at (Some r) is h = (r, found_range c records r is, (let same : range_primary compressible r c ≡ p = cc in same))
      at None is h = cc

  pub sound_weights : AreSoundWeights (weights_of records)
  sound_weights = record {
    widths = λ e is. list_all_tells has_widths (given_elements records) (all_given has_widths records (widths_given records widths)) e (recorded_given records e is);
    elements = λ e is. each_element e (recorded_given records e is);
    apart = λ d e is also.
        apart_tells (given_elements records) (none_broken (λ lines. are_all_apart (given_elements lines)) refl records keep.apart)
        d e (recorded_given records d is) (recorded_given records e also);
    ranged = λ c p h.
        let found = range_of_primary c p h in
        subst (λ q. is_sound_ranged (weights_of records) q ≡ true) found.2 (range_primary_sound (weights_of records) found.0 c (range_sound found.0 found.1));
    beside = λ c p e h is.
        let found = range_of_primary c p h in
        subst (λ q. is_beside_ranged q e ≡ true) found.2
        (other_lead_beside (weights_of records) found.0 c e (range_sound found.0 found.1) (other_lead found.0 e found.1 (recorded_given records e is)));
    digits = λ c d h. digits_given c d records widths h;
  }
