-- What the lines up to one break together, the lines up to a later one break too.
use Rattle.std.proofs.Common.{◌≡◌, ◌+◌, Bool, true, false, List, ◌++◌, take, drop, sym, ap, ◌∙◌, subst, arith}
use Rattle.std.specs.List.{list_all}
use Rattle.std.proofs.lemmas.Bool.{false_from_ne_true, false≢true}
use Rattle.std.proofs.lemmas.Grind.{flat_map-append}
use Rattle.std.proofs.lemmas.List.{take-append-drop, take-take}
use Rattle.collate_lines.specs.Record.{Record}
use Rattle.collate_rules.specs.GivenWeights.{BreakApart, BreakPrimaries, BreakRanges, are_all_apart, are_sound_ranges, elements_of, given_elements, given_ranges, has_sound_primary, leads_to, ranges_of}
use Rattle.collate_rules.specs.Indices.{Stays}
use Rattle.collate_rules.proofs.given.GivenListLemmas.{apart_front, list_all_front}
use Rattle.collate_weight_rules.proofs.soundness.WeightRuleLeadLemmas.{more_leads}
use Rattle.collate_weight_rules.proofs.soundness.WeightRuleRangeLemmas.{has_primary_stays, ranges_stay}

-- what passes with more lines passes with fewer, so what doesn't pass stays so
stays : (records : List Record) (passes : List Record → Bool)
    → ((xs ys : List Record) → passes (xs ++ ys) ≡ true → passes xs ≡ true) → Stays (λ i. passes (take (i + 1) records) ≡ false)
stays records passes fewer i j le broken =
    let front = take (i + 1) records in
    let rest = drop (i + 1) (take (j + 1) records) in
    let whole : take (j + 1) records ≡ front ++ rest =
    sym (ap (λ xs. xs ++ rest) (sym (take-take (i + 1) (j + 1) records (omega (arith, le)))) ∙ take-append-drop (i + 1) (take (j + 1) records)) in
    false_from_ne_true (passes (take (j + 1) records))
    (λ passed. false≢true (sym broken ∙ fewer front rest (subst (λ xs. passes xs ≡ true) whole passed)))

pub primaries_stay : (records : List Record) → Stays (λ i. BreakPrimaries records (take (i + 1) records))
primaries_stay records =
    stays records (λ lines. list_all (has_sound_primary (leads_to records lines)) (given_elements lines))
    (λ xs ys h.
    list_all_front (has_sound_primary (leads_to records (xs ++ ys))) (has_sound_primary (leads_to records xs))
    (has_primary_stays (leads_to records xs) (leads_to records (xs ++ ys)) (more_leads records xs ys))
    (given_elements xs) (given_elements ys)
    (subst (λ es. list_all (has_sound_primary (leads_to records (xs ++ ys))) es ≡ true) (flat_map-append elements_of xs ys) h))

pub apart_stays : (records : List Record) → Stays (λ i. BreakApart (take (i + 1) records))
apart_stays records =
    stays records (λ lines. are_all_apart (given_elements lines))
    (λ xs ys h.
    apart_front (given_elements xs) (given_elements ys) (subst (λ es. are_all_apart es ≡ true) (flat_map-append elements_of xs ys) h))

pub ranges_stay_broken : (records : List Record) → Stays (λ i. BreakRanges records (take (i + 1) records))
ranges_stay_broken records =
    stays records (λ lines. are_sound_ranges (leads_to records lines) (given_ranges lines) (given_elements lines))
    (λ xs ys h.
    let leads = leads_to records (xs ++ ys) in
    ranges_stay (leads_to records xs) leads (more_leads records xs ys)
    (given_ranges xs) (given_ranges ys) (given_elements xs) (given_elements ys)
    (subst (λ es. are_sound_ranges leads (given_ranges xs ++ given_ranges ys) es ≡ true) (flat_map-append elements_of xs ys)
    (subst (λ rs. are_sound_ranges leads rs (given_elements (xs ++ ys)) ≡ true) (flat_map-append ranges_of xs ys) h)))
