-- The lines of an accepted file in another order are those of an accepted file.
use Rattle.std.proofs.Common.{◌≡◌, ℕ, ◌+◌, ◌<◌, ◌≤◌, inl, ⊎_elim, List, [], ◌++◌, length, take, drop, get_or, All, None, sym, ap, ◌∙◌, subst, arith}
use Rattle.std.specs.Bool.{IsTrue}
use Rattle.std.specs.List.Sorted.{IsPermutation}
use Rattle.std.proofs.lemmas.Bool.{cases_lt}
use Rattle.std.proofs.lemmas.List.{get_or_past, take-append-drop}
use Rattle.std.proofs.lemmas.List.Elements.{All-from_get_or, All-get_or, All-take}
use Rattle.std.proofs.lemmas.List.Sorted.{All-permutation, IsPermutation-map}
use Rattle.std.proofs.lemmas.Option.{none-some, slice_get_within}
use Rattle.icu_normalizer_core.specs.Canonical.{IsComposing, IsDecomposing}
use Rattle.icu_collator_core.specs.WeightRules.{is_sound_kind}
use Rattle.collate_lines.specs.declared.limits.Limits.{Limits}
use Rattle.collate_lines.specs.declared.rule.Rule.{Rule}
use Rattle.collate_lines.specs.declared.rule.Rule.TheVariants.{Grammar, Limit, Set, C1, C2, C3, C4, C5, C6, C7, C8, C9, V1, V2, V3, V4, V5, V6, V7, V8, V9, V10, V11, V12, V13, V14, V15}
use Rattle.collate_lines.specs.Grammar.{record_of}
use Rattle.collate_lines.specs.Lines.{lines_of, numbers_of, read_line, records_in, records_of}
use Rattle.collate_lines.specs.Record.{Record, nothing}
use Rattle.collate_lines.specs.Repeats.{says_something}
use Rattle.collate_rules.specs.GivenWeights.{HasRefused, has_sound_secondary, has_sound_tertiary}
use Rattle.collate_rules.specs.Meaning.{canonical_of}
use Rattle.collate_rules.specs.Offenders.{NoneOffends, NoneOffendsWithin}
use Rattle.collate_rules.specs.RecordRules.{names_special}
use Rattle.collate_rules.specs.Rules.{Contradicts, HasBadLow, HasLoop, IsBadClass, IsBadlyComposed, MapsHangul, MapsMark}
use Rattle.collate_rules.proofs.lists.LowLemmas.{HasBadLow-none, HasBadLow-same}
use Rattle.collate_rules.proofs.offenders.BreachLemmas.{none_together}
use Rattle.collate_rules.specs.Accepted.{AreAccepted, IsSaid}
use Rattle.collate_records.specs.Files.{IsAcceptedWithin, OffendsIn}
use Rattle.collate_records.proofs.reading.ReadingAcceptedLemmas.{accepted_compose, accepted_decompose, kept_limits, kept_within, lines_within, said_scalars}
use Rattle.collate_records.proofs.reading.ReadingFaultLemmas.{as_many}
use Rattle.collate_records.proofs.reordering.CanonicalMovedLemmas.{lists_moved, loopless, loops_moved, same, starters_moved, unmarked}
use Rattle.collate_records.proofs.reordering.FewerLineLemmas.{loops_last}
use Rattle.collate_records.proofs.reordering.LimitMovedLemmas.{limit_moved, limits_moved}
use Rattle.collate_records.proofs.reordering.ReorderedRuleLemmas.{each_moved, jamo_moved, pairs_moved, repeats_moved, shorter_moved}
use Rattle.collate_records.proofs.reordering.LowRuleLemmas.{low_kept}
use Rattle.collate_records.proofs.reordering.MovedListLemmas.{filter_moved}
use Rattle.collate_records.proofs.reordering.SameSayingLemmas.{canonical_same}
use Rattle.collate_records.proofs.reordering.SettingMovedLemmas.{settings_moved}
use Rattle.collate_records.proofs.reordering.TogetherRuleLemmas.{apart_moved, decomposed_moved, digits_moved, dot_above_moved, marks_last_moved, prefixes_moved, primaries_moved, ranges_rule_moved}

module _ (a b : List Record) (moved : IsPermutation a b) (accepted : AreAccepted a) where
  keep : (rule : Rule) → NoneOffends rule a
  keep = accepted.keep_rules

  canonical_is : canonical_of a ≡ canonical_of b
  canonical_is = canonical_same a b moved (keep V14) (keep C5)

  said_moved : All IsSaid b
  said_moved = All-permutation IsSaid a b moved accepted.in_grammar

  low_moved : NoneOffends C7 b
  low_moved i lt =
      let front = take (i + 1) b in
      let back = drop (i + 1) b in
      let whole : b ≡ front ++ back = sym (take-append-drop (i + 1) b) in
      let no_marks : MapsMark (front ++ back) → ⊥ =
      subst (λ (lines : List Record). MapsMark lines → ⊥) whole (unmarked a b moved accepted.in_grammar (keep V14) (keep C5) (keep C1) (keep C2)) in
      let no_loops : HasLoop (front ++ back) → ⊥ =
      subst (λ (lines : List Record). HasLoop lines → ⊥) whole (loopless a b moved accepted.in_grammar (keep V14) (keep C5) (keep C1) (keep C2)) in
      let no_low : HasBadLow b → ⊥ = λ bad.
      none_together HasBadLow HasBadLow-none a (keep C7) (HasBadLow-same b a (same a b moved accepted.in_grammar (keep V14) (keep C5) (keep C1) (keep C2)) bad) in
      low_kept front back
      (subst (NoneOffends V14) whole (repeats_moved a b moved (keep V14)))
      (subst (λ (lines : List Record). IsDecomposing (canonical_of lines)) whole (subst IsDecomposing canonical_is (accepted_decompose a accepted)))
      (subst (λ (lines : List Record). IsComposing (canonical_of lines)) whole (subst IsComposing canonical_is (accepted_compose a accepted)))
      (said_scalars front (All-take IsSaid (i + 1) b said_moved))
      (λ loop. no_loops (loops_last front back no_marks loop)) no_marks
      (subst (λ (lines : List Record). HasBadLow lines → ⊥) whole no_low)

  rules_moved : (rule : Rule) → NoneOffends rule b
  rules_moved Grammar = λ i lt offends. offends
  rules_moved V14 = repeats_moved a b moved (keep V14)
  rules_moved Limit = limit_moved a b moved (keep V14) (keep Limit)
  rules_moved C1 = starters_moved a b moved accepted.in_grammar (keep V14) (keep C5) (keep C1) (keep C2)
  rules_moved C2 = loops_moved a b moved accepted.in_grammar (keep V14) (keep C5) (keep C1) (keep C2)
  rules_moved C3 = each_moved a b moved (λ r. IsBadClass r → ⊥) (keep C3)
  rules_moved C4 = lists_moved a b moved accepted.in_grammar (keep V14) (keep C5) (keep C1) (keep C2) (keep C4)
  rules_moved C5 = pairs_moved a b moved (keep C5)
  rules_moved C6 = each_moved a b moved (λ r. IsBadlyComposed r → ⊥) (keep C6)
  rules_moved C7 = low_moved
  rules_moved C8 = each_moved a b moved (λ r. Contradicts r → ⊥) (keep C8)
  rules_moved C9 = each_moved a b moved (λ r. MapsHangul r → ⊥) (keep C9)
  rules_moved V1 = each_moved a b moved (λ r. HasRefused is_sound_kind r → ⊥) (keep V1)
  rules_moved V2 = primaries_moved a b moved (keep V14) (keep C5) (keep V2)
  rules_moved V3 = each_moved a b moved (λ r. HasRefused has_sound_secondary r → ⊥) (keep V3)
  rules_moved V4 = each_moved a b moved (λ r. HasRefused has_sound_tertiary r → ⊥) (keep V4)
  rules_moved V5 = apart_moved a b moved (keep V14) (keep C5) (keep V5)
  rules_moved V6 = ranges_rule_moved a b moved (keep V14) (keep C5) (keep V6)
  rules_moved V7 = decomposed_moved a b moved (keep V14) (keep C5) (keep V7)
  rules_moved V8 = marks_last_moved a b moved (keep V14) (keep C5) (keep V8)
  rules_moved V9 = shorter_moved a b moved (keep V14) (keep C5) (keep V9)
  rules_moved V10 = prefixes_moved a b moved (keep V14) (keep C5) (keep V10)
  rules_moved V11 = digits_moved a b moved (keep V14) (keep C5) (keep V11)
  rules_moved V12 = jamo_moved a b moved (keep V14) (keep C5) (keep V12)
  rules_moved V13 = each_moved a b moved (λ r. IsTrue (names_special r) → ⊥) (keep V13)
  rules_moved V15 = dot_above_moved a b moved (keep V14) (keep C5) (keep V15)
  rules_moved Set = settings_moved a b moved (keep V14) (keep Set)

  -- accepted lines are so in every order
  pub accepted_moved : AreAccepted b
  accepted_moved = record { in_grammar = said_moved; keep_rules = rules_moved }

-- ---- Files

-- the same lines say the same records, in another order
pub records_moved : (a b : List ℕ) → IsPermutation (lines_of a) (lines_of b) → IsPermutation (records_of a) (records_of b)
records_moved a b lines =
    filter_moved says_something (records_in (lines_of a)) (records_in (lines_of b)) (IsPermutation-map read_line (lines_of a) (lines_of b) lines)

module _ (limits : Limits) (a b : List ℕ) (accepted : IsAcceptedWithin limits a) (lines : IsPermutation (lines_of a) (lines_of b)) (short : length b ≤ limits.bytes) where
  InGrammar : List ℕ → Type 0
  InGrammar line = record_of line ≡ None → ⊥

  each_in_grammar : All InGrammar (lines_of b)
  unfolding InGrammar
  each_in_grammar =
      All-permutation InGrammar (lines_of a) (lines_of b) lines
      (All-from_get_or InGrammar (lines_of a) [] (λ i lt none. accepted Grammar i (inl none)))

  line_in_grammar : (i : ℕ) → record_of (get_or (lines_of b) i []) ≡ None → ⊥
  unfolding InGrammar
  line_in_grammar i none =
      ⊎_elim
      (λ (within : i < length (lines_of b)). All-get_or InGrammar (lines_of b) i [] within each_in_grammar none)
      (λ (past : length (lines_of b) ≤ i). none-some nothing (sym none ∙ ap record_of (get_or_past (lines_of b) i [] past)))
      (cases_lt i (length (lines_of b)))

  rules_kept : (rule : Rule) → NoneOffendsWithin limits rule (records_of b)
  rules_kept Limit =
      limits_moved (records_of a) (records_of b) (records_moved a b lines) (kept_within limits a accepted V14) limits (kept_limits limits a accepted Limit)
  rules_kept rule =
      let kept = accepted_moved (records_of a) (records_of b) (records_moved a b lines) (lines_within limits a accepted) in kept.keep_rules rule

  offends_none : (rule : Rule) (i : ℕ) → OffendsIn limits rule b i → ⊥
  offends_none rule i offends =
      rules_kept rule offends.0 (omega (arith, as_many b, slice_get_within (numbers_of b) offends.0 i offends.1)) offends.2

  -- a file that has the lines of an accepted one in another order is accepted
  pub file_accepted : IsAcceptedWithin limits b
  file_accepted Grammar i breaks =
      ⊎_elim (λ outside. line_in_grammar i outside) (λ past. let long = past.0 in omega (arith, long, short)) breaks
  file_accepted V14 i breaks = offends_none V14 i breaks.1
  file_accepted rule i breaks = offends_none rule i breaks
