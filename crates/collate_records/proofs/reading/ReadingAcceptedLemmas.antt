-- The lines of an accepted file are in the grammar and keep the rules, and what follows of such lines.
use Rattle.std.proofs.Common.{◌≡◌, ℕ, ◌<◌, ◌≤◌, Bool, List, length, Option, Some, None, refl, sym, ap, ◌∙◌, subst, [], get_or, inl, inr, arith, All}
use Rattle.std.specs.Char.{IsScalar}
use Rattle.std.specs.Option.{unwrap_or}
use Rattle.std.proofs.lemmas.Option.{slice_get-get_or, unwrap_or-slice_get}
use Rattle.std.proofs.lemmas.List.{get_or_default}
use Rattle.std.proofs.lemmas.List.Elements.{All-filter, All-get_or, All-map, All-weaker}
use Rattle.icu_normalizer_core.specs.Canonical.{IsDecomposing, IsComposing}
use Rattle.collate_lines.specs.Limits.{standard}
use Rattle.collate_lines.specs.declared.limits.Limits.{Limits}
use Rattle.collate_lines.specs.declared.rule.Rule.{Rule}
use Rattle.collate_lines.specs.declared.rule.Rule.TheVariants.{Grammar, Limit, V14, C1, C2, C3, C4, C6, C7, C9}
use Rattle.collate_lines.specs.Grammar.{record_of}
use Rattle.collate_rules.specs.Accepted.{AreAccepted, AreScalars, HasSmallClass, IsSaid, MapsToScalars}
use Rattle.collate_records.specs.Files.{IsAccepted, IsAcceptedWithin}
use Rattle.collate_lines.specs.Lines.{lines_of, numbers_of, read_line, records_in, records_of}
use Rattle.collate_rules.specs.Offenders.{NoneOffends, NoneOffendsWithin}
use Rattle.collate_rules.specs.Rules.{Offends, OffendsWithin, different, names_in}
use Rattle.collate_rules.proofs.offenders.BreachLemmas.{none_over_together}
use Rattle.collate_lines.specs.Repeats.{record_at, says_something}
use Rattle.collate_lines.specs.Record.{Record, nothing, mapping}
use Rattle.collate_rules.specs.Meaning.{canonical_of}
use Rattle.collate_records.proofs.mappings.ComposedPairLemmas.{composing}
use Rattle.collate_records.proofs.mappings.MappingDecomposingLemmas.{decomposing}
use Rattle.collate_records.proofs.offenders.ClassLemmas.{All-HasSmallClass}
use Rattle.collate_records.proofs.reading.ReadingFaultLemmas.{as_many}
use Rattle.collate_records.proofs.reading.ReadingScalarLemmas.{line_scalars, mapped_scalar}

-- a line that is in the grammar says what was read
said_here : (line : List ℕ) (o : Option Record) → record_of line ≡ o → (o ≡ None → ⊥) → IsSaid (read_line line)
said_here line None e inside = absurd (inside refl)
said_here line (Some s) e inside = (line, e ∙ ap Some (sym (ap (λ (o : Option Record). unwrap_or o nothing) e)))

-- no lines name nothing
none_named : (n : ℕ) → names_in [] ≤ n
unfolding different
none_named n = omega arith

-- what offends whatever the limits offends by limits
offends_by : (limits : Limits) (rule : Rule) (records : List Record) (i : ℕ) → Offends rule records i → OffendsWithin limits rule records i
offends_by limits Limit records i large = inr (inr large)
offends_by limits rule records i offends = offends

module _ (limits : Limits) (file : List ℕ) (accepted : IsAcceptedWithin limits file) where
  -- no record of an accepted file offends against a rule
  pub kept_limits : (rule : Rule) → NoneOffendsWithin limits rule (records_of file)
  kept_limits Grammar j lt offends = offends
  kept_limits V14 j lt offends =
      let at = slice_get-get_or (numbers_of file) j 0 (omega (arith, as_many file)) in
      accepted V14 (get_or (numbers_of file) j 0) ((λ past. accepted Grammar _ (inr past)), (j, at, offends))
  kept_limits rule j lt offends =
      let at = slice_get-get_or (numbers_of file) j 0 (omega (arith, as_many file)) in accepted rule (get_or (numbers_of file) j 0) (j, at, offends)

  pub kept_within : (rule : Rule) → NoneOffends rule (records_of file)
  kept_within rule j lt offends = kept_limits rule j lt (offends_by limits rule (records_of file) j offends)

  -- an accepted file gives small classes
  pub classes_within : All HasSmallClass (records_of file)
  classes_within = All-HasSmallClass (records_of file) (kept_within C3)

  -- the records of an accepted file
  pub lines_within : AreAccepted (records_of file)
  lines_within = record {
    in_grammar = All-filter says_something IsSaid (records_in (lines_of file)) (All-map IsSaid read_line (lines_of file)
        (λ k d lt. said_here (get_or (lines_of file) k d) (record_of (get_or (lines_of file) k d)) refl (λ none. accepted Grammar k (inl (ap record_of (get_or_default (lines_of file) k [] d lt) ∙ none)))));
    keep_rules = kept_within;
  }

  -- which name no more code points than the limits let them
  pub few_within : names_in (records_of file) ≤ limits.code_points
  few_within = none_over_together names_in limits.code_points (none_named limits.code_points) (records_of file) (λ i lt past. kept_limits Limit i lt (inl past))

-- ---- Within the standard limits

pub kept : (file : List ℕ) → IsAccepted file → (rule : Rule) → NoneOffends rule (records_of file)
kept file accepted = kept_within standard file accepted

pub accepted_classes : (file : List ℕ) → IsAccepted file → All HasSmallClass (records_of file)
accepted_classes file accepted = classes_within standard file accepted

pub accepted_lines : (file : List ℕ) → IsAccepted file → AreAccepted (records_of file)
accepted_lines file accepted = lines_within standard file accepted

-- ---- What accepted lines give

-- lines in the grammar map to scalar values
pub said_scalars : (records : List Record) → All IsSaid records → AreScalars records
said_scalars records said = All-weaker IsSaid MapsToScalars (λ s h. line_scalars (h.0) s (h.1)) records said

pub accepted_scalars : (records : List Record) → AreAccepted records → AreScalars records
accepted_scalars records accepted = said_scalars records accepted.in_grammar

-- and give canonical data, as far as decomposing goes
pub accepted_decompose : (records : List Record) → AreAccepted records → IsDecomposing (canonical_of records)
accepted_decompose records accepted =
    let keep : (rule : Rule) → NoneOffends rule records = accepted.keep_rules
    in decomposing records (accepted_scalars records accepted) (keep C1) (keep C2) (keep C3) (keep C4) (keep C9)

-- and as far as composing goes
named_scalar : (records : List Record) → AreAccepted records → (c : ℕ) (ds : List ℕ) (x : Bool) (i : ℕ) → i < length records
    → record_at records i ≡ mapping c ds x → IsScalar c
named_scalar records accepted c ds x i within line =
    let here : IsSaid (get_or records i nothing) = All-get_or IsSaid records i nothing within accepted.in_grammar in
    let says : IsSaid (mapping c ds x) = subst IsSaid (sym (unwrap_or-slice_get records i nothing) ∙ line) here in
    mapped_scalar (says.0) c ds x (says.1)

pub accepted_compose : (records : List Record) → AreAccepted records → IsComposing (canonical_of records)
accepted_compose records accepted =
    let keep : (rule : Rule) → NoneOffends rule records = accepted.keep_rules
    in composing records (named_scalar records accepted) (keep V14) (keep C6) (keep C7)

-- an accepted file gives canonical data, as far as decomposing goes
pub file_within : (limits : Limits) (file : List ℕ) → IsAcceptedWithin limits file → IsDecomposing (canonical_of (records_of file))
file_within limits file accepted = accepted_decompose (records_of file) (lines_within limits file accepted)

pub accepted_file : (file : List ℕ) → IsAccepted file → IsDecomposing (canonical_of (records_of file))
accepted_file = file_within standard
