-- what the rules on classes give
use Rattle.std.proofs.Common.{List, All, arith, inl, inr}
use Rattle.std.proofs.lemmas.Bool.{cases_lt}
use Rattle.icu_normalizer_core.proofs.built.BuiltInFacts.{small_class}
use Rattle.collate_lines.specs.declared.rule.Rule.TheVariants.{C3}
use Rattle.collate_lines.specs.Record.{Record, nothing, class, mapping, compatibility, weights, range, digit, setting}
use Rattle.collate_rules.specs.Rules.{IsBadClass}
use Rattle.collate_lines.specs.Repeats.{record_at}
use Rattle.collate_rules.specs.Offenders.{NoneOffends}
use Rattle.collate_rules.specs.Accepted.{HasSmallClass}
use Rattle.collate_rules.proofs.offenders.LineRuleLemmas.{each_line}

HasSmallClass-from_record : (s : Record) → (IsBadClass s → ⊥) → HasSmallClass s
HasSmallClass-from_record nothing h = tt
HasSmallClass-from_record (class c k) h = elim (cases_lt k 256) [ inl small ↦ small | inr large ↦ absurd (h (inr (omega arith), λ e. omega (arith, small_class c k e))) ]
HasSmallClass-from_record (mapping c ds x) h = tt
HasSmallClass-from_record (compatibility c ds) h = tt
HasSmallClass-from_record (weights l p t es) h = tt
HasSmallClass-from_record (range r) h = tt
HasSmallClass-from_record (digit c v) h = tt
HasSmallClass-from_record (setting s) h = tt

-- where no line offends against C3, classes are small
pub All-HasSmallClass : (records : List Record) → NoneOffends C3 records → All HasSmallClass records
All-HasSmallClass records keeps =
    each_line HasSmallClass records (λ i below. HasSmallClass-from_record (record_at records i) (keeps i below))
