-- What accepted tables set keeps the rule on settings, where they reorder whole leads.
use Rattle.std.proofs.Common.{◌≡◌, ℕ, ◌+◌, ◌*◌, ◌/◌, ◌%◌, ◌^◌, true, false, Option, Some, None, sym, ◌∙◌, ap, arith}
use Rattle.std.specs.Prelude.{IfSome}
use Rattle.icu_normalizer_core.specs.Canonical.{Canonical}
use Rattle.icu_collator_core.specs.declared.tables.CollationTables.{CollationTables}
use Rattle.icu_collator_core.specs.declared.tables.reordering.CollationReordering.{CollationReordering}
use Rattle.icu_collator_core.specs.declared.tables.special_primaries.CollationSpecialPrimaries.{CollationSpecialPrimaries}
use Rattle.icu_collator_core.specs.Acceptance.{IsAccepted}
use Rattle.icu_collator_core.specs.Collation.{with_lead}
use Rattle.icu_collator_core.specs.TableMeaning.{collation_of}
use Rattle.icu_collator_core.specs.TableSettings.{reordered_in}
use Rattle.icu_collator_core.specs.WeightFaults.{IsSoundReordering}
use Rattle.icu_collator_core.specs.WeightRules.{is_letter_lead}
use Rattle.icu_collator.specs.Settings.{AreSoundSettings}
use Rattle.icu_collator.specs.SoundCollation.{IsSoundCollation}
use Rattle.icu_collator_core.specs.WholeLeads.{MovesOnlyWholeLeads, MovesWholeLeads}
use Rattle.icu_collator.specs.LeadMoves.{IsOfWholeLeads, ReordersWholeLeads}
use Rattle.icu_collator_core.proofs.meaning.AcceptedWeightLemmas.{accepted_weights}
use Rattle.icu_collator.proofs.tables.WholeLeadLemmas.{apart, letter_kept, other_kept, rest_kept}

-- ---- What stands in the place of primaries

-- the lead in the place of another, where tables may reorder nothing
abbrev lead_of : Option CollationReordering → ℕ → ℕ
lead_of o lead = reordered_in o (lead * 2 ^ 24) / 2 ^ 24

record KeepsLeads (o : Option CollationReordering) : Type 0 where
  pub rest : (p : ℕ) → reordered_in o p ≡ with_lead (lead_of o) p
  pub outside : (lead : ℕ) → is_letter_lead lead ≡ false → lead_of o lead ≡ lead
  pub inside : (lead : ℕ) → is_letter_lead lead ≡ true → is_letter_lead (lead_of o lead) ≡ true
  pub one_to_one : (a b : ℕ) → lead_of o a ≡ lead_of o b → a ≡ b

keeps_leads : (special : CollationSpecialPrimaries) (o : Option CollationReordering)
    → IfSome o (IsSoundReordering special) → IfSome o IsOfWholeLeads → KeepsLeads o
keeps_leads special (Some reordering) sound moves = record {
  rest = rest_kept special reordering sound moves;
  outside = other_kept special reordering sound moves;
  inside = letter_kept special reordering sound moves;
  one_to_one = apart special reordering sound moves;
}
keeps_leads special None sound moves = record {
  rest = whole;
  outside = λ lead h. alone lead;
  inside = λ lead h. ap is_letter_lead (alone lead) ∙ h;
  one_to_one = λ a b h. sym (alone a) ∙ h ∙ alone b;
}
  where
    alone : (lead : ℕ) → lead * 2 ^ 24 / 2 ^ 24 ≡ lead
    alone lead = omega arith

    whole : (p : ℕ) → p ≡ p / 2 ^ 24 * 2 ^ 24 / 2 ^ 24 * 2 ^ 24 + p % 2 ^ 24
    whole p = omega arith

-- Accepted tables that reorder only whole leads set what keeps the rule.
pub accepted_settings : (canonical : Canonical) (tables : CollationTables) → IsAccepted canonical tables → ReordersWholeLeads tables
    → AreSoundSettings (collation_of canonical tables)
accepted_settings canonical tables accepted moves =
    let leads = keeps_leads tables.special_primaries tables.reordering accepted.reordering moves
    in record {
      numeric_lead = accepted.special_primaries.numeric;
      groups = accepted.special_primaries.groups;
      compressible = accepted.special_primaries.compressible;
      rest = leads.rest;
      outside = leads.outside;
      inside = leads.inside;
      one_to_one = leads.one_to_one;
    }

pub accepted_collation : (canonical : Canonical) (tables : CollationTables) → IsAccepted canonical tables → ReordersWholeLeads tables
    → IsSoundCollation (collation_of canonical tables)
accepted_collation canonical tables accepted moves = record {
  weights = accepted_weights canonical tables accepted;
  settings = accepted_settings canonical tables accepted moves;
}

-- tables that reorder whole leads, each for one as compressible as itself, reorder whole leads
pub moved_whole : (tables : CollationTables) → MovesOnlyWholeLeads tables → ReordersWholeLeads tables
moved_whole tables moves = by_reordering tables.reordering moves
  where
    by_reordering : (o : Option CollationReordering) → IfSome o (MovesWholeLeads tables.special_primaries) → IfSome o IsOfWholeLeads
    by_reordering (Some reordering) moves = record { bytes = moves.bytes; whole = moves.whole }
    by_reordering None moves = moves
