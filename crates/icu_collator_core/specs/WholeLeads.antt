-- Tables that reorder whole leads. Tables may also cut a lead in parts, which the rule on settings doesn't allow.
use Rattle.std.specs.Prelude.{◌≡◌, ℕ, ◌*◌, ◌/◌, ◌^◌, ◌<◌, All, IfSome}
use Rattle.icu_collator_core.specs.declared.tables.CollationTables.{CollationTables}
use Rattle.icu_collator_core.specs.declared.tables.reordering.CollationReordering.{CollationReordering}
use Rattle.icu_collator_core.specs.declared.tables.special_primaries.CollationSpecialPrimaries.{CollationSpecialPrimaries}
use Rattle.icu_collator_core.specs.TableSettings.{is_compressible_in, reordered_by}

-- the lead that stands in the place of another, by the primary of that one alone
abbrev pub lead_in_place : CollationReordering → ℕ → ℕ
lead_in_place reordering lead = reordered_by reordering (lead * 2 ^ 24) / 2 ^ 24

pub record MovesWholeLeads (special_primaries : CollationSpecialPrimaries) (reordering : CollationReordering) : Type 0 where
  -- the table of leads holds bytes
  pub bytes : All (λ byte. byte < 2 ^ 8) reordering.reorder_table
  -- the lead of a primary decides what lead stands in its place
  pub whole :
      (p : ℕ) → p < 2 ^ 32 → reordered_by reordering p / 2 ^ 24 ≡ lead_in_place reordering (p / 2 ^ 24)
  -- that is as compressible as the lead itself
  pub alike :
      (lead : ℕ) → lead < 2 ^ 8
      → is_compressible_in special_primaries.last_primaries (lead_in_place reordering lead)
      ≡ is_compressible_in special_primaries.last_primaries lead

-- the same where tables may reorder nothing
abbrev pub MovesOnlyWholeLeads : CollationTables → Type 0
MovesOnlyWholeLeads tables = IfSome tables.reordering (MovesWholeLeads tables.special_primaries)
