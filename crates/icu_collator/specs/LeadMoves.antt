-- Tables whose reordering moves whole leads: what the laws of keys ask of one. Which leads are compressible doesn't count, for
-- keys go by the leads before reordering.
use Rattle.std.specs.Prelude.{◌≡◌, ℕ, ◌/◌, ◌^◌, ◌<◌, All, IfSome}
use Rattle.icu_collator_core.specs.declared.tables.CollationTables.{CollationTables}
use Rattle.icu_collator_core.specs.declared.tables.reordering.CollationReordering.{CollationReordering}
use Rattle.icu_collator_core.specs.TableSettings.{reordered_by}
use Rattle.icu_collator_core.specs.WholeLeads.{lead_in_place}

pub record IsOfWholeLeads (reordering : CollationReordering) : Type 0 where
  -- the table of leads holds bytes
  pub bytes : All (λ byte. byte < 2 ^ 8) reordering.reorder_table
  -- the lead of a primary decides what lead stands in its place
  pub whole :
      (p : ℕ) → p < 2 ^ 32 → reordered_by reordering p / 2 ^ 24 ≡ lead_in_place reordering (p / 2 ^ 24)

-- the same where tables may reorder nothing
abbrev pub ReordersWholeLeads : CollationTables → Type 0
ReordersWholeLeads tables = IfSome tables.reordering IsOfWholeLeads
