-- Lines for which tables have room.
use Rattle.std.proofs.Common.{ℕ, ◌<◌, ◌≤◌, ⊎_elim, List, [], inl, inr, arith}
use Rattle.std.specs.Prelude.{count_by, sum_by}
use Rattle.icu_normalizer_core.specs.Named.{narrow_block, wide_block}
use Rattle.collate_lines.specs.declared.rule.Rule.TheVariants.{Limit}
use Rattle.collate_lines.specs.Record.{Record}
use Rattle.collate_rules.specs.Offenders.{NoneOffends}
use Rattle.collate_rules.specs.Rules.{LackRoom, blocks_in, canonical_room, different, element_room, is_beside, mapping_room}
use Rattle.collate_rules.proofs.offenders.BreachLemmas.{none_over_together}

-- lines, among all, take no more than tables have room for
pub record FitTables (all lines : List Record) : Type 0 where
  pub wide : blocks_in wide_block lines ≤ 700
  pub narrow : blocks_in narrow_block lines ≤ 11000
  pub elements : sum_by element_room lines ≤ 520000
  pub beside : count_by is_beside lines ≤ 3600
  pub canonical : sum_by (canonical_room all) lines ≤ 16000
  pub mappings : sum_by (mapping_room all) lines ≤ 16000

pub fit_room : (all lines : List Record) → FitTables all lines → LackRoom all lines → ⊥
fit_room all lines fit lacks =
    ⊎_elim (λ (past : 700 < blocks_in wide_block lines). omega (arith, past, fit.wide))
    (λ w. ⊎_elim (λ (past : 11000 < blocks_in narrow_block lines). omega (arith, past, fit.narrow))
    (λ v. ⊎_elim (λ (past : 520000 < sum_by element_room lines). omega (arith, past, fit.elements))
    (λ u. ⊎_elim (λ (past : 3600 < count_by is_beside lines). omega (arith, past, fit.beside))
    (λ t. ⊎_elim (λ (past : 16000 < sum_by (canonical_room all) lines). omega (arith, past, fit.canonical))
    (λ (past : 16000 < sum_by (mapping_room all) lines). omega (arith, past, fit.mappings))
    t) u) v) w) lacks

-- no lines take nothing
no_blocks : (block_of : ℕ → ℕ) (n : ℕ) → blocks_in block_of [] ≤ n
unfolding different
no_blocks block_of n = omega arith

-- lines of which none is too large fit
pub all_fit : (records : List Record) → NoneOffends Limit records → FitTables records records
all_fit records keep = record {
  wide = none_over_together (blocks_in wide_block) 700 (no_blocks wide_block 700) records (λ i lt past. keep i lt (inl (inl past)));
  narrow = none_over_together (blocks_in narrow_block) 11000 (no_blocks narrow_block 11000) records (λ i lt past. keep i lt (inl (inr (inl past))));
  elements = none_over_together (sum_by element_room) 520000 (omega arith) records (λ i lt past. keep i lt (inl (inr (inr (inl past)))));
  beside = none_over_together (count_by is_beside) 3600 (omega arith) records (λ i lt past. keep i lt (inl (inr (inr (inr (inl past))))));
  canonical = none_over_together (sum_by (canonical_room records)) 16000 (omega arith) records (λ i lt past. keep i lt (inl (inr (inr (inr (inr (inl past)))))));
  mappings = none_over_together (sum_by (mapping_room records)) 16000 (omega arith) records (λ i lt past. keep i lt (inl (inr (inr (inr (inr (inr past)))))));
}
