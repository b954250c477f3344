-- What is counted of lines, for the limits of a records file.
use Rattle.std.specs.Prelude.{◌≡◌, ℕ, ◌+◌, ◌*◌, ◌<◌, ◌≤◌, ◌⊎◌, ◌==◌, List, count_by, filter, flat_map, length, map, sum_by}
use Rattle.std.specs.List.{list_any}
use Rattle.std.specs.Ordering.{nat_cmp}
use Rattle.std.specs.BTreeSet.{BTreeSet, contains, btree_set_len}
use Rattle.icu_normalizer_core.specs.Named.{narrow_block, wide_block}
use Rattle.collate_lines.specs.declared.limits.Limits.{Limits}
use Rattle.collate_lines.specs.Record.{Record}
use Rattle.collate_lines.specs.Repeats.{says_something}
use Rattle.collate_rules.specs.declared.counts.Counts.{Counts}
use Rattle.collate_rules.specs.declared.names.Names.{Names}
use Rattle.collate_rules.specs.Rules.{IsLong, canonical_room, different, element_room, is_beside, is_range, mapping_room, named}

-- a set has the numbers of a list, each once
pub record Holds (numbers : BTreeSet ℕ) (list : List ℕ) : Type 0 where
  pub same : (n : ℕ) → contains nat_cmp numbers n ≡ list_any (λ m. n == m) list
  pub count : btree_set_len numbers ≡ different list

-- sets have the characters of a list, and the blocks in which they lie
pub record AreNamed (names : Names) (list : List ℕ) : Type 0 where
  pub characters : Holds names.characters list
  pub wide : Holds names.wide (map wide_block list)
  pub narrow : Holds names.narrow (map narrow_block list)

-- counts are those of lines, among all
pub record AreCounted (all lines : List Record) (counts : Counts) : Type 0 where
  pub names : AreNamed counts.names (flat_map named lines)
  pub ranges : counts.ranges ≡ count_by is_range lines
  pub records : counts.records ≡ length (filter says_something lines)
  pub elements : counts.elements ≡ sum_by element_room lines
  pub beside : counts.beside ≡ count_by is_beside lines
  pub canonical : counts.canonical ≡ sum_by (canonical_room all) lines
  pub mappings : counts.mappings ≡ sum_by (mapping_room all) lines

-- counts of which none is near the most that a number holds
pub record AreSmall (counts : Counts) : Type 0 where
  pub ranges : counts.ranges ≤ 11001
  pub records : counts.records + 1 < 0x10000000000000000
  pub elements : counts.elements ≤ 520000
  pub beside : counts.beside ≤ 3600
  pub canonical : counts.canonical ≤ 16000
  pub mappings : counts.mappings ≤ 16000

-- counts pass what tables have room for
abbrev pub PassRoom : Counts → Type 0
PassRoom counts =
    (700 < btree_set_len counts.names.wide + 3 * counts.ranges)
    ⊎ ((11000 < btree_set_len counts.names.narrow + 3 * counts.ranges)
    ⊎ ((520000 < counts.elements)
    ⊎ ((3600 < counts.beside)
    ⊎ ((16000 < counts.canonical)
    ⊎ (16000 < counts.mappings)))))

-- counts pass limits, or the last line lists too much
abbrev pub PassLimits : Limits → Counts → Record → Type 0
PassLimits limits counts given =
    (limits.code_points < btree_set_len counts.names.characters + counts.ranges)
    ⊎ ((limits.records < counts.records) ⊎ (PassRoom counts ⊎ IsLong given))
