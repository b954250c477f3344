-- Compatibility mappings of lines within the limits.
use Rattle.std.proofs.Common.{List, length, inr, ⊎_elim}
use Rattle.std.specs.List.{All}
use Rattle.std.proofs.lemmas.Bool.{cases_lt}
use Rattle.collate_lines.specs.declared.rule.Rule.TheVariants.{Limit}
use Rattle.collate_lines.specs.Record.{Record, nothing, class, mapping, compatibility, weights, range, digit, setting}
use Rattle.collate_lines.specs.Repeats.{record_at}
use Rattle.collate_rules.specs.CanonicalParts.{IsShort}
use Rattle.collate_rules.specs.Offenders.{NoneOffends}
use Rattle.collate_rules.specs.Rules.{IsLong}
use Rattle.collate_rules.proofs.offenders.LineRuleLemmas.{each_line}

short_line : (s : Record) → (IsLong s → ⊥) → IsShort s
short_line nothing h = tt
short_line (class c k) h = tt
short_line (mapping c ds x) h = tt
short_line (compatibility c ds) h = ⊎_elim (λ long. absurd (h long)) (λ few. few) (cases_lt 8 (length ds))
short_line (weights l p t es) h = tt
short_line (range r) h = tt
short_line (digit c v) h = tt
short_line (setting v) h = tt

-- within the limits no compatibility mapping has over eight characters
pub short_within : (records : List Record) → NoneOffends Limit records → All IsShort records
short_within records keep = each_line IsShort records (λ i lt. short_line (record_at records i) (λ long. keep i lt (inr long)))
