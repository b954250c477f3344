use Rattle.std.proofs.Common.{◌≡◌, [], map, drop}
use Rattle.icu_normalizer_core.specs.Canonical.{composing}
use Rattle.collate_rules.specs.CanonicalParts.{in_full}
use Rattle.collate_rules.specs.Meaning.{canonical_of}
use Rattle.collate_mapping_rules.proofs.below_marks.composes_to.Given as goal

abbrev pub invariant-loop-next : goal.invariant-loop-next
invariant-loop-next l =
    composing (canonical_of (map in_full l.parts.list.items)) l.composed [] (drop l.next-index l.rest)
    ≡ composing (canonical_of (map in_full l.parts.list.items)) l.fn.starter [] l.rest
