use Rattle.std.proofs.Common.{◌≡◌, ◌^◌, ◌≤◌, ◌⊎◌, inl, inr, None, sym, ◌∙◌}
use Rattle.icu_normalizer_core.specs.BuiltIn.{syllable_of}
use Rattle.icu_normalizer_core.specs.CanonicalMeaning.{lists_of}
use Rattle.icu_normalizer_core.proofs.faults.PairTestLemmas.{pair_outside}
use Rattle.icu_normalizer_core.proofs.accepted.TableMeanings.{pair_syllable, pair_listed}
use Rattle.icu_normalizer_core.proofs.canonical.check.own.composed_pair.Goals as goal
use Rattle.icu_normalizer_core.proofs.canonical.check.own.composed_pair.Goals.{then-first-ge-CODE_LIMIT-via-then-first-ge-CODE_LIMIT, then-first-ge-CODE_LIMIT-via-else-first-ge-CODE_LIMIT+then-second-ge-CODE_LIMIT}

pub returns-then-first-ge-CODE_LIMIT : goal.returns-then-first-ge-CODE_LIMIT
returns-then-first-ge-CODE_LIMIT c =
    let none : syllable_of c.args.first c.args.second ≡ None = sym c.syllable_of.ensures ∙ c.in-None.is in
    let side : (2 ^ 21 ≤ c.args.first) ⊎ (2 ^ 21 ≤ c.args.second) = elim c.then-first-ge-CODE_LIMIT.branch [
      | then-first-ge-CODE_LIMIT-via-then-first-ge-CODE_LIMIT w ↦ inl w.if-first-ge-CODE_LIMIT.true
      | then-first-ge-CODE_LIMIT-via-else-first-ge-CODE_LIMIT+then-second-ge-CODE_LIMIT w ↦ inr w.if-second-ge-CODE_LIMIT.true
    ] in
    sym (pair_listed (lists_of c.args.tables.now) c.args.first c.args.second none ∙ pair_outside c.args.tables.now.pairs c.args.first c.args.second c.requires side)

pub returns-in-Some : goal.returns-in-Some
returns-in-Some c = sym (pair_syllable (lists_of c.args.tables.now) c.args.first c.args.second c.in-Some.syllable (sym c.syllable_of.ensures ∙ c.in-Some.is))

pub returns-else-second-ge-CODE_LIMIT : goal.returns-else-second-ge-CODE_LIMIT
returns-else-second-ge-CODE_LIMIT c =
    c.listed_pair.ensures ∙ sym (pair_listed (lists_of c.args.tables.now) c.args.first c.args.second (sym c.syllable_of.ensures ∙ c.in-None.is))
