use Rattle.std.proofs.Common.{rules, ◌≡◌, true, false}
use Rattle.std.proofs.lemmas.Bool.{both_ways}
use Rattle.icu_normalizer_core.specs.BuiltInTests.{agrees}
use Rattle.icu_normalizer_core.specs.CanonicalFaults.{OffendsBuiltIn}
use Rattle.icu_normalizer_core.specs.CanonicalMeaning.{lists_of}
use Rattle.icu_normalizer_core.proofs.faults.BuiltInTestLemmas.{offends_fails, fails_offends}
use Rattle.icu_normalizer_core.proofs.faults.FaultLemmas.{option_through}
use Rattle.icu_normalizer_core.proofs.faults.ToldLemmas.{least_told, kept_built_ins}
use Rattle.icu_normalizer_core.proofs.canonical.check.built_in.first_built_in_fault.Goals as goal

pub returns : goal.returns
returns c =
    least_told (OffendsBuiltIn (lists_of c.args.tables.now)) c.args.told.now (kept_built_ins (lists_of c.args.tables.now) c.args.told.now c.requires.tells c.requires.triples)
    c.first_refused_of.result
    (option_through c.first_refused_of.result
    (λ all d scalar is_in offends.
    let good = all d scalar is_in in
    let yes : agrees (lists_of c.args.tables.now) d ≡ true = search rules in
    both_ways (agrees (lists_of c.args.tables.now) d) (offends_fails (lists_of c.args.tables.now) d offends) yes)
    (λ d w. (
      w.0,
      let bad = w.2 in
          let no : agrees (lists_of c.args.tables.now) d ≡ false = search rules in
          fails_offends (lists_of c.args.tables.now) d no,
      λ e scalar is_in lt offends.
          let good = w.3 e scalar is_in lt in
          let yes : agrees (lists_of c.args.tables.now) e ≡ true = search rules in
          both_ways (agrees (lists_of c.args.tables.now) e) (offends_fails (lists_of c.args.tables.now) e offends) yes,
    ))
    c.first_refused_of.ensures)
