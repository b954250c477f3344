use Rattle.icu_normalizer_core.specs.CanonicalMeaning.{lists_of}
use Rattle.icu_normalizer_core.specs.CompatibilityFaults.{OffendsWordList, OffendsFixed}
use Rattle.icu_normalizer_core.specs.Words.{word_lists}
use Rattle.icu_normalizer_core.proofs.compatible.CompatibilityWalkLemmas.{all_values, all_full_lists, all_built_ins, least_of_some}
use Rattle.icu_normalizer_core.proofs.compatibility.check.first_fault.Goals as goal

pub returns-in-Some : goal.returns-in-Some
returns-in-Some c =
    let lists = lists_of c.args.tables.now in
    let words = word_lists c.args.words in
    let faults = c.in-Ok.faults in (
      all_values lists words faults c.in-Ok.ensures,
      least_of_some (OffendsWordList lists words) 0x110000 c.in-Some.c faults.full_list c.in-Some.is c.in-Ok.ensures.full_lists,
    )

pub returns-in-Some-built_in : goal.returns-in-Some-built_in
returns-in-Some-built_in c =
    let lists = lists_of c.args.tables.now in
    let words = word_lists c.args.words in
    let faults = c.in-Ok.faults in (
      all_values lists words faults c.in-Ok.ensures,
      all_full_lists lists words faults c.in-Ok.ensures c.in-None.is,
      least_of_some (OffendsFixed words) 0x110000 c.in-Some-built_in.c faults.built_in c.in-Some-built_in.is c.in-Ok.ensures.built_ins,
    )

pub returns-in-None-built_in : goal.returns-in-None-built_in
returns-in-None-built_in c =
    let lists = lists_of c.args.tables.now in
    let words = word_lists c.args.words in
    let faults = c.in-Ok.faults in
    record {
      values = all_values lists words faults c.in-Ok.ensures;
      full_lists = all_full_lists lists words faults c.in-Ok.ensures c.in-None.is;
      built_ins = all_built_ins lists words faults c.in-Ok.ensures c.in-None-built_in.is;
    }
