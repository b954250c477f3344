use Rattle.std.proofs.Common.{◌≡◌, Some, None, sym, ap, ◌∙◌}
use Rattle.std.specs.Option.{option_map}
use Rattle.icu_normalizer_core.specs.CanonicalMeaning.{lists_of}
use Rattle.icu_normalizer_core.specs.BuiltIn.{built_in_step}
use Rattle.icu_normalizer_core.specs.Properties.{mapped_to}
use Rattle.icu_normalizer_core.proofs.accepted.AcceptedForms.{accepted_triples}
use Rattle.icu_normalizer_core.proofs.accepted.TableMeanings.{step_built_in, step_free}
use Rattle.icu_normalizer_core.proofs.canonical.borrowed.CanonicalBorrowed.mapping.Goals as goal

pub listed_step-requires : goal.listed_step-requires
listed_step-requires c = accepted_triples (lists_of c.tables.result.now) c.tables.ensures.accepted

pub returns-in-Some : goal.returns-in-Some
returns-in-Some c =
    let is : built_in_step c.args.c ≡ Some (mapped_to c.in-Some.step) = sym c.built_in_step.ensures ∙ ap (option_map mapped_to) c.in-Some.is in
    sym (step_built_in (lists_of c.args.self.now.checked.now) c.args.c (mapped_to c.in-Some.step) is)

pub returns-in-None : goal.returns-in-None
returns-in-None c =
    let is : built_in_step c.args.c ≡ None = sym c.built_in_step.ensures ∙ ap (option_map mapped_to) c.in-None.is in
    rw (← c.tables.ensures.same) (c.listed_step.ensures ∙ sym (step_free (lists_of c.tables.result.now) c.args.c is))
