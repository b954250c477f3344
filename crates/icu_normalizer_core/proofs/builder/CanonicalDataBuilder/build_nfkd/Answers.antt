use Rattle.std.proofs.Common.{List, IfOk, OnOk, ap, subst, ◌∙◌}
use Rattle.icu_normalizer_core.specs.declared.builder.given.GivenClass.{GivenClass}
use Rattle.icu_normalizer_core.specs.declared.builder.given.GivenCompatibility.{GivenCompatibility}
use Rattle.icu_normalizer_core.specs.declared.builder.given.GivenMapping.{GivenMapping}
use Rattle.icu_normalizer_core.specs.CanonicalMaps.{CanonicalMaps}
use Rattle.icu_normalizer_core.specs.CompatibilityMaps.{AllMaps, AreAcceptedOver, AreApart, BuilderMaps, HaveOneCompatibility, maps_in}
use Rattle.icu_normalizer_core.specs.CompatibilityMeaning.{nfkd_lists}
use Rattle.icu_normalizer_core.proofs.builder.CanonicalDataBuilder.build_nfkd.Goals as goal

pub returns-clause-accepted : goal.returns-clause-accepted
returns-clause-accepted c =
    let same =
    ap (λ (gs : List GivenClass). record { classes = gs; mappings = c.as_slice-2.result.now }) c.as_slice.ensures.value
    ∙ ap (λ (gs : List GivenMapping). record { classes = c.self.inside.classes.items; mappings = gs }) c.as_slice-2.ensures.value
    ∙ ap (λ (given : BuilderMaps). given.canonical) c.self.view_is in
    subst (λ (maps : CanonicalMaps). IfOk c.compatibility_tables.result (λ made. AreAcceptedOver maps (nfkd_lists made))) same c.compatibility_tables.ensures.accepted

abbrev maps_of : List GivenClass → List GivenMapping → List GivenCompatibility → AllMaps
maps_of classes mappings given = record { canonical = record { classes = classes; mappings = mappings }; compatibilities = given }

pub returns-clause-one_mapping : goal.returns-clause-one_mapping
returns-clause-one_mapping c =
    subst (λ (gs : List GivenCompatibility). OnOk c.compatibility_tables.result (HaveOneCompatibility gs))
    (c.as_slice-3.ensures.value ∙ ap (λ (given : BuilderMaps). given.compatibilities) c.self.view_is) c.compatibility_tables.ensures.one_mapping

pub returns-clause-apart : goal.returns-clause-apart
returns-clause-apart c =
    let same =
    ap (λ (gs : List GivenClass). maps_of gs c.as_slice-2.result.now c.as_slice-3.result.now) c.as_slice.ensures.value
    ∙ ap (λ (gs : List GivenMapping). maps_of c.self.inside.classes.items gs c.as_slice-3.result.now) c.as_slice-2.ensures.value
    ∙ ap (λ (gs : List GivenCompatibility). maps_of c.self.inside.classes.items c.self.inside.mappings.items gs) c.as_slice-3.ensures.value
    ∙ ap maps_in c.self.view_is in
    subst (λ (maps : AllMaps). OnOk c.compatibility_tables.result (AreApart maps)) same c.compatibility_tables.ensures.apart
