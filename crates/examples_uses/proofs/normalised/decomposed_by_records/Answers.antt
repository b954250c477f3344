use Rattle.std.proofs.Common.{◌≡◌, ap, ◌∙◌, string_bytes, subst}
use Rattle.std.specs.Prelude.{IfOk, MatchResult}
use Rattle.std.specs.Cow.{cow_str_bytes}
use Rattle.icu_normalizer_core.specs.Canonical.{Canonical}
use Rattle.icu_normalizer_core.specs.declared.provider.error.DataError.TheVariants.{Memory}
use Rattle.icu_normalizer.specs.Normalizers.{normalizer_data}
use Rattle.icu_normalizer.specs.TextForms.{decomposed_text}
use Rattle.collate_records.specs.CompiledOf.{IsCompiledOf}
use Rattle.collate_rules.specs.Meaning.{canonical_of}
use Rattle.collate_laws.specs.OverRecords.{IsCanonicalNormalizerOf}
use Rattle.examples_uses.proofs.UseAnswerLemmas.{of_given, of_ok, ok_gives}
use Rattle.examples_uses.proofs.normalised.decomposed_by_records.Goals as goal

pub returns : goal.returns
returns c =
    let records = c.args.records.now.lines in
    let compiled = of_given (IsCompiledOf records) c.compile.result c.in_ok-provider.provider c.in_ok-provider.ensures.value c.compile.ensures.compiled in
    let made = c.compiled_tables_make_canonical_normalizers.ensures records c.in_ok-provider.provider c.try_new_nfd_unstable.result
    c.keep_rules.ensures.accepted compiled c.try_new_nfd_unstable.ensures in
    let is = subst (λ r. MatchResult r (IsCanonicalNormalizerOf records) (λ error. error ≡ Memory))
    (ok_gives c.try_new_nfd_unstable.result c.in_ok-normalizer.normalizer c.in_ok-normalizer.ensures.value) made in
    let normal : cow_str_bytes c.in_ok-form.form ≡ decomposed_text (normalizer_data c.as_borrowed.result) c.args.text.now =
    subst (λ r. IfOk r (λ form. cow_str_bytes form ≡ decomposed_text (normalizer_data c.as_borrowed.result) c.args.text.now))
    (ok_gives c.normalize.result c.in_ok-form.form c.in_ok-form.ensures.value) c.normalize.ensures.normal in
    of_ok
    (λ form. string_bytes form ≡ cow_str_bytes c.in_ok-form.form)
    (λ form. string_bytes form ≡ decomposed_text (canonical_of records) c.args.text.now)
    c.into_owned.result c.ok-4.result c.ok-4.ensures.value c.into_owned.ensures.ok
    (λ form said.
    said ∙ normal
    ∙ ap (λ (canonical : Canonical). decomposed_text canonical c.args.text.now) c.as_borrowed.ensures.data
    ∙ c.normalizers_give_forms_of_records.ensures.decomposed_text records c.in_ok-normalizer.normalizer c.args.text.now c.keep_rules.ensures.accepted is c.utf8.text)
