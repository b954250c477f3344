use Rattle.std.proofs.Common.{[], ◌∷◌, ◌++◌, drop, refl, sym, ap, ◌∙◌, arith}
use Rattle.icu_normalizer_core.specs.Canonical.{composing}
use Rattle.icu_normalizer.specs.Composer.{data_of}
use Rattle.icu_normalizer.proofs.composed.ComposingLemmas.{composing_joined, composing_begun, composing_kept, recomposed_begun, recomposed_passed}
use Rattle.icu_normalizer.proofs.composed.ComposerLemmas.{coming_behind, coming_alone, coming_after}
use Rattle.icu_normalizer.proofs.composing.composer.Composer.push.Goals as goal

pub returns-then-class-ne0-clause-output : goal.returns-then-class-ne0-clause-output
returns-then-class-ne0-clause-output c =
    let k = c.args.self.now in
    record {
      at = λ rest.
          coming_alone k _ c.requires c.in_default.is ∙ recomposed_passed (data_of k) c.args.c rest (omega arith)
          ∙ ap (λ l. c.args.c ∷ l) (sym (coming_alone k rest c.requires c.in_default.is));
    }

pub returns-in_default-clause-output : goal.returns-in_default-clause-output
returns-in_default-clause-output c =
    let k = c.args.self.now in
    record {
      at = λ rest.
          coming_alone k _ c.requires c.in_default.is ∙ recomposed_begun (data_of k) c.args.c rest (omega arith)
          ∙ ap (λ l. composing (data_of k) c.args.c l rest) (sym (k.alone c.requires c.in_default.is))
          ∙ sym (coming_after _ c.args.c rest c.requires refl);
    }

pub returns-in-Some-joined-clause-output : goal.returns-in-Some-joined-clause-output
returns-in-Some-joined-clause-output c =
    let k = c.args.self.now in
    let joins = sym (c.joined.ensures _ (k.between c.requires)) ∙ c.in-Some-joined.is in
    record {
      at = λ rest.
          coming_after k c.in-Some.starter _ c.requires c.in-Some.is ∙ composing_joined (data_of k) _ _ c.args.c c.in-Some-joined.composed rest joins
          ∙ sym (coming_after _ c.in-Some-joined.composed rest c.requires refl);
    }

pub returns-then-class-eq0-clause-output : goal.returns-then-class-eq0-clause-output
returns-then-class-eq0-clause-output c =
    let k = c.args.self.now in
    let apart = sym (c.joined.ensures _ (k.between c.requires)) ∙ c.in_default-joined.is in
    record {
      at = λ rest.
          coming_after k c.in-Some.starter _ c.requires c.in-Some.is ∙ composing_begun (data_of k) _ _ c.args.c rest apart (omega arith)
          ∙ ap (λ n. c.in-Some.starter ∷ (drop n k.marks.items ++ composing (data_of k) c.args.c [] rest)) (sym (k.unread c.requires))
          ∙ ap (λ l. c.in-Some.starter ∷ l) (sym (coming_behind _ rest refl));
    }

pub returns-clause-output : goal.returns-clause-output
returns-clause-output c =
    let k = c.args.self.now in
    let apart = sym (c.joined.ensures _ (k.between c.requires)) ∙ c.in_default-joined.is in
    record {
      at = λ rest.
          coming_after k c.in-Some.starter _ c.requires c.in-Some.is ∙ composing_kept (data_of k) _ _ c.args.c rest apart (omega arith)
          ∙ ap (λ l. composing (data_of k) c.in-Some.starter l rest) (sym c.in_ok-push.ensures.ok)
          ∙ sym (coming_after _ c.in-Some.starter rest c.requires c.in-Some.is);
    }
