use Rattle.std.proofs.lemmas.Result.{IfOk-weaker}
use Rattle.icu_normalizer.proofs.passed.FormTextLemmas.{valid_own}
use Rattle.icu_normalizer.proofs.written.held.normal_bytes.Goals as goal

pub returns-in-Some-clause-borrowed : goal.returns-in-Some-clause-borrowed
returns-in-Some-clause-borrowed g c =
    let same = valid_own (g.F.WriteForm.form c.args.normalizer.now) c.args.text.now c.in-Some.valid.now c.in-Some.ensures.undamaged c.in-Some.ensures.read in
    IfOk-weaker c.normal_text.result _ _ (λ form is. (λ borrowed. same.0 (is.0 borrowed), λ own. is.1 (same.1 own))) c.normal_text.ensures.borrowed
