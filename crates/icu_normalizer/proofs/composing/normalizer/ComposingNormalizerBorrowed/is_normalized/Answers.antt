use Rattle.std.proofs.lemmas.Result.{IfOk-weaker}
use Rattle.std.proofs.lemmas.Str.{encodes-chars}
use Rattle.icu_normalizer.proofs.composing.normalizer.ComposingNormalizerBorrowed.is_normalized.Goals as goal

pub returns : goal.returns
returns c =
    IfOk-weaker c.is_own.result _ _
    (λ answer is. (λ yes. (is.0 yes).1, λ own. is.1 (encodes-chars c.args.text.now c.utf8.text, own)))
    c.is_own.ensures
