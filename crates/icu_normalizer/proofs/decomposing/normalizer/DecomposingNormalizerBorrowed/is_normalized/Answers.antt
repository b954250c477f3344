use Rattle.std.proofs.lemmas.Str.{encodes-chars}
use Rattle.icu_normalizer.proofs.decomposing.normalizer.DecomposingNormalizerBorrowed.is_normalized.Goals as goal

pub returns : goal.returns
returns c =
    let is = c.is_own.ensures in (λ yes. (is.0 yes).1, λ own. is.1 (encodes-chars c.args.text.now c.utf8.text, own))
