use Rattle.std.proofs.lemmas.Str.{encodes-chars}
use Rattle.icu_normalizer.proofs.written.held.normal_text.Goals as goal

pub returns-in-Some-clause-borrowed : goal.returns-in-Some-clause-borrowed
returns-in-Some-clause-borrowed g c =
    let changed = rw c.in-Some.is at c.in_ok-form.ensures.changed in
    (λ never. absurd never, λ own. changed (encodes-chars c.args.text.now c.utf8.text, own))
