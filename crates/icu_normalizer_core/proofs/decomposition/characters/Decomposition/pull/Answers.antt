use Rattle.std.proofs.Common.{refl}
use Rattle.icu_normalizer_core.proofs.decomposed_lists.CanonicalStepLemmas.{keeps_ended, keeps_read, keeps_passed}
use Rattle.icu_normalizer_core.proofs.decomposition.characters.Decomposition.pull.Goals as goal

pub returns-in_default-clause-text : goal.returns-in_default-clause-text
returns-in_default-clause-text g c =
    keeps_ended g.I.Iterator.next_gives _ _ _ c.requires.running c.in_default.ensures.steps refl c.in_ok-finish.ensures.output

pub returns-then-is_empty-clause-text : goal.returns-then-is_empty-clause-text
returns-then-is_empty-clause-text g c =
    let empty = c.if-is_empty.ensures.0 refl in
    keeps_passed g.I.Iterator.next_gives _ _ _ c.requires.running c.in-Some.ensures.steps c.requires.running refl empty empty c.if-c-lt160.true

pub returns-clause-text : goal.returns-clause-text
returns-clause-text g c =
    keeps_read g.I.Iterator.next_gives _ _ c.in-Some.c c.requires.running c.in-Some.ensures.steps c.requires.running
    c.in_ok-push_decomposed.ensures.same c.in_ok-push_decomposed.ensures.ok
