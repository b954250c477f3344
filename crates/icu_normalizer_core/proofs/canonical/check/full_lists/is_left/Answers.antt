use Rattle.std.proofs.Common.{List, ℕ, [], ◌∷◌, inl, take, sym, ap, ◌∙◌}
use Rattle.icu_normalizer_core.specs.CanonicalLists.{step_in}
use Rattle.icu_normalizer_core.proofs.faults.FaultLemmas.{bool_from}
use Rattle.icu_normalizer_core.proofs.settling.LeftLemmas.{left_one}
use Rattle.icu_normalizer_core.proofs.settling.SettlingLemmas.{stuck_endless}
use Rattle.icu_normalizer_core.proofs.canonical.check.full_lists.is_left.Goals as goal

pub returns-in-Some : goal.returns-in-Some
returns-in-Some c =
    let s = c.in-Some.ensures in
    bool_from c.is.result
    (λ yes list h. sym (c.is.ensures.same.0 yes) ∙ s.2 ∙ ap (λ (xs : List ℕ). take 9 xs) (left_one (step_in c.args.steps.now) (c.args.c ∷ []) s.0 list s.1 h))
    (λ no. (s.0, s.1, λ same. no (c.is.ensures.same.1 (s.2 ∙ sym same))))

pub returns-in-None : goal.returns-in-None
returns-in-None c = λ list h.
    absurd (stuck_endless c.args.steps.now c.args.settled.now c.requires.triples c.requires.starts c.requires.done c.args.c (inl c.in-None.ensures) list h)
