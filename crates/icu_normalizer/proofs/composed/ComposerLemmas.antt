-- The steps of a composer.
use Rattle.std.proofs.Common.{◌≡◌, ℕ, true, false, List, [], ◌∷◌, ◌++◌, drop, Option, Some, None, option_to_list, IfNone, append-nil, sym, ap, ap₂, ◌∙◌}
use Rattle.std.proofs.lemmas.Bool.{cond-true, cond-false}
use Rattle.icu_normalizer_core.specs.Canonical.{composing, recomposed}
use Rattle.icu_normalizer.specs.declared.composing.composer.Composer.{Composer}
use Rattle.icu_normalizer.specs.Composer.{data_of, composing_from, coming, IsIdle}
use Rattle.icu_normalizer.proofs.composed.ComposingLemmas.{composing_end, recomposed_nothing}

pub coming_behind : (k : Composer) (rest : List ℕ) → k.leaving ≡ true → coming k rest ≡ drop k.next k.marks.items ++ composing_from (data_of k) k.starter [] rest
unfolding coming
coming_behind k rest h = cond-true _ _ _ h

pub coming_now : (k : Composer) (rest : List ℕ) → k.leaving ≡ false → coming k rest ≡ composing_from (data_of k) k.starter k.marks.items rest
unfolding coming
coming_now k rest h = cond-false _ _ _ h

pub coming_alone : (k : Composer) (rest : List ℕ) → k.leaving ≡ false → k.starter ≡ None → coming k rest ≡ recomposed (data_of k) rest
coming_alone k rest now none = coming_now k rest now ∙ ap (λ o. composing_from (data_of k) o k.marks.items rest) none

pub coming_after : (k : Composer) (s : ℕ) (rest : List ℕ) → k.leaving ≡ false → k.starter ≡ Some s → coming k rest ≡ composing (data_of k) s k.marks.items rest
coming_after k s rest now some = coming_now k rest now ∙ ap (λ o. composing_from (data_of k) o k.marks.items rest) some

pub coming_idle : (k : Composer) (rest : List ℕ) → IsIdle k → coming k rest ≡ recomposed (data_of k) rest
coming_idle k rest h = coming_alone k rest h.composing h.alone

ended : (new : Composer) → new.leaving ≡ true → new.starter ≡ None → coming new [] ≡ drop new.next new.marks.items
ended new leaving none =
    coming_behind new [] leaving ∙ ap (λ o. drop new.next new.marks.items ++ composing_from (data_of new) o [] []) none
    ∙ ap (λ l. drop new.next new.marks.items ++ l) (recomposed_nothing (data_of new)) ∙ append-nil _

pub coming_finish : (old new : Composer) (r : Option ℕ) → old.leaving ≡ false → new.leaving ≡ true → r ≡ old.starter → new.starter ≡ None → new.marks ≡ old.marks → new.next ≡ old.next → coming old [] ≡ option_to_list r ++ coming new []
coming_finish old new None now leaving taken none marks next =
    coming_alone old [] now (sym taken) ∙ recomposed_nothing (data_of old)
    ∙ sym (ended new leaving none ∙ ap₂ (λ n b. drop n b.items) (next ∙ old.unread now) marks ∙ old.alone now (sym taken))
coming_finish old new (Some s) now leaving taken none marks next =
    coming_after old s [] now (sym taken) ∙ composing_end (data_of old) s _
    ∙ ap (λ l. s ∷ l) (sym (ended new leaving none ∙ ap₂ (λ n b. drop n b.items) (next ∙ old.unread now) marks))

pub coming_done : (old new : Composer) (r : Option ℕ) → old.leaving ≡ false → new.leaving ≡ true → r ≡ old.starter → new.starter ≡ None → new.marks ≡ old.marks → new.next ≡ old.next → IfNone r (coming new [] ≡ [])
coming_done old new None now leaving taken none marks next =
    ended new leaving none ∙ ap₂ (λ n b. drop n b.items) (next ∙ old.unread now) marks ∙ old.alone now (sym taken)
coming_done old new (Some s) now leaving taken none marks next = tt
