use Rattle.std.proofs.Common.{◌≡◌, ℕ, ◌+◌, ◌≤◌, ◌<◌, List, length, drop, Some, None, Option, sym, ap, subst, ◌∙◌, arith, length-drop}
use Rattle.std.proofs.lemmas.List.{drop-drop}
use Rattle.icu_normalizer_core.specs.Iter.{Spells}
use Rattle.icu_normalizer_core.proofs.decomposed_lists.IterLemmas.{Spells-end, Spells-next}
use Rattle.icu_collator.proofs.common_front.behind.Goals as goal

-- an iterator with characters left gives one
not_ended : {I : Type 0} (steps : I → Option ℕ → I → Type 0) (s t : I) (text : List ℕ) (index count : ℕ) → Spells steps s (drop index text)
    → steps s None t → index < count → count ≤ length text → ⊥
not_ended steps s t text index count h step inside within =
    let none = ap (λ (w : List ℕ). length w) (Spells-end steps s t (drop index text) step h) in
    omega (arith, none, inside, within, length-drop index text)

one_further : {I : Type 0} (steps : I → Option ℕ → I → Type 0) (s t : I) (text : List ℕ) (index c : ℕ) → Spells steps s (drop index text)
    → steps s (Some c) t → Spells steps t (drop (index + 1) text)
one_further steps s t text index c h step =
    let next = Spells-next steps s t c (drop index text) step h in
    let rest : drop 1 (drop index text) ≡ next.0 = ap (λ (w : List ℕ). drop 1 w) next.1 in
    subst (λ (w : List ℕ). Spells steps t w) (sym rest ∙ drop-drop 1 index text) next.2

pub loop-init : goal.loop-init
loop-init g c = λ text h. h

pub returns-in-None-clause-text : goal.returns-in-None-clause-text
returns-in-None-clause-text g c = λ text h within.
    absurd (not_ended g.I.Iterator.next_gives _ _ text c.loop.counter c.args.count (c.loop.invariant text h) c.in-None.ensures.steps c.loop-test.true within)

pub returns-in-None-clause-can : goal.returns-in-None-clause-can
returns-in-None-clause-can g c = λ text h within.
    absurd (not_ended g.I.Iterator.next_gives _ _ text c.loop.counter c.args.count (c.loop.invariant text h) c.in-None.ensures.steps c.loop-test.true within)

pub loop-preserved : goal.loop-preserved
loop-preserved g c = λ text h.
    one_further g.I.Iterator.next_gives _ _ text c.loop.counter c.in-Some._passed (c.loop.invariant text h) c.in-Some.ensures.steps

pub returns-clause-text : goal.returns-clause-text
returns-clause-text g c = λ text h within.
    let same : c.loop.counter ≡ c.args.count = omega (arith, c.loop-test.false, c.loop.auto.counter-end) in
    subst (λ k. Spells g.I.Iterator.next_gives c.loop.chars (drop k text)) same (c.loop.invariant text h)
