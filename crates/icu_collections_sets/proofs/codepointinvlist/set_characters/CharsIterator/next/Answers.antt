use Rattle.std.proofs.Common.{◌<◌, ◌≤◌, ◌∷◌, length, sym, ap, ◌∙◌, subst, arith}
use Rattle.icu_collections_sets.specs.Characters.{characters_left, IsLeft}
use Rattle.icu_collections_sets.proofs.sets.CharacterLemmas.{past, left_of_none, left_behind, left_first, first_is_scalar, some_of, IsLeft_behind}
use Rattle.icu_collections_sets.proofs.codepointinvlist.set_characters.CharsIterator.next.Goals as goal

pub returns-in_err-self-inside-clause-steps : goal.returns-in_err-self-inside-clause-steps
returns-in_err-self-inside-clause-steps c =
    let start = c.loop-self.self-inside.start in
    let end = c.loop-self.self-inside.end in
    let ends : end ≤ past start = omega (arith, c.loop-self-test.true, c.past_surrogates.ensures) in
    let none = left_of_none start end ends in
    let left = ap (characters_left start end) c.in_err-self-inside.ensures.0 ∙ none in
    rw c.from_residual.ensures (
      sym c.self.view_is ∙ sym c.loop-self.invariant.1 ∙ left,
      ap (characters_left start end) c.in_err-self-inside.ensures.1 ∙ none,
    )

pub loop-self-preserved : goal.loop-self-preserved
loop-self-preserved c =
    let start = c.loop-self.self-inside.start in
    let end = c.loop-self.self-inside.end in
    let a = c.in_ok-self-inside.field-0-0 in
    let b = c.in_ok-self-inside.field-0-1 in
    let edges = c.next_range.new.edges in
    let next = c.in_ok-self-inside.ensures in
    let is : IsLeft start end (a ∷ b ∷ edges) = subst (IsLeft start end) next c.loop-self.invariant.0 in
    let ends : end ≤ past start = omega (arith, c.loop-self-test.true, c.past_surrogates.ensures) in (
      IsLeft_behind start end a b edges is,
      sym (left_behind start end a b edges is ends) ∙ ap (characters_left start end) (sym next) ∙ c.loop-self.invariant.1,
    )

pub returns-clause-steps : goal.returns-clause-steps
returns-clause-steps c =
    let start = c.loop-self.self-inside.start in
    let end = c.loop-self.self-inside.end in
    let edges = c.loop-self.self-inside.edges in
    let room : past start < end = omega (arith, c.loop-self-test.false, c.past_surrogates.ensures) in
    let first = c.past_surrogates-first.ensures in
    let is_scalar = first_is_scalar start end edges c.loop-self.invariant.0 room in
    let some = some_of c.from_u32.result _ (past start) is_scalar (rw first at c.from_u32.ensures.value) in
    rw (some, first) (sym c.self.view_is ∙ sym c.loop-self.invariant.1 ∙ left_first start end edges c.loop-self.invariant.0 room)

pub returns-clause-goes : goal.returns-clause-goes
returns-clause-goes c =
    let start = c.loop-self.self-inside.start in
    let end = c.loop-self.self-inside.end in
    let edges = c.loop-self.self-inside.edges in
    let room : past start < end = omega (arith, c.loop-self-test.false, c.past_surrogates.ensures) in
    let first = c.past_surrogates-first.ensures in
    let is_scalar = first_is_scalar start end edges c.loop-self.invariant.0 room in
    let some = some_of c.from_u32.result _ (past start) is_scalar (rw first at c.from_u32.ensures.value) in
    let steps = sym c.self.view_is ∙ sym c.loop-self.invariant.1 ∙ left_first start end edges c.loop-self.invariant.0 room in
    rw (some, first) (record { on = λ _. (tt, tt, omega (arith, ap length steps)); keeps = tt; rests = λ _. tt })
