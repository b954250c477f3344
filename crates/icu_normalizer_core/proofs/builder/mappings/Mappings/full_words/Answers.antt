use Rattle.std.proofs.Common.{◌<◌, ◌∷◌, ◌++◌, [], ℕ, List, length, take, inl, inr, refl, sym, ap, subst, ◌∙◌, arith}
use Rattle.std.specs.Char.{IsScalar}
use Rattle.std.proofs.lemmas.List.{take_all, take_more}
use Rattle.std.proofs.lemmas.List.Sums.{sum_by-take-le}
use Rattle.icu_normalizer_core.specs.CanonicalMeaning.{meaning}
use Rattle.icu_normalizer_core.specs.Settled.{left_items}
use Rattle.icu_normalizer_core.specs.SettledMappings.{AreRightSoFar, full_room, steps_in}
use Rattle.icu_normalizer_core.proofs.building.CharacterWordLemmas.{index_got}
use Rattle.icu_normalizer_core.proofs.building.FullWordMapLemmas.{long_bad, open_bad, right_first, right_more}
use Rattle.icu_normalizer_core.proofs.builder.mappings.Mappings.full_words.Goals as goal

pub loop-c-init : goal.loop-c-init
loop-c-init c = right_first (steps_in c.args.self) (meaning c.args.self.tables.now).class c.new-scalars24.result.items c.in_ok-words.words c.in_ok-words.ensures c.new-scalars24.ensures.items

pub loop-c-preserved : goal.loop-c-preserved
loop-c-preserved c =
    let scalar : IsScalar c.c-item.result = subst IsScalar (sym c.c-item.is) (c.requires.scalars c.loop-c.c-index c.c-item.result c.loop-c-test.true) in
    subst (λ (ns : List ℕ). AreRightSoFar (steps_in c.args.self) (meaning c.args.self.tables.now).class c.full_word.new.scalars24.items ns c.set_word.new.words)
    (sym (take_more c.args.named.now c.loop-c.c-index 0 c.loop-c-test.true ∙ ap (λ (x : ℕ). take c.loop-c.c-index c.args.named.now ++ x ∷ []) (sym (index_got c.args.named.now c.loop-c.c-index c.c-item.result c.loop-c-test.true c.c-item.is))))
    (right_more (steps_in c.args.self) (meaning c.args.self.tables.now).class c.loop-c.scalars24.items c.full_word.new.scalars24.items (take c.loop-c.c-index c.args.named.now)
    c.loop-c.words c.set_word.new.words c.c-item.result c.in_ok-word.word c.loop-c.invariant scalar
    c.in_ok-word.ensures.grows c.in_ok-word.ensures.says c.in_ok-word.ensures.syllable c.set_word.ensures)

pub returns-clause-words : goal.returns-clause-words
returns-clause-words c =
    let end = c.loop-c-test.false in
    subst (λ (ns : List ℕ). AreRightSoFar (steps_in c.args.self) (meaning c.args.self.tables.now).class c.loop-c.scalars24.items ns c.loop-c.words)
    (take_all c.loop-c.c-index c.args.named.now (omega arith)) c.loop-c.invariant

pub returns-in_default-clause-refused : goal.returns-in_default-clause-refused
returns-in_default-clause-refused c =
    let scalar : IsScalar c.c-item.result = subst IsScalar (sym c.c-item.is) (c.requires.scalars c.loop-c.c-index c.c-item.result c.loop-c-test.true) in
    inr (refl, inl (open_bad c.args.self c.args.settled.now c.c-item.result c.requires.sound c.requires.starts c.requires.done scalar c.in_default.ensures))

pub returns-then-left-gt8-clause-refused : goal.returns-then-left-gt8-clause-refused
returns-then-left-gt8-clause-refused c =
    let scalar : IsScalar c.c-item.result = subst IsScalar (sym c.c-item.is) (c.requires.scalars c.loop-c.c-index c.c-item.result c.loop-c-test.true) in
    let long : 8 < length (left_items c.in-Some.left) = let h = c.if-left-gt8.true in omega arith in
    inr (refl, inl (long_bad (steps_in c.args.self) c.c-item.result c.in-Some.left scalar c.in-Some.ensures long))

pub returns-then-len-ge-PLACE_LIMIT-clause-refused : goal.returns-then-len-ge-PLACE_LIMIT-clause-refused
returns-then-len-ge-PLACE_LIMIT-clause-refused c =
    let full = c.if-len-ge-PLACE_LIMIT.true in
    inr (refl, inr (omega (arith, full, c.loop-c.invariant.size, sum_by-take-le (full_room (steps_in c.args.self)) c.args.named.now c.loop-c.c-index)))
