use Rattle.std.proofs.Common.{ℕ, ◌∷◌, List, [], Bor, get_or, arith, refl}
use borrow.Author.Tests.{ltb-true, ltb-false}
use Rattle.std.specs.Prelude.{codes}
use Rattle.collate_lines.proofs.reading.WordLemmas.{one_value, tested, word_here, word_later}
use Rattle.icu_collator_types.specs.declared.options.AlternateHandling.TheVariants.{NonIgnorable, Shifted}
use Rattle.collate_lines.proofs.settings.alternate_handling.Goals as goal

-- the one value
abbrev first_of_these : List (Bor (List ℕ)) → List ℕ
first_of_these values = (get_or values 0 (record { ref_ptr = (0, 0); now = [] })).now

pub returns-then-eq : goal.returns-then-eq
returns-then-eq c = word_here (codes "nonignorable") (first_of_these c.args.values.now) NonIgnorable ((codes "shifted", Shifted) ∷ []) _ (one_value c.args.values.now _ (omega (arith, ltb-true, ltb-false)))
    (tested (first_of_these c.args.values.now) _ _ _ _ c.eq.ensures c.as_slice.ensures c.if-eq.true)

pub returns-else-eq-2 : goal.returns-else-eq-2
returns-else-eq-2 c = word_later (codes "nonignorable") (first_of_these c.args.values.now) NonIgnorable ((codes "shifted", Shifted) ∷ []) _ _ (one_value c.args.values.now _ (omega (arith, ltb-true, ltb-false)))
    (tested (first_of_these c.args.values.now) _ _ _ _ c.eq.ensures c.as_slice.ensures c.if-eq.false)
    (word_later (codes "shifted") (first_of_these c.args.values.now) Shifted ([]) _ _ (one_value c.args.values.now _ (omega (arith, ltb-true, ltb-false)))
    (tested (first_of_these c.args.values.now) _ _ _ _ c.eq-else-eq.ensures c.as_slice-else-eq.ensures c.if-eq-2.false)
    (refl))
