use Rattle.std.proofs.Common.{ℕ, ◌∷◌, List, [], Bor, get_or, arith, refl}
use borrow.Author.Tests.{ltb-true, ltb-false}
use Rattle.std.specs.Prelude.{codes}
use Rattle.collate_lines.proofs.reading.WordLemmas.{one_value, tested, word_here, word_later}
use Rattle.icu_collator_types.specs.declared.options.MaxVariable.TheVariants.{Space, Punctuation, Symbol, Currency}
use Rattle.collate_lines.proofs.settings.max_variable.Goals as goal

-- the one value
abbrev first_of_these : List (Bor (List ℕ)) → List ℕ
first_of_these values = (get_or values 0 (record { ref_ptr = (0, 0); now = [] })).now

pub returns-then-eq-2 : goal.returns-then-eq-2
returns-then-eq-2 c = word_later (codes "space") (first_of_these c.args.values.now) Space ((codes "punctuation", Punctuation) ∷ (codes "symbol", Symbol) ∷ (codes "currency", Currency) ∷ []) _ _ (one_value c.args.values.now _ (omega (arith, ltb-true, ltb-false)))
    (tested (first_of_these c.args.values.now) _ _ _ _ c.eq.ensures c.as_slice.ensures c.if-eq.false)
    (word_here (codes "punctuation") (first_of_these c.args.values.now) Punctuation ((codes "symbol", Symbol) ∷ (codes "currency", Currency) ∷ []) _ (one_value c.args.values.now _ (omega (arith, ltb-true, ltb-false)))
    (tested (first_of_these c.args.values.now) _ _ _ _ c.eq-else-eq.ensures c.as_slice-else-eq.ensures c.if-eq-2.true))

pub returns-else-eq-4 : goal.returns-else-eq-4
returns-else-eq-4 c = word_later (codes "space") (first_of_these c.args.values.now) Space ((codes "punctuation", Punctuation) ∷ (codes "symbol", Symbol) ∷ (codes "currency", Currency) ∷ []) _ _ (one_value c.args.values.now _ (omega (arith, ltb-true, ltb-false)))
    (tested (first_of_these c.args.values.now) _ _ _ _ c.eq.ensures c.as_slice.ensures c.if-eq.false)
    (word_later (codes "punctuation") (first_of_these c.args.values.now) Punctuation ((codes "symbol", Symbol) ∷ (codes "currency", Currency) ∷ []) _ _ (one_value c.args.values.now _ (omega (arith, ltb-true, ltb-false)))
    (tested (first_of_these c.args.values.now) _ _ _ _ c.eq-else-eq.ensures c.as_slice-else-eq.ensures c.if-eq-2.false)
    (word_later (codes "symbol") (first_of_these c.args.values.now) Symbol ((codes "currency", Currency) ∷ []) _ _ (one_value c.args.values.now _ (omega (arith, ltb-true, ltb-false)))
    (tested (first_of_these c.args.values.now) _ _ _ _ c.eq-else-eq-2.ensures c.as_slice-else-eq-2.ensures c.if-eq-3.false)
    (word_later (codes "currency") (first_of_these c.args.values.now) Currency ([]) _ _ (one_value c.args.values.now _ (omega (arith, ltb-true, ltb-false)))
    (tested (first_of_these c.args.values.now) _ _ _ _ c.eq-else-eq-3.ensures c.as_slice-else-eq-3.ensures c.if-eq-4.false)
    (refl))))
