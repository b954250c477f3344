-- What the weights of tables say of a character is said by its word.
use Rattle.std.proofs.Common.{◌≡◌, ℕ, true, ◌&&◌, ◌∷◌, None}
use Rattle.std.proofs.lemmas.Bool.{and_from, cond-true}
use lib.Utf8.{scalar, scalars}
use Rattle.icu_normalizer_core.specs.Canonical.{Canonical}
use Rattle.icu_collator_core.specs.declared.tables.CollationTables.{CollationTables}
use Rattle.icu_collator_core.specs.TableMeaning.{TableWord, counting_word, digit_by, ranged_by, recorded_by, recorded_in, weights_of}
use Rattle.icu_collator_core.specs.ReadWords.{AreSaidBy}

pub said_by : (canonical : Canonical) (tables : CollationTables) (c : ℕ) (entry : TableWord) → scalar c ≡ true → entry ≡ counting_word canonical tables c
    → AreSaidBy (weights_of canonical tables) entry c
unfolding recorded_in
said_by canonical tables c entry ok e =
    let word = counting_word canonical tables c in
    rw e (record {
      recorded = λ prefix text before behind.
          cond-true (scalars prefix && scalars (c ∷ text)) (recorded_by word c prefix text) None
          (and_from (scalars prefix) (scalars (c ∷ text)) before (and_from (scalar c) (scalars text) ok behind));
      digit = cond-true (scalar c) (digit_by word) None ok;
      ranged = cond-true (scalar c) (ranged_by word c) None ok;
    })
