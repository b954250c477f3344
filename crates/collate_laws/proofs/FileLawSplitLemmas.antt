-- Texts that were split in two.
use Rattle.std.proofs.Common.{◌≡◌, ℕ, List, ap, ◌∙◌}
use Rattle.icu_collator.specs.Collators.{CollatorParts}
use Rattle.collate_laws.specs.Alike.{ChangesNothing, key_of, order_of}

-- what is a form of the text changes nothing where the form doesn't
pub same_changes_nothing : (collator : CollatorParts) (read form : List ℕ → List ℕ) (text other : List ℕ) → other ≡ form text
    → ChangesNothing collator read form text → ChangesNothing collator read (λ (_ : List ℕ). other) text
same_changes_nothing collator read form text other same nothing = record {
  left = λ y scalars. ap (λ (n : List ℕ). order_of collator (read n) y) same ∙ nothing.left y scalars;
  right = λ x scalars. ap (λ (n : List ℕ). order_of collator x (read n)) same ∙ nothing.right x scalars;
  key = ap (λ (n : List ℕ). key_of collator (read n)) same ∙ nothing.key;
}
