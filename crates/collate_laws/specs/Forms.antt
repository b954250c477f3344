-- What the normal forms of texts say of the texts, where normalisers and collators are over one file.
use Rattle.std.specs.Prelude.{◌≡◌, ℕ, ◌↔◌, List}
use Rattle.std.specs.declared.cmp.Ordering.TheVariants.{Equal}
use Rattle.icu_collator.specs.Collators.{CollatorParts}
use Rattle.collate_laws.specs.Alike.{order_of}

-- Two texts have one form exactly where they are equal. Texts are read as characters.
abbrev pub IsOneWhereEqual : CollatorParts → (List ℕ → List ℕ) → (List ℕ → List ℕ) → List ℕ → List ℕ → Type 0
IsOneWhereEqual collator read form a b = (form a ≡ form b) ↔ (order_of collator (read a) (read b) ≡ Equal)

-- each normal form of a text in a normal form is that of the text
pub record Stay (decomposed_form composed_form : List ℕ → List ℕ) (text : List ℕ) : Type 0 where
  pub decomposed_twice : decomposed_form (decomposed_form text) ≡ decomposed_form text
  pub decomposed_then_composed : composed_form (decomposed_form text) ≡ composed_form text
  pub composed_then_decomposed : decomposed_form (composed_form text) ≡ decomposed_form text
  pub composed_twice : composed_form (composed_form text) ≡ composed_form text
