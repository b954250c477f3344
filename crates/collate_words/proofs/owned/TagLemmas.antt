-- The tag and the form of a word are those of its low byte.
use Rattle.std.proofs.Common.{◌≡◌, ℕ, ◌%◌, ◌^◌, ◌<◌, Bool, ap, ◌∙◌, arith}
use Rattle.std.specs.Prelude.{◌==◌, ◌&&◌, leb}
use Rattle.icu_collator_types.specs.declared.elements.word_tags.Tag.{Tag}
use Rattle.icu_collator_types.specs.ElementWords.{has_tag, tag_number}
use Rattle.icu_collator_core.specs.WordForms.{has_form}

abbrev tag_by : Tag → ℕ → ℕ → Bool
tag_by tag low lowest = leb 0xc0 low && (lowest == tag_number tag)

pub has_tag-byte : (tag : Tag) (word byte : ℕ) → word % 2 ^ 8 ≡ byte → byte < 2 ^ 8 → has_tag tag word ≡ has_tag tag byte
has_tag-byte tag word byte same small =
    let low : word % 2 ^ 8 ≡ byte % 2 ^ 8 = omega (arith, same, small)
    in let lowest : word % 2 ^ 4 ≡ byte % 2 ^ 4 = omega (arith, same)
    in ap (λ (x : ℕ). tag_by tag x (word % 2 ^ 4)) low ∙ ap (λ (x : ℕ). tag_by tag (byte % 2 ^ 8) x) lowest

pub has_form-byte : (tag : Tag) (word byte : ℕ) → word % 2 ^ 8 ≡ byte → byte < 2 ^ 8 → has_form tag word ≡ has_form tag byte
has_form-byte tag word byte same small =
    let low : word % 2 ^ 8 ≡ byte % 2 ^ 8 = omega (arith, same, small)
    in ap (λ (x : ℕ). leb x 0xcf && has_tag tag word) low ∙ ap (λ (b : Bool). leb (byte % 2 ^ 8) 0xcf && b) (has_tag-byte tag word byte same small)
