-- The order of names is a total preorder, and over sound data that of the bytes of their keys.
use Rattle.std.proofs.Common.{◌≡◌, ℕ, Bool, true, false, cond, List, All, ◌↔◌, refl, sym, ◌∙◌, subst}
use Rattle.std.specs.Char.{IsScalar}
use Rattle.std.specs.Cmp.{IsTotalOrder}
use Rattle.std.specs.Cmp.Lexicographic.{slice_cmp}
use Rattle.std.specs.Ordering.{nat_cmp}
use Rattle.std.specs.declared.cmp.Ordering.{Ordering}
use Rattle.std.specs.declared.cmp.Ordering.TheVariants.{Equal}
use Rattle.std.proofs.lemmas.Cmp.{nat_list_cmp_total, on_total, tied_itself}
use Rattle.icu_normalizer_core.specs.Canonical.{IsDecomposing}
use Rattle.icu_normalizer_core.specs.Decoding.{utf8_chars}
use Rattle.icu_normalizer_core.proofs.decoded.DecodedLemmas.{utf8_scalars}
use Rattle.icu_collator_types.specs.declared.options.ResolvedCollatorOptions.{ResolvedCollatorOptions}
use Rattle.icu_collator_core.specs.Collation.{Collation}
use Rattle.icu_collator.specs.KeyBytes.{key_of_text}
use Rattle.icu_collator.specs.Order.{collation_order}
use Rattle.icu_collator.specs.Settings.{has_plain_leads}
use Rattle.icu_collator.specs.SoundCollation.{IsSoundCollation}
use Rattle.icu_collator.proofs.keys.KeyBytesLemmas.{same_numbers}
use Rattle.icu_collator.proofs.orders.TotalOrderLemmas.{collation_order_total}
use Rattle.icu_collator.proofs.keys.TextKeyLemmas.{text_keys_order}
use Rattle.collate_rules.specs.Accepted.{AreAccepted}
use Rattle.collate_rules.specs.Meaning.{collation_of}
use Rattle.collate_records.proofs.reading.ReadingAcceptedLemmas.{accepted_decompose}
use Rattle.collate_laws.proofs.LawSoundLemmas.{accepted_sound}
use Rattle.collate_index.specs.Meaning.{Meaning, name_order, order_by}

either_total : (b : Bool) (R S : List ℕ → List ℕ → Ordering) → IsTotalOrder R → IsTotalOrder S → IsTotalOrder (λ x y. cond b (R x y) (S x y))
either_total true R S r s = r
either_total false R S r s = s

-- names compare as a total preorder, as characters
pub name_order_total : (collation : Collation) (options : ResolvedCollatorOptions) → IsTotalOrder (name_order collation options)
unfolding name_order
name_order_total collation options =
    either_total (has_plain_leads collation options) (collation_order collation options)
    (λ a b. slice_cmp nat_cmp (key_of_text collation options a) (key_of_text collation options b))
    (collation_order_total collation options) (on_total (key_of_text collation options) nat_list_cmp_total)

-- and as bytes
pub order_total : (m : Meaning) → IsTotalOrder (order_by m)
unfolding order_by
order_total m = on_total utf8_chars (name_order_total (collation_of m.records) m.options)

-- the keys of names compare as the names do
pub keys_order_as_names : (collation : Collation) (options : ResolvedCollatorOptions) (a b : List ℕ)
    → IsDecomposing collation.canonical → IsSoundCollation collation → All IsScalar a → All IsScalar b
    → slice_cmp nat_cmp (key_of_text collation options a) (key_of_text collation options b) ≡ name_order collation options a b
unfolding name_order
keys_order_as_names collation options a b decomposing sound sa sb = by_leads (has_plain_leads collation options) refl
  where
    by_leads : (plain : Bool) → has_plain_leads collation options ≡ plain
        → slice_cmp nat_cmp (key_of_text collation options a) (key_of_text collation options b)
        ≡ cond plain (collation_order collation options a b) (slice_cmp nat_cmp (key_of_text collation options a) (key_of_text collation options b))
    by_leads true e = text_keys_order collation options a b decomposing sound e sa sb
    by_leads false e = refl

-- names are equal exactly where their keys are the same
pub equal_keys_of_names : (collation : Collation) (options : ResolvedCollatorOptions) (a b : List ℕ)
    → IsDecomposing collation.canonical → IsSoundCollation collation → All IsScalar a → All IsScalar b
    → (key_of_text collation options a ≡ key_of_text collation options b) ↔ (name_order collation options a b ≡ Equal)
equal_keys_of_names collation options a b decomposing sound sa sb =
    let order = keys_order_as_names collation options a b decomposing sound sa sb
    in (
      λ e. sym order ∙ subst (λ (k : List ℕ). slice_cmp nat_cmp (key_of_text collation options a) k ≡ Equal) e (tied_itself nat_list_cmp_total (key_of_text collation options a)),
      λ e. same_numbers (key_of_text collation options a) (key_of_text collation options b) (order ∙ e),
    )

-- names of an index, given by their bytes, compare as their keys
pub keys_order_in_index : (m : Meaning) (a b : List ℕ) → AreAccepted m.records
    → slice_cmp nat_cmp (key_of_text (collation_of m.records) m.options (utf8_chars a)) (key_of_text (collation_of m.records) m.options (utf8_chars b)) ≡ order_by m a b
unfolding order_by
keys_order_in_index m a b accepted =
    keys_order_as_names (collation_of m.records) m.options (utf8_chars a) (utf8_chars b) (accepted_decompose m.records accepted)
    (accepted_sound m.records accepted) (utf8_scalars a) (utf8_scalars b)
