-- What is gathered at the indices of lists.
use Rattle.std.proofs.Common.{◌≡◌, ◌↔◌, ℕ, ℤ, ◌^◌, ◌<◌, List, length, get_or, slice_index, refl, sym, ap, ◌∙◌, subst, arith}
use Rattle.std.specs.Char.{IsScalar}
use Rattle.std.specs.Prelude.{⊤, fold}
use Rattle.std.specs.Int.{cast_unsigned, w32}
use Rattle.std.specs.List.{Contains}
use Rattle.std.proofs.lemmas.List.{get_or_default}
use Rattle.icu_char16trie.specs.KeyFolds.{AreFolded}
use Rattle.icu_char16trie.specs.UnitGrammar.{IsUnitTrie}
use Rattle.icu_normalizer_core.proofs.decoded.ScalarLemmas.{scalar_below}
use Rattle.icu_collator_core.specs.Pools.{Pools, index_of, trie_of}
use Rattle.icu_collator_core.specs.PrefixFaults.{HasValue}
use Rattle.icu_collator_core.specs.WordForms.{keeps_nothing}
use Rattle.icu_collator_core.proofs.checks.CheckedValueLemmas.{folded_readable}
use Rattle.icu_collator_core.proofs.apart.GrowthLemmas.{UpTo, item_at}

-- ---- Values

abbrev pub Valued : Type 0
Valued = ⊤ × ℤ

abbrev pub EntryAt : List Valued → ℕ → ℕ → Type 0
EntryAt list k word = (entry : Valued) × ((d : Valued) → get_or list k d ≡ entry) × (cast_unsigned w32 entry.1 ≡ word)

abbrev pub HasEntry : List Valued → ℕ → Type 0
HasEntry list word = (entry : Valued) × Contains list entry × (cast_unsigned w32 entry.1 ≡ word)

-- the entry that was read is the one at the index
pub entry_read : (list : List Valued) (k : ℕ) (entry : Valued) → k < length list → entry ≡ get_or list k entry
    → (word : ℕ) → (word ≡ cast_unsigned w32 entry.1) ↔ EntryAt list k word
entry_read list k entry lt e word = (
  λ same. (entry, (λ d. get_or_default list k d entry lt ∙ sym e), sym same),
  λ w. sym w.2 ∙ ap (λ (one : Valued). cast_unsigned w32 one.1) (sym (w.1 entry) ∙ sym e),
)

pub all_entries : (list : List Valued) (n : ℕ) → length list ≡ n → (word : ℕ) → UpTo (EntryAt list) n word ↔ HasEntry list word
all_entries list n many word = (
  λ w. (w.2.0, (w.0, (let lt = w.1 in omega (arith, many, lt)), w.2.1 w.2.0), w.2.2),
  λ h. let found = item_at list h.1.0 h.1.1 in
      (h.1.0, (let lt = h.1.1 in omega (arith, many, lt)), (h.0, (λ d. found.1 d ∙ sym (found.1 h.0) ∙ h.1.2), h.2)),
)

pub values_read : (pools : Pools) (word : ℕ) (list : List Valued) → AreFolded keeps_nothing tt (trie_of pools.contexts (index_of word)) list
    → length pools.contexts < 2 ^ 64 → (value : ℕ) → HasEntry list value ↔ HasValue pools word value
values_read pools word list folded few value = (
  λ h.
      let from = (folded.said h.0.0 h.0.1).0 h.1 in
      (from.0, h.0.1, folded_readable keeps_nothing tt pools.contexts (index_of word) list folded few, from.1, h.2),
  λ v. ((fold keeps_nothing tt v.0, v.1), (folded.said (fold keeps_nothing tt v.0) v.1).1 (v.0, v.3, refl), v.4),
)

pub no_values : (pools : Pools) (word : ℕ) → (IsUnitTrie (trie_of pools.contexts (index_of word)) → ⊥) → (value : ℕ) → HasValue pools word value → ⊥
no_values pools word broken value v = broken v.2.0

-- ---- Numbers of lists

-- what the numbers of a list give
abbrev pub FromIndices : {X : Type 0} → (ℕ → X → Type 0) → List ℕ → ℕ → X → Type 0
FromIndices Gives xs = UpTo (λ k x. Gives (slice_index xs k) x)

module _ {X : Type 0} (Gives : ℕ → X → Type 0) (xs : List ℕ) (n : ℕ) (many : length xs ≡ n) (x : X) where
  pub from_all_indices : FromIndices Gives xs n x ↔ ((y : ℕ) × Contains xs y × Gives y x)
  from_all_indices = (
    λ w.
        let lt : w.0 < length xs = let l = w.1 in omega (arith, many, l) in
        (slice_index xs w.0, (w.0, lt, get_or_default xs w.0 (slice_index xs w.0) 0 lt), w.2),
    λ h.
        let lt = h.1.1 in
        (h.1.0, omega (arith, many, lt), subst (λ y. Gives y x) (sym h.1.2 ∙ get_or_default xs h.1.0 h.0 0 lt) h.2),
  )

-- ---- Characters

-- all characters are below the end of the codes
pub all_codes : (P : ℕ → ℕ → Type 0) → ((c word : ℕ) → P c word → IsScalar c) → (word : ℕ) → UpTo P 0x11_0000 word ↔ ((c : ℕ) × P c word)
all_codes P scalar word = (λ w. (w.0, w.2), λ h. (h.0, scalar_below h.0 (scalar h.0 word h.1), h.1))

pub from_own_indices : (xs : List ℕ) (n : ℕ) → length xs ≡ n → (x : ℕ) → FromIndices (λ y x. x ≡ y) xs n x ↔ Contains xs x
from_own_indices xs n many x =
    let told = from_all_indices (λ y x. x ≡ y) xs n many x in (
      λ w. let h = told.0 w in subst (λ y. Contains xs y) (sym h.2) h.1,
      λ h. told.1 (x, h, refl),
    )
