-- Below the fast limit the slot of a cell follows from what a trie is.
use Rattle.std.proofs.Common.{◌≡◌, ℕ, ◌+◌, ◌/◌, ◌%◌, ◌<◌, ◌≤◌, ◌⊎◌, inl, inr, length, get_or, Some, refl, ap, subst, ◌∙◌, arith, ⊎_elim}
use Rattle.std.proofs.lemmas.Bool.{lt-ltb, le-ltb}
use Rattle.std.proofs.lemmas.Option.{slice_get-get_or}
use Rattle.icu_codepointtrie.specs.Slots.{TrieTables, IsTrie, fast_limit, fast_blocks, value_at}
use Rattle.icu_codepointtrie.specs.declared.trie.TrieType.{TrieType}
use Rattle.icu_codepointtrie.specs.declared.trie.TrieType.TheVariants.{Fast, Small}

pub fast_limits : (trie_type : TrieType) → (fast_limit trie_type ≡ 0x1_0000) ⊎ (fast_limit trie_type ≡ 0x1000)
fast_limits Fast = inl refl
fast_limits Small = inr refl

-- the index cell and the data cell of a code point below the fast limit are inside
pub fast_inside : {T : Type 0} (t : TrieTables T) (c : ℕ) → IsTrie t → c < fast_limit t.header.trie_type
    → (c / 64 < length t.index) × (get_or t.index (c / 64) 0 + c % 64 < length t.cells)
fast_inside t c is below =
    let blocks : c / 64 < fast_blocks t.header.trie_type =
    ⊎_elim (λ fast. omega arith) (λ small. omega arith) (fast_limits t.header.trie_type) in
    (omega (arith, is.fast_index), omega (arith, is.fast_cells (c / 64) blocks))

-- the value of a code point below the fast limit
pub value_at_fast : {T : Type 0} (inside t : TrieTables T) (c start : ℕ) (x : T) → inside ≡ t → IsTrie inside → c < fast_limit t.header.trie_type
    → start ≡ get_or inside.index (c / 64) 0 → x ≡ get_or inside.cells (start + c % 64) x → Some x ≡ value_at t c
value_at_fast inside t c start x view is below same read =
    let at : start ≡ get_or t.index (c / 64) 0 = same ∙ ap (λ u. get_or u.index (c / 64) 0) view in
    let value : x ≡ get_or t.cells (start + c % 64) x = read ∙ ap (λ u. get_or u.cells (start + c % 64) x) view in
    let low : c ≤ 0x10_FFFF = ⊎_elim (λ fast. omega arith) (λ small. omega arith) (fast_limits t.header.trie_type) in
    let inside = fast_inside t c (subst IsTrie view is) below in
    let reached : start + c % 64 < length t.cells = omega (arith, inside.1) in
    simp (le-ltb 0x10_FFFF c low, lt-ltb c (fast_limit t.header.trie_type) below, slice_get-get_or t.index (c / 64) 0 inside.0, ← at, lt-ltb (start + c % 64) (length t.cells) reached, slice_get-get_or t.cells (start + c % 64) x reached) (ap (λ y. Some y) value)
