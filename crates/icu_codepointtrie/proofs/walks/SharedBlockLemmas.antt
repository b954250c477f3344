-- Blocks that are found through one cell of the index have the same values.
use Rattle.std.proofs.Common.{◌≡◌, ℕ, ◌+◌, ◌-◌, ◌/◌, ◌%◌, ◌^◌, ◌<◌, ◌≤◌, false, length, Some, Option, refl, ap, subst, ◌∙◌, arith, ⊎_elim}
use Rattle.std.specs.Option.{option_eq}
use Rattle.std.proofs.lemmas.Bool.Decides.{nat_tests}
use Rattle.std.specs.Prelude.{not, nat_eq, None, nat_lt, slice_get, IfSome}
use Rattle.std.proofs.lemmas.Bool.{lt-ltb, le-ltb, cases_lt}
use Rattle.icu_codepointtrie.specs.Slots.{TrieTables, fast_limit, first_step, named_slot, is_inside, slot_or_last, has_cell, value_at}
use Rattle.icu_codepointtrie.specs.Ranges.{IsConstant}
use Rattle.icu_codepointtrie.specs.SharedBlocks.{key_width, key_slot, IsKey, IsUniform}

-- the slots of a block of 512 are those that the cell of its second step names
upper_slot : {T : Type 0} (t : TrieTables T) (c second block : ℕ) → fast_limit t.header.trie_type ≤ c → c + 512 ≤ t.header.high_start → c ≤ 0x10_FFFF → c % 512 ≡ 0
    → slice_get t.index (c / 2 ^ 14 + first_step t.header.trie_type) ≡ Some second → slice_get t.index (second + c / 2 ^ 9 % 32) ≡ Some block
    → (r : ℕ) → r < 512 → named_slot t.header t.index (length t.cells) (c + r) ≡ key_slot t.index (0x1_0000 + block) r
upper_slot t c second block from to last aligned first next r inside =
    let wide : nat_lt (0x1_0000 + block) 0x1_0000 ≡ false = le-ltb (0x1_0000 + block) 0x1_0000 (omega arith) in
    let back : 0x1_0000 + block - 0x1_0000 ≡ block = omega arith in
    let group : (c + r) / 2 ^ 14 ≡ c / 2 ^ 14 = omega arith in
    let number : (c + r) / 2 ^ 9 % 32 ≡ c / 2 ^ 9 % 32 = omega arith in
    let small : (c + r) / 2 ^ 4 % 32 ≡ r / 2 ^ 4 = omega arith in
    let rest : (c + r) % 16 ≡ r % 16 = omega arith in
    simp (le-ltb 0x10_FFFF (c + r) (omega arith), le-ltb (c + r) (fast_limit t.header.trie_type) (omega arith), lt-ltb (c + r) t.header.high_start (omega arith), group, first, number, next, small, rest, wide, back) refl

-- a block of 512 is found by the cell of its second step
pub upper_is_key : {T : Type 0} (t : TrieTables T) (c second block : ℕ) → fast_limit t.header.trie_type ≤ c → c + 512 ≤ t.header.high_start → c ≤ 0x10_FFFF → c % 512 ≡ 0
    → slice_get t.index (c / 2 ^ 14 + first_step t.header.trie_type) ≡ Some second → slice_get t.index (second + c / 2 ^ 9 % 32) ≡ Some block → IsKey t c (0x1_0000 + block)
upper_is_key t c second block from to last aligned first next =
    let wide : nat_lt (0x1_0000 + block) 0x1_0000 ≡ false = le-ltb (0x1_0000 + block) 0x1_0000 (omega arith) in
    let width : key_width (0x1_0000 + block) ≡ 512 = simp wide refl in
    record {
      inside = rw width (omega arith);
      values = λ r below. ap (λ p. slice_get t.cells (slot_or_last p (length t.cells))) (upper_slot t c second block from to last aligned first next r (omega (arith, width)));
      cells = λ r below. ap (λ p. is_inside p (length t.cells)) (upper_slot t c second block from to last aligned first next r (omega (arith, width)));
    }

-- a block like one that was read has the value too
pub skipped : {T : Type 0} (t : TrieTables T) (start next key : ℕ) (value : T) (uniform : Option ℕ) → IsConstant t start next value → IsKey t next key
    → IfSome uniform (IsUniform t value) → uniform ≡ Some key → IsConstant t start (next + key_width key) value
skipped t start next key value uniform before is known same c from below =
    let alike : IsUniform t value key = subst (λ (o : Option ℕ). IfSome o (IsUniform t value)) same known in
    ⊎_elim (λ low. before c from low)
    (λ high.
    let there : next + (c - next) ≡ c = omega arith in
    subst (λ (d : ℕ). value_at t d ≡ Some value) there (is.values (c - next) (omega arith) ∙ alike (c - next) (omega arith)))
    (cases_lt c next)

-- the key that was read is this one
pub known_key : (key : ℕ) (uniform : Option ℕ) → false ≡ not (option_eq nat_eq (Some key) uniform) → uniform ≡ Some key
known_key key None h = cc
known_key key (Some k) h = grind (arith, nat_tests)
