-- Five units that keep the grammar: "a" is 1 and "ab" is 2.
use Rattle.std.proofs.Common.{ℕ, List, [], ◌∷◌, Some, refl, arith}
use Rattle.icu_char16trie.specs.UnitSteps.{start}
use Rattle.icu_char16trie.specs.UnitMaps.{at_state, IsWhole, valued, final, whole_end, whole_node, whole_run_end}
use Rattle.icu_char16trie.specs.declared.node.State.TheVariants as state

abbrev five : List ℕ
five = 0x30 ∷ 0x61 ∷ 0xb0 ∷ 0x62 ∷ 0x8002 ∷ []

pub five_whole : IsWhole five (at_state (start five))
five_whole =
    whole_run_end (record { left = 1; index = 1 }) 0x61 refl (omega arith)
    (whole_node 2 (Some 1) (state.Match (record { left = 1; index = 3 }))
    (valued 2 0xb0 (record { value = 1; end = 3 }) (state.Match (record { left = 1; index = 3 })) refl (omega arith) (omega arith) refl refl)
    (whole_run_end (record { left = 1; index = 3 }) 0x62 refl (omega arith)
    (whole_end 4 2 (final 4 0x8002 (record { value = 2; end = 5 }) refl (omega arith) refl))))
