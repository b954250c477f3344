-- The planes are few different blocks.
use Rattle.std.proofs.Common.{◌≡◌, ℕ, ◌+◌, ◌*◌, ◌/◌, ◌<◌, ◌≤◌, List, length, map, sym, ap, ◌∙◌, arith}
use Rattle.std.specs.Prelude.{slice_index, slice_index_or}
use Rattle.std.proofs.lemmas.List.{length-map, get_or-map}
use Rattle.icu_codepointtrie.specs.Blocks.{block, different_blocks}
use Rattle.icu_codepointtrie.specs.CodePointMaps.{CodePointMap, mapped}
use Rattle.icu_codepointtrie.proofs.built.BlockCountLemmas.{different_blocks-few}
use Rattle.icu_codepointtrie.proofs.built.BlockLemmas.{same_block}

-- the number at a slot
number_at : {T : Type 0} (number : T → ℕ) (values : List T) (c : ℕ) (default : T) → c < length values → slice_index (map number values) c ≡ number (slice_index_or values c default)
number_at number values c default inside = get_or-map number values c default 0 inside

-- a block that lies in one plane is like the first of that plane
in_plane : (m : CodePointMap ℕ) (number : ℕ → ℕ) (width first start : ℕ) → length m.values ≡ 0x11_0000
    → ((c : ℕ) → c ≤ 0x10_FFFF → mapped m c ≡ c / 0x1_0000) → (plane : ℕ) → plane < 17
    → first * width ≡ plane * 0x1_0000 → plane * 0x1_0000 ≤ start * width → start * width + width ≤ plane * 0x1_0000 + 0x1_0000
    → block width (map number m.values) first ≡ block width (map number m.values) start
in_plane m number width first start all planes plane few begins from to =
    let count : length (map number m.values) ≡ 0x11_0000 = length-map m.values number ∙ all in
    let at : (c : ℕ) → plane * 0x1_0000 ≤ c → c < plane * 0x1_0000 + 0x1_0000 → slice_index (map number m.values) c ≡ number plane =
    λ c low high.
    let here : c / 0x1_0000 ≡ plane = omega arith in
    number_at number m.values c m.default (omega arith) ∙ ap number (planes c (omega arith) ∙ here) in
    same_block width (map number m.values) (map number m.values) first start (omega arith) (omega arith)
    (λ r below. at (first * width + r) (omega arith) (omega arith) ∙ sym (at (start * width + r) (omega arith) (omega arith)))

-- so there are as many blocks of 512 as planes
pub few_wide : (m : CodePointMap ℕ) (number : ℕ → ℕ) → length m.values ≡ 0x11_0000 → ((c : ℕ) → c ≤ 0x10_FFFF → mapped m c ≡ c / 0x1_0000) → different_blocks number 512 m.values ≤ 17
few_wide m number all planes =
    let count : length (map number m.values) ≡ 0x11_0000 = length-map m.values number ∙ all in
    different_blocks-few number 512 17 m.values (λ k. block 512 (map number m.values) (k * 128))
    (λ j inside. (j / 128, omega arith, in_plane m number 512 (j / 128 * 128) j all planes (j / 128) (omega arith) (omega arith) (omega arith) (omega arith)))

-- and of 16
pub few_small : (m : CodePointMap ℕ) (number : ℕ → ℕ) → length m.values ≡ 0x11_0000 → ((c : ℕ) → c ≤ 0x10_FFFF → mapped m c ≡ c / 0x1_0000) → different_blocks number 16 m.values ≤ 17
few_small m number all planes =
    let count : length (map number m.values) ≡ 0x11_0000 = length-map m.values number ∙ all in
    different_blocks-few number 16 17 m.values (λ k. block 16 (map number m.values) (k * 4096))
    (λ j inside. (j / 4096, omega arith, in_plane m number 16 (j / 4096 * 4096) j all planes (j / 4096) (omega arith) (omega arith) (omega arith) (omega arith)))
