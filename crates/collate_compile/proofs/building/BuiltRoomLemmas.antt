-- What is built of accepted lines has few enough different blocks.
use Rattle.std.proofs.Common.{◌≡◌, ℕ, ◌+◌, ◌*◌, ◌<◌, ◌≤◌, false, List, drop, length, sym, ◌∙◌, arith}
use Rattle.std.specs.Prelude.{count_by, flat_map}
use Rattle.std.proofs.lemmas.Bool.{false_from_ne_true, false≢true}
use Rattle.icu_codepointtrie.specs.Blocks.{different_blocks, upper_blocks, upper_start}
use Rattle.icu_codepointtrie.proofs.built.UpperBlockLemmas.{upper_blocks-le, upper_start_is}
use Rattle.icu_normalizer_core.specs.Named.{narrow_block, wide_block}
use Rattle.collate_lines.specs.Record.{Record}
use Rattle.collate_rules.specs.Accepted.{AreAccepted}
use Rattle.collate_rules.specs.Rules.{blocks_in, is_range, named}
use Rattle.collate_compile.specs.declared.layer_builder.LayerBuilder.{LayerBuilder}
use Rattle.collate_compile.specs.Beginnings.{AreFew}
use Rattle.collate_compile.specs.LayerBuilds.{GrowsBy, KeepsOthers}
use Rattle.collate_compile.proofs.building.WrittenBlockLemmas.{different_blocks-beside}
use Rattle.collate_compile.proofs.gathering.AcceptedLineLemmas.{accepted_narrow, accepted_wide}
use Rattle.collate_compile.proofs.gathering.NameLemmas.{is_among}

-- Where only characters that lines name are written over a map of some ranges, blocks that lines name are the only ones
-- more.
built_few : (width start : ℕ) (block_of : ℕ → ℕ) → ((j k : ℕ) → k < width → block_of (start + (j * width + k)) ≡ j)
    → (lines : List Record) (cs : List ℕ) (a b : ℕ) (old new : LayerBuilder) → AreFew lines cs
    → length old.words.values ≡ 0x110000
    → different_blocks (λ n. n) width (drop start old.words.values) ≤ 1 + 3 * count_by is_range lines
    → KeepsOthers a b cs old new
    → different_blocks (λ n. n) width (drop start new.words.values) ≤ 1 + blocks_in block_of lines
built_few width start block_of is_block lines cs a b old new few all ranged kept =
    omega (
      arith,
      ranged,
      different_blocks-beside (λ n. n) width start block_of is_block old.words.values new.words.values
          (flat_map named lines) new.words.default old.words.default kept.same.count
          (λ c lt other. kept.words c (omega (arith, lt, all)) (unwritten c other)),
    )
  where
    unwritten : (c : ℕ) → is_among c (flat_map named lines) ≡ false → is_among c cs ≡ false
    unwritten c other = false_from_ne_true (is_among c cs) (λ among. false≢true (sym other ∙ few.are_named c among))

module _ (lines : List Record) (accepted : AreAccepted lines) (cs : List ℕ) (few : AreFew lines cs) (a b : ℕ)
    (old new : LayerBuilder) (all : length old.words.values ≡ 0x110000)
    (ranged : (width : ℕ) → different_blocks (λ n. n) width old.words.values ≤ 1 + 3 * count_by is_range lines)
    (kept : KeepsOthers a b cs old new) where
  pub built_wide : different_blocks (λ n. n) 512 new.words.values ≤ 800
  built_wide =
      let most : different_blocks (λ n. n) 512 new.words.values ≤ 1 + blocks_in wide_block lines =
      built_few 512 0 wide_block (λ j k h. omega (arith, h)) lines cs a b old new few all (ranged 512) kept in
      omega (arith, most, accepted_wide lines accepted)

  pub built_narrow : upper_blocks (λ n. n) new.words.values ≤ 12000
  built_narrow =
      let upper : upper_blocks (λ n. n) old.words.values ≤ 1 + 3 * count_by is_range lines =
      omega (arith, upper_blocks-le (λ n. n) old.words.values, ranged 16) in
      let most = built_few 16 upper_start narrow_block (λ j k h. omega (arith, h, upper_start_is)) lines cs a b old new few
      all upper kept in
      omega (arith, most, accepted_narrow lines accepted)

-- a map that has just ranges over what it had at first
pub ranged_few : (n : ℕ) (lines : List Record) (start old : LayerBuilder)
    → ((width : ℕ) → different_blocks (λ k. k) width start.words.values ≤ 1)
    → GrowsBy n (3 * count_by is_range lines) start old → (width : ℕ)
    → different_blocks (λ k. k) width old.words.values ≤ 1 + 3 * count_by is_range lines
ranged_few n lines start old one grown width = omega (arith, one width, grown.blocks width)
