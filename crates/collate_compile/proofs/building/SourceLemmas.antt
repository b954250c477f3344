-- The data that are built of a layer.
use Rattle.std.proofs.Common.{◌≡◌, ℕ, Bool, true, false, List, subst, sym, Some, None, Option}
use Rattle.std.specs.Prelude.{MatchBool, MatchOption}
use Rattle.std.specs.Char.{IsScalar}
use Rattle.icu_codepointtrie.specs.Slots.{has_cell}
use Rattle.icu_collator_core.specs.declared.tables.data.CollationData.{CollationData}
use Rattle.icu_collator_core.specs.Pools.{Pools}
use Rattle.icu_collator_core.specs.TableMeaning.{fallback, pools_of, word_at}
use Rattle.icu_collator_core.specs.UnrecordedWords.{implicit}
use Rattle.collate_lines.specs.Record.{Record, root, tailoring}
use Rattle.collate_words.specs.Sayings.{Saying}
use Rattle.collate_words.specs.Written.{SaysOf}
use Rattle.collate_compile.specs.Beginnings.{AreBeginnings}
use Rattle.collate_compile.specs.declared.layer_builder.LayerBuilder.{LayerBuilder}
use Rattle.collate_compile.specs.LayerBuilds.{AreWritten, IsGiven, IsLeft, word_of}
use Rattle.collate_compile.specs.Layers.{IsRootOf, IsTailoringOf, IsUnwritten, IsWrittenOf}
use Rattle.collate_compile.specs.LineSayings.{offset_of, ranged_saying}

module _ (lines : List Record) (layer : LayerBuilder) (source : CollationData) (c : ℕ)
    (word : word_at source c ≡ word_of layer c) (pools : pools_of source ≡ layer.pools) where
  says_built : (saying : Saying) → SaysOf layer.pools (word_of layer c) saying
      → SaysOf (pools_of source) (word_at source c) saying
  says_built saying says =
      subst (λ (w : ℕ). SaysOf (pools_of source) w saying) (sym word)
      (subst (λ (p : Pools). SaysOf p (word_of layer c) saying) (sym pools) says)

  pub given_built : IsGiven lines layer c → IsWrittenOf lines source c
  given_built given = (given.0, given.1, says_built given.0 given.2)

  pub left_built : IsLeft root lines layer c → IsUnwritten lines source c
  left_built left = by (offset_of lines c) left
    where
      by : (o : Option ℕ) → MatchOption o (word_of layer c ≡ implicit)
          (λ bits. SaysOf layer.pools (word_of layer c) (ranged_saying bits))
          → MatchOption o (word_at source c ≡ implicit)
          (λ bits. SaysOf (pools_of source) (word_at source c) (ranged_saying bits))
      by (Some bits) says = says_built (ranged_saying bits) says
      by None is = subst (λ (w : ℕ). w ≡ implicit) (sym word) is

both : (b : Bool) (P Q R S : Type 0) → (P → R) → (Q → S) → MatchBool b P Q → MatchBool b R S
both true P Q R S f g h = f h
both false P Q R S f g h = g h

module _ (lines : List Record) (cs : List ℕ) (layer : LayerBuilder) (source : CollationData)
    (cells : (c : ℕ) → has_cell source.trie c ≡ true)
    (words : (c : ℕ) → IsScalar c → word_at source c ≡ word_of layer c) (pools : pools_of source ≡ layer.pools) where
  pub root_built : AreBeginnings root lines cs → AreWritten root lines cs layer → IsRootOf lines source
  root_built begin written = record {
    cells = λ c scalar. cells c;
    words = λ c scalar. subst (λ (b : Bool). MatchBool b (IsWrittenOf lines source c) (IsUnwritten lines source c))
        (begin.begun c)
        (both _ _ _ _ _ (given_built lines layer source c (words c scalar) pools)
        (left_built lines layer source c (words c scalar) pools) (written.words c scalar));
  }

  pub tailoring_built : AreBeginnings tailoring lines cs → AreWritten tailoring lines cs layer
      → IsTailoringOf lines source
  tailoring_built begin written = record {
    cells = λ c scalar. cells c;
    words = λ c scalar. subst (λ (b : Bool). MatchBool b (IsWrittenOf lines source c) (word_at source c ≡ fallback))
        (begin.begun c)
        (both _ _ _ _ _ (given_built lines layer source c (words c scalar) pools)
        (λ left. subst (λ (w : ℕ). w ≡ fallback) (sym (words c scalar)) left) (written.words c scalar));
  }
