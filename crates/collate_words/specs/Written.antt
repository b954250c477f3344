-- A word of a character that says just what is to be said of it.
use Rattle.std.specs.Prelude.{◌≡◌, ℕ, ◌^◌, ◌<◌, ◌⊎◌, List, ◌∷◌, All, IsTrue, Some, None, option_and_then}
use Rattle.std.specs.Char.{IsScalar}
use Rattle.std.specs.List.{Contains}
use Rattle.icu_collator_types.specs.declared.elements.word_tags.Tag.TheVariants.{Contraction, Prefix}
use Rattle.icu_collator_types.specs.ElementWords.{has_tag}
use Rattle.icu_collator_core.specs.declared.check.layers.Layer.TheVariants.{Root}
use Rattle.icu_collator_core.specs.ContextRules.{has_flag}
use Rattle.icu_collator_core.specs.Pools.{Pools, elements_of_word, lone_word, prefix_word, suffix_word, unprefixed_word}
use Rattle.icu_collator_core.specs.PrefixFaults.{IsAmong}
use Rattle.icu_collator_core.specs.TableMeaning.{digit_by}
use Rattle.icu_collator_core.specs.WordForms.{IsWord}
use Rattle.icu_collator_core.specs.WordIndices.{IsInside}
use Rattle.collate_words.specs.Contexts.{HasContext}
use Rattle.collate_words.specs.OwnWords.{IsOwnWord}
use Rattle.collate_words.specs.Sayings.{SaidBeside, Saying, elements_beside, texts_backward, texts_beside}

-- a word says the elements of the character beside others
abbrev pub IsBesideWord : Pools → Saying → ℕ → Type 0
IsBesideWord pools saying one =
    (said : SaidBeside) × (Contains saying.suffixes said ⊎ Contains saying.prefixes said) × IsOwnWord pools one (Some said.elements) None

-- the flags of a contraction
pub record HasFlags (word : ℕ) (saying : Saying) : Type 0 where
  pub all_begin : has_flag 9 word ≡ saying.all_begin
  pub one_ends : has_flag 10 word ≡ saying.one_ends
  pub one_holds : has_flag 11 word ≡ saying.one_holds

-- a word of a character says just this, and all that it names is in the lists
pub record SaysOf (pools : Pools) (word : ℕ) (saying : Saying) : Type 0 where
  pub fits : word < 2 ^ 32
  pub form : IsWord Root pools word
  pub inside : IsInside pools word
  pub lone : IsOwnWord pools (lone_word pools word) saying.own saying.offset
  pub digit : digit_by (record { word = word; pools = pools }) ≡ saying.digit
  pub suffixes : (d : ℕ) (ds : List ℕ) → All IsScalar (d ∷ ds)
      → option_and_then (elements_of_word pools) (suffix_word pools word (d ∷ ds)) ≡ elements_beside saying.suffixes (d ∷ ds)
  pub prefixes : (b : ℕ) (bs : List ℕ) → All IsScalar (b ∷ bs)
      → option_and_then (elements_of_word pools) (prefix_word pools word (b ∷ bs)) ≡ elements_beside saying.prefixes (b ∷ bs)
  pub behind : HasContext pools Contraction (unprefixed_word pools word) (texts_beside saying.suffixes)
  pub before : HasContext pools Prefix word (texts_backward saying.prefixes)
  pub flags : IsTrue (has_tag Contraction (unprefixed_word pools word)) → HasFlags (unprefixed_word pools word) saying
  -- each word within it is that of the character alone, or of the character beside others
  pub within : (one : ℕ) → IsAmong pools word one → (one ≡ lone_word pools word) ⊎ IsBesideWord pools saying one
