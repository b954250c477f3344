-- The compatibility words of characters in a map, one after another.
use Rattle.std.proofs.Common.{◌≡◌, ℕ, ◌<◌, ◌≤◌, ◌%◌, ◌^◌, ◌==◌, ⊎_elim, false, List, [], ◌∷◌, ◌++◌, length, Option, sym, ap, subst, ◌∙◌, arith, append_assoc, length-append}
use Rattle.std.specs.Option.{unwrap_or}
use Rattle.std.specs.Char.{IsScalar}
use Rattle.std.proofs.lemmas.List.{append-nil}
use Rattle.std.proofs.lemmas.List.Sums.{sum_by_push}
use Rattle.icu_codepointtrie.specs.BuiltTries.{IsTrieOf}
use Rattle.icu_codepointtrie.specs.CodePointMaps.{CodePointMap, IsWritten, mapped}
use Rattle.icu_codepointtrie.specs.Slots.{value_at}
use Rattle.icu_normalizer_core.specs.declared.compatibility.tables.NfkdTables.{NfkdTables}
use Rattle.icu_normalizer_core.specs.CanonicalWords.{plain_word}
use Rattle.icu_normalizer_core.specs.CompatibilityMeaning.{nfkd_lists}
use Rattle.icu_normalizer_core.specs.declared.builder.mappings.Mappings.{Mappings}
use Rattle.icu_normalizer_core.specs.declared.canonical.check.left.Left.{Left}
use Rattle.icu_normalizer_core.specs.BuiltIn.{is_syllable}
use Rattle.icu_normalizer_core.specs.BuiltMaps.{HasPlainWords}
use Rattle.icu_normalizer_core.specs.CanonicalMeaning.{meaning}
use Rattle.icu_normalizer_core.specs.CharacterWords.{AreUnnamed}
use Rattle.icu_normalizer_core.specs.Settled.{left_items}
use Rattle.icu_normalizer_core.specs.SettledMappings.{AreFullWords, AreMappingStarts, AreOthersUnnamed, AreRightSoFar, HasBadLeft, HasOpen, IsAllSettled, IsFullWord, IsSound, KeepsFullWord, StartsLeft, full_room, steps_in}
use Rattle.icu_normalizer_core.proofs.decomposed_lists.DecomposedLemmas.{left_one}
use Rattle.icu_normalizer_core.proofs.settling.SettledLemmas.{cut_long}
use Rattle.icu_normalizer_core.proofs.building.BuiltTableLemmas.{plain_read, scalar_bound}
use Rattle.icu_normalizer_core.proofs.building.CoveredLemmas.{among_or_not}
use Rattle.icu_normalizer_core.proofs.building.MappingReadLemmas.{open_endless}
use Rattle.icu_normalizer_core.proofs.building.WordMapLemmas.{words_along, words_more, words_none}

module _ (step : ℕ → List ℕ) (class : ℕ → ℕ) where
  abbrev IsRight : List ℕ → ℕ → ℕ → Type 0
  IsRight scalars24 c word = (word < 2 ^ 30) × (IsScalar c → KeepsFullWord step (class c) scalars24 c word)

  pub right_first : (scalars24 : List ℕ) (words : CodePointMap ℕ) → AreUnnamed words → scalars24 ≡ [] → AreRightSoFar step class scalars24 [] words
  right_first scalars24 words is none = record { right = words_none (IsRight scalars24) words is; size = omega (arith, ap length none) }

  pub right_more : (old24 new24 done : List ℕ) (old new : CodePointMap ℕ) (c word : ℕ) → AreRightSoFar step class old24 done old → IsScalar c
      → (more : List ℕ) × (new24 ≡ old24 ++ more) × (length more ≤ full_room step c) → KeepsFullWord step (class c) new24 c word → (word ≡ 0 → is_syllable c ≡ false)
      → IsWritten (λ n. n) old (λ x. x == c) word new → AreRightSoFar step class new24 (done ++ c ∷ []) new
  right_more old24 new24 done old new c word before s grown says syllable written =
      let kept = words_along (IsRight old24) (IsRight new24) done old
      (λ x w right. (
        right.0,
        λ scalar more.
            subst (λ (t : List ℕ). IsFullWord step (class x) t x w)
            (sym (append_assoc old24 grown.0 more) ∙ ap (λ (t : List ℕ). t ++ more) (sym grown.1))
            (right.1 scalar (grown.0 ++ more)),
      ))
      before.right in
      record {
        right = words_more (IsRight new24) done old new c word kept (scalar_bound c s) written ((says []).fits, λ _. says) syllable;
        size = omega (arith, before.size, ap length grown.1, length-append old24 grown.0, grown.2, sum_by_push (full_room step) done c);
      }

-- steps from an open character don't end
pub open_bad : (over : Mappings) (settled : List (Option Left)) (c : ℕ) → IsSound over → AreMappingStarts (steps_in over) over.given.now settled
    → IsAllSettled (meaning over.tables.now).full over.given.now settled → IsScalar c → HasOpen (meaning over.tables.now).full over.given.now settled (c ∷ [])
    → HasBadLeft (steps_in over)
open_bad over settled c sound starts done s o = (c, s, λ list leaves. absurd (open_endless over sound settled c list starts done s o leaves))

-- over eight characters are left
pub long_bad : (step : ℕ → List ℕ) (c : ℕ) (left : Left) → IsScalar c → StartsLeft step (c ∷ []) left → 8 < length (left_items left) → HasBadLeft step
long_bad step c left s starts long =
    (c, s, λ list leaves. subst (λ (xs : List ℕ). 8 < length xs) (left_one step (c ∷ []) starts.0 list starts.1 leaves) (cut_long (left_items left) starts.0 starts.2 long))

-- the tables of right words have each character's word
pub table_words : (step : ℕ → List ℕ) (class : ℕ → ℕ) (scalars24 named : List ℕ) (words : CodePointMap ℕ) (tables : NfkdTables)
    → AreRightSoFar step class scalars24 named words → AreOthersUnnamed step class named → IsTrieOf words tables.trie → tables.scalars16 ≡ []
    → tables.scalars24 ≡ scalars24 → AreFullWords step class (nfkd_lists tables)
table_words step class scalars24 named words tables has others is none same = record {
  has_word = λ c s. is.cells c;
  scalars16 = none;
  each = λ c s.
      let bound = scalar_bound c s in
      let kept : IsRight step class scalars24 c (mapped words c) → IsFullWord step (class c) scalars24 c (mapped words c) =
      λ right. subst (λ (t : List ℕ). IsFullWord step (class c) t c (mapped words c)) (append-nil scalars24) (right.1 s []) in
      let word : IsFullWord step (class c) scalars24 c (mapped words c) =
      ⊎_elim
      (λ yes. kept (has.right.among c bound yes))
      (λ no. subst (IsFullWord step (class c) scalars24 c) (sym (has.right.others c bound no)) (others scalars24 c s no))
      (among_or_not named c) in
      let small : mapped words c % 2 ^ 30 ≡ mapped words c = let f = word.fits in omega arith in
      let read : plain_word (unwrap_or (value_at tables.trie c) 0) ≡ mapped words c = ap (λ (o : Option ℕ). plain_word (unwrap_or o 0)) (is.within c bound) ∙ small in
      subst (λ (n : ℕ). IsFullWord step (class c) tables.scalars24 c n) (sym read) (subst (λ (t : List ℕ). IsFullWord step (class c) t c (mapped words c)) (sym same) word);
}

-- no word of them has one of the two uppermost bits
pub table_plain : (step : ℕ → List ℕ) (class : ℕ → ℕ) (scalars24 named : List ℕ) (words : CodePointMap ℕ) (tables : NfkdTables)
    → AreRightSoFar step class scalars24 named words → IsTrieOf words tables.trie → HasPlainWords tables.trie
table_plain step class scalars24 named words tables has is =
    plain_read (IsRight step class scalars24) named words tables.trie (λ c word right. right.0) has.right is
