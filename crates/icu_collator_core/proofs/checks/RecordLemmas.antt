-- Texts that are recorded without their last mark, folded one character after another.
use Rattle.std.proofs.Common.{◌≡◌, ℕ, ◌+◌, ◌-◌, ◌<◌, Bool, true, false, cond, not, ◌||◌, leb, List, [], ◌∷◌, ◌++◌, length, take, reverse, None, refl, ap, sym, subst, ◌∙◌, arith, append-nil, append_assoc, length-append}
use Rattle.std.specs.Bool.{IsTrue}
use Rattle.std.specs.Prelude.{flat_map, fold, is_some}
use Rattle.std.specs.Option.{option_and_then}
use Rattle.std.proofs.Math.Seq.{take-append_seam}
use Rattle.std.proofs.lemmas.Bool.{lt-leb}
use Rattle.std.proofs.lemmas.List.{reverse-append}
use Rattle.icu_char16trie.specs.Cursors.{answer_to, follow, place_state, units_of, value_of_key}
use Rattle.icu_char16trie.specs.UnitSteps.{start}
use Rattle.icu_normalizer_core.specs.Canonical.{Canonical, is_starter}
use Rattle.icu_collator_types.specs.declared.elements.word_tags.Tag.TheVariants.{Contraction}
use Rattle.icu_collator_types.specs.ElementWords.{has_tag}
use Rattle.icu_collator_core.specs.declared.check.records.Recorded.{Recorded}
use Rattle.icu_collator_core.specs.ContextRules.{begins_with_mark, is_recorded_by, is_recorded_shorter}
use Rattle.icu_collator_core.specs.KeyTexts.{by_fold}
use Rattle.icu_collator_core.specs.Pools.{elements_of_word, index_of, suffix_word, trie_of, unprefixed_word, word_in_context}
use Rattle.icu_collator_core.specs.TableMeaning.{TableWord}
use Rattle.icu_collator_core.specs.TextFolds.{is_kept, recorded_with, says_elements}
use Rattle.icu_collator_core.proofs.checks.ContextLemmas.{behind_recorded}
use Rattle.icu_collator_core.proofs.checks.LookupLemmas.{answer_with, follow_on, units_with}

or_true : (a b : Bool) → b ≡ true → (a || b) ≡ true
or_true true b e = refl
or_true false b e = e

twice_not : (a b : Bool) → (not (not a) || b) ≡ (a || b)
twice_not true b = refl
twice_not false b = refl

module _ (canonical : Canonical) (entry : TableWord) (c : ℕ) where
  abbrev Shorter : List ℕ → Bool
  Shorter = is_recorded_shorter canonical (is_recorded_by entry) c

  -- a text of two characters or more
  two_or_more : (before : List ℕ) (x : ℕ) → 0 < length before
      → (is_starter canonical x || is_recorded_by entry [] (c ∷ before)) ≡ Shorter (before ++ x ∷ [])
  two_or_more before x some =
      let text = before ++ x ∷ [] in
      let count : length text ≡ length before + 1 = length-append before (x ∷ []) in
      let long : leb (length text) 1 ≡ false = lt-leb (length text) 1 (let e = count in omega (arith, e, some)) in
      let last : begins_with_mark canonical (reverse text) ≡ not (is_starter canonical x) =
      ap (begins_with_mark canonical) (reverse-append before (x ∷ [])) in
      let fewer : length text - 1 ≡ length before = let e = count in omega (arith, e) in
      let rest : take (length text - 1) text ≡ before = ap (λ n. take n text) fewer ∙ take-append_seam before (x ∷ []) in
      sym (
      ap (λ b. b || (not (begins_with_mark canonical (reverse text)) || is_recorded_by entry [] (c ∷ take (length text - 1) text))) long
      ∙ ap (λ b. not b || is_recorded_by entry [] (c ∷ take (length text - 1) text)) last
      ∙ ap (λ cs. not (not (is_starter canonical x)) || is_recorded_by entry [] (c ∷ cs)) rest
      ∙ twice_not (is_starter canonical x) (is_recorded_by entry [] (c ∷ before))
      )

  module _ (index : ℕ) (tagged : IsTrue (has_tag Contraction (unprefixed_word entry.pools entry.word)))
      (named : index ≡ index_of (unprefixed_word entry.pools entry.word)) where
    abbrev units : List ℕ
    units = trie_of entry.pools.contexts index

    -- the answer to a text has a word with elements
    abbrev Says : List ℕ → Bool
    Says ds = says_elements entry.pools (answer_to units (start units) (flat_map units_of ds))

    recorded_text : (ds : List ℕ) → 0 < length ds → is_recorded_by entry [] (c ∷ ds) ≡ Says ds
    unfolding suffix_word word_in_context value_of_key
    recorded_text ds some =
        ap is_some (
        behind_recorded entry c ds some
        ∙ ap (λ b. option_and_then (elements_of_word entry.pools)
        (cond b (word_in_context entry.pools.contexts (index_of (unprefixed_word entry.pools entry.word)) ds) None)) tagged
        ∙ ap (λ n. option_and_then (elements_of_word entry.pools) (word_in_context entry.pools.contexts n ds)) (sym named)
        )

    -- the same, and nothing is asked of no characters
    abbrev Known : List ℕ → Bool
    Known [] = true
    Known (d ∷ ds) = Says (d ∷ ds)

    -- what was folded of the characters so far
    record Knows (before : List ℕ) (known : Recorded) : Type 0 where
      stands : place_state known.place ≡ follow units (start units) (flat_map units_of before)
      recorded : known.is_recorded ≡ Known before
      kept : known.is_kept ≡ Shorter before

    known_text : (before : List ℕ) (x : ℕ) → Known (before ++ x ∷ []) ≡ Says (before ++ x ∷ [])
    known_text [] x = refl
    known_text (d ∷ ds) x = refl

    kept_with : (before : List ℕ) (x : ℕ) (known : Bool) → known ≡ Known before → (is_starter canonical x || known) ≡ Shorter (before ++ x ∷ [])
    kept_with [] x known e = or_true (is_starter canonical x) known e
    kept_with (d ∷ ds) x known e =
        ap (λ b. is_starter canonical x || b) (e ∙ sym (recorded_text (d ∷ ds) (omega arith)))
        ∙ two_or_more (d ∷ ds) x (omega arith)

    knows_more : (before : List ℕ) (known : Recorded) (x : ℕ) → Knows before known
        → Knows (before ++ x ∷ []) (recorded_with canonical entry.pools units known x)
    knows_more before known x knows =
        let key = flat_map units_of before in
        record {
          stands =
              ap (λ state. follow units state (units_of x)) knows.stands ∙ sym (follow_on units (start units) key (units_of x))
              ∙ ap (λ xs. follow units (start units) xs) (sym (units_with before x));
          recorded =
              ap (λ state. says_elements entry.pools (answer_to units state (units_of x))) knows.stands
              ∙ ap (says_elements entry.pools) (sym (answer_with units (start units) key x))
              ∙ ap (λ xs. says_elements entry.pools (answer_to units (start units) xs)) (sym (units_with before x))
              ∙ sym (known_text before x);
          kept = kept_with before x known.is_recorded knows.recorded;
        }

    knows_all : (cs before : List ℕ) (known : Recorded) → Knows before known
        → Knows (before ++ cs) (fold (recorded_with canonical entry.pools units) known cs)
    knows_all [] before known knows = subst (λ xs. Knows xs known) (sym (append-nil before)) knows
    knows_all (x ∷ cs) before known knows =
        subst (λ xs. Knows xs (fold (recorded_with canonical entry.pools units) known (x ∷ cs))) (append_assoc before (x ∷ []) cs)
        (knows_all cs (before ++ x ∷ []) (recorded_with canonical entry.pools units known x) (knows_more before known x knows))

    pub recorded_told : (known : Recorded) → place_state known.place ≡ start units → known.is_recorded ≡ true → known.is_kept ≡ true
        → (cs : List ℕ) → by_fold is_kept (recorded_with canonical entry.pools units) known cs ≡ Shorter cs
    recorded_told known stands recorded kept cs =
        (knows_all cs [] known (record { stands = stands; recorded = recorded; kept = kept })).kept
