-- The text match at an index of a list, by the word of the character there.
use Rattle.std.proofs.Common.{◌≡◌, ℕ, suc, ◌+◌, ◌==◌, true, false, cond, List, [], ◌∷◌, ◌++◌, take, drop, None, refl, sym, ◌∙◌, ap, arith, append_assoc, append-nil, inl, inr}
use Rattle.std.specs.Option.{is_some, option_and_then}
use Rattle.std.specs.List.{list_all}
use Rattle.std.proofs.lemmas.Bool.{and_from, and_parts, and_right, cases_Bool}
use Rattle.std.proofs.lemmas.List.{drop-drop, drop-map}
use Rattle.std.specs.Prelude.{ltb}
use lib.Utf8.{scalar, scalars}
use Rattle.icu_normalizer_core.specs.Canonical.{Canonical}
use Rattle.icu_collator_core.specs.Elements.{Joining, Placed, characters_of, joining, match_length, placed, text_match}
use Rattle.icu_collator_core.specs.JoinedTexts.{IsFoundAs, has_suffixes}
use Rattle.icu_collator_core.specs.Pools.{elements_of_word}
use Rattle.icu_collator_core.specs.ReadTexts.{length_with, longer_by, longest_text, suffix_units, word_by}
use Rattle.icu_collator_core.specs.ReadWords.{AreSaidBy}
use Rattle.icu_collator_core.specs.TableMeaning.{TableWord}
use Rattle.icu_collator_core.specs.Weights.{Weights}
use Rattle.icu_collator_core.proofs.lookups.MatchLemmas.{match_is, recorded_behind}
use Rattle.icu_collator_core.proofs.lookups.OpenTextLemmas.{joining_ends, joining_stays}
use Rattle.icu_collator_core.proofs.lookups.PlacedLemmas.{characters_placed}
use Rattle.icu_collator_core.proofs.readings.MovedMarkLemmas.{moved_alike, moved_itself}

pub characters_left : (index : ℕ) (old : List ℕ) → characters_of (drop index (placed old)) ≡ drop index old
characters_left index old = sym (drop-map (λ p. p.character) index (placed old)) ∙ ap (drop index) (characters_placed [] old)

-- the match is what marks join, from the end the longest recorded text
pub text_match_is : (canonical : Canonical) (weights : Weights) (index n c : ℕ) (old : List ℕ) → drop index old ≡ c ∷ drop (index + 1) old
    → match_length weights (c ∷ drop (index + 1) old) ≡ n + 1
    → joining canonical weights (c ∷ take n (drop (index + 1) old)) [] (drop (index + 1 + n) (placed old)) ≡ text_match canonical weights (drop index (placed old))
unfolding text_match
text_match_is canonical weights index n c old first count =
    let ps = drop index (placed old) in
    let Match : List ℕ → ℕ → Joining = λ list k. joining canonical weights (take k list) [] (drop k ps) in
    let list = c ∷ drop (index + 1) old in
    let one : match_length weights list ≡ suc n = count ∙ omega arith in
    let rest : drop (suc n) ps ≡ drop (index + 1 + n) (placed old) = drop-drop (suc n) index (placed old) ∙ ap (λ k. drop k (placed old)) (omega arith) in
    sym
    (ap (λ l. Match l (match_length weights l)) (characters_left index old ∙ first)
    ∙ ap (Match list) one
    ∙ ap (joining canonical weights (c ∷ take n (drop (index + 1) old)) []) rest)

module _ (canonical : Canonical) (weights : Weights) (entry : TableWord) (c : ℕ) (said : AreSaidBy weights entry c) (alone : has_suffixes entry ≡ false) where
  not_recorded : (m : ℕ) → scalar m ≡ true → is_some (weights.recorded [] (c ∷ m ∷ [])) ≡ false
  not_recorded m ok =
      ap is_some
      (said.recorded [] (m ∷ []) refl (and_from (scalar m) true ok refl)
      ∙ recorded_behind entry c (m ∷ []) (omega arith)
      ∙ ap (λ b. option_and_then (elements_of_word entry.pools) (cond b (word_by (suffix_units entry) (m ∷ [])) None)) alone)

  -- no mark joins
  pub joining_alone : (between ps : List Placed) → scalars (characters_of ps) ≡ true
      → joining canonical weights (c ∷ []) between ps ≡ record { text = c ∷ []; left = between ++ ps }
  unfolding joining
  joining_alone between [] ok = ap (λ ps. record { text = c ∷ []; left = ps }) (sym (append-nil between))
  joining_alone between (p ∷ ps) ok =
      let class = canonical.class p.character in
      let parts = and_parts (scalar p.character) (scalars (characters_of ps)) ok in
      elim (cases_Bool (class == 0)) [
        | inl e ↦ joining_ends canonical weights (c ∷ []) between p ps e
        | inr e ↦
            joining_stays canonical weights (c ∷ []) between p ps e
            (and_right (list_all (λ b. ltb (canonical.class b.character) class) between) (is_some (weights.recorded [] (c ∷ p.character ∷ []))) (not_recorded p.character parts.0))
            ∙ joining_alone (between ++ p ∷ []) ps parts.1
            ∙ ap (λ qs. record { text = c ∷ []; left = qs }) (append_assoc between (p ∷ []) ps)
      ]

  length_alone : (cs : List ℕ) → scalars cs ≡ true → match_length weights (c ∷ cs) ≡ 0 + 1
  unfolding longer_by
  length_alone cs ok =
      match_is entry cs weights c said ok
      ∙ ap (λ b. length_with (cond b (longest_text entry.pools (suffix_units entry) cs) None)) alone

  -- a character that begins no longer text is found alone
  pub found_alone : (index : ℕ) (old : List ℕ) → drop index old ≡ c ∷ drop (index + 1) old → scalars (drop index old) ≡ true
      → IsFoundAs canonical weights entry.pools c (text_match canonical weights (drop index (placed old))) (record { word = None; next = index + 1 }) old
  found_alone index old first ok =
      let cs = drop (index + 1) old in
      let others = (and_parts (scalar c) (scalars cs) (ap scalars (sym first) ∙ ok)).1 in
      let left = drop (index + 1) (placed old) in
      let is : text_match canonical weights (drop index (placed old)) ≡ record { text = c ∷ []; left = left } =
      sym (text_match_is canonical weights index 0 c old first (length_alone cs others))
      ∙ ap (λ k. joining canonical weights (c ∷ []) [] (drop k (placed old))) {x = index + 1 + 0} {y = index + 1} (omega arith)
      ∙ joining_alone [] left (ap scalars (characters_left (index + 1) old) ∙ others) in
      rw is (record {
        elements = refl;
        left = λ known. moved_alike canonical.class weights known (index + 1) old old (moved_itself canonical.class old) refl;
      })
