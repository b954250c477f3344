-- The longest text that is found by a word is the match of the weights that the word says.
use Rattle.std.proofs.Common.{◌≡◌, ℕ, zero, suc, ◌+◌, ◌<◌, ◌≤◌, Bool, true, false, ltb, ◌&&◌, cond, List, [], ◌∷◌, length, take, Option, Some, None, refl, sym, ◌∙◌, ap, arith, subst}
use Rattle.std.proofs.lemmas.Bool.{and_parts, and_from, cond-true, lt-ltb, ltb-true}
use Rattle.std.proofs.lemmas.Option.{cond_some, none-some}
use Rattle.std.proofs.lemmas.List.{length-take-le}
use Rattle.std.specs.Prelude.{IfSome, option_map}
use Rattle.std.specs.Option.{is_some, option_and_then, unwrap_or}
use lib.Utf8.{scalar, scalars}
use Rattle.icu_collator_types.specs.declared.elements.word_tags.Tag.TheVariants.{Contraction}
use Rattle.icu_collator_types.specs.ElementWords.{has_tag}
use Rattle.icu_collator_core.specs.declared.reading.suffixes.LongerText.{LongerText}
use Rattle.icu_collator_core.specs.Elements.{at_greatest, match_length, recorded_length}
use Rattle.icu_collator_core.specs.Pools.{Pools, elements_of_word, index_of, suffix_word, trie_of, unprefixed_word, word_in_context}
use Rattle.icu_collator_core.specs.TableMeaning.{TableWord, recorded_by}
use Rattle.icu_collator_core.specs.Weights.{Weights}
use Rattle.icu_collator_core.specs.ReadTexts.{found_or, length_with, longer_by, longest_text, text_by, text_of_length, word_by}
use Rattle.icu_collator_core.specs.ReadWords.{AreSaidBy}
use Rattle.icu_collator_core.proofs.lookups.LookedUpTextLemmas.{greatest_more}

pub scalars_front : (n : ℕ) (cs : List ℕ) → scalars cs ≡ true → scalars (take n cs) ≡ true
scalars_front zero cs e = refl
scalars_front (suc n) [] e = refl
scalars_front (suc n) (c ∷ cs) e =
    let parts = and_parts (scalar c) (scalars cs) e in
    and_from (scalar c) (scalars (take n cs)) parts.0 (scalars_front n cs parts.1)

-- the record of a text of two characters or more
pub recorded_behind : (entry : TableWord) (c : ℕ) (suffix : List ℕ) → 0 < length suffix
    → recorded_by entry c [] suffix
    ≡ option_and_then (elements_of_word entry.pools)
    (cond (has_tag Contraction (unprefixed_word entry.pools entry.word)) (word_by (trie_of entry.pools.contexts (index_of (unprefixed_word entry.pools entry.word))) suffix) None)
unfolding recorded_by suffix_word word_in_context
recorded_behind entry c [] some = absurd (omega (arith, some))
recorded_behind entry c (d ∷ ds) some = refl

same_found : (pools : Pools) (n : ℕ) (o : Option ℕ)
    → cond (is_some (option_and_then (elements_of_word pools) o)) (Some (n + 1)) None
    ≡ option_map (λ (t : LongerText). t.behind + 1) (option_and_then (text_by pools n) o)
unfolding text_by
same_found pools n None = refl
same_found pools n (Some word) =
    elim (is_some (elements_of_word pools word)) as (λ b. cond b (Some (n + 1)) None
    ≡ option_map (λ (t : LongerText). t.behind + 1) (cond b (Some (record { behind = n; word = word })) None)) [ true ↦ refl | false ↦ refl ]

module _ (entry : TableWord) (cs : List ℕ) where
  abbrev is_contraction : Bool
  is_contraction = has_tag Contraction (unprefixed_word entry.pools entry.word)

  abbrev units : List ℕ
  units = trie_of entry.pools.contexts (index_of (unprefixed_word entry.pools entry.word))

  -- the text that ends after so many characters
  abbrev found_at : ℕ → Option LongerText
  found_at n = cond is_contraction (text_of_length entry.pools units cs n) None

  module _ (weights : Weights) (c : ℕ) (said : AreSaidBy weights entry c) (ok : scalars cs ≡ true) where
    abbrev lengths : ℕ → Option ℕ
    lengths n = recorded_length weights (c ∷ cs) n

    at_length : (n : ℕ) → 0 < n → n ≤ length cs → lengths (n + 1) ≡ option_map (λ (t : LongerText). t.behind + 1) (found_at n)
    unfolding text_of_length
    at_length n above within =
        let next : n + 1 ≡ suc n = omega arith in
        let whole : take (n + 1) (c ∷ cs) ≡ c ∷ take n cs = ap (λ k. take k (c ∷ cs)) next in
        let filled : 0 < length (take n cs) = let count = length-take-le n cs within in omega (arith, count) in
        let recorded = ap (weights.recorded []) whole ∙ said.recorded [] (take n cs) refl (scalars_front n cs ok) ∙ recorded_behind entry c (take n cs) filled in
        ap (λ b. cond (b && is_some (weights.recorded [] (take (n + 1) (c ∷ cs)))) (Some (n + 1)) None) (lt-ltb 0 (n + 1) (omega arith))
        ∙ ap (λ r. cond (is_some r) (Some (n + 1)) None) recorded
        ∙ same_found entry.pools n (cond is_contraction (word_by units (take n cs)) None)
        ∙ (elim is_contraction as (λ b. option_map (λ (t : LongerText). t.behind + 1) (option_and_then (text_by entry.pools n) (cond b (word_by units (take n cs)) None))
        ≡ option_map (λ (t : LongerText). t.behind + 1) (cond b (cond (ltb 0 n) (option_and_then (text_by entry.pools n) (word_by units (take n cs))) None) None)) [
          | true ↦ ap (option_map (λ (t : LongerText). t.behind + 1)) (sym (cond-true (ltb 0 n) (option_and_then (text_by entry.pools n) (word_by units (take n cs))) None (lt-ltb 0 n above)))
          | false ↦ refl
        ])

    at_one : (b : Bool) → unwrap_or (found_or (cond b (Some (0 + 1)) None) None) 1 ≡ 1
    at_one true = refl
    at_one false = refl

    none_found : found_at 0 ≡ None
    unfolding text_of_length
    none_found = elim is_contraction as (λ b. cond {A = Option LongerText} b None None ≡ None) [ true ↦ refl | false ↦ refl ]

    shifted : (m : ℕ) → m ≤ length cs → unwrap_or (at_greatest lengths (m + 1)) 1 ≡ length_with (at_greatest found_at m)
    unfolding at_greatest
    shifted zero within =
        ap (λ o. unwrap_or o 1) (greatest_more lengths 0)
        ∙ at_one (ltb 0 (0 + 1) && is_some (weights.recorded [] (take (0 + 1) (c ∷ cs))))
        ∙ ap length_with (sym none_found)
    shifted (suc m) within =
        let before : unwrap_or (at_greatest lengths (suc m)) 1 ≡ length_with (at_greatest found_at m) =
        let next : suc m ≡ m + 1 = omega arith in ap (λ k. unwrap_or (at_greatest lengths k) 1) next ∙ shifted m (omega arith) in
        ap (λ o. unwrap_or o 1) (greatest_more lengths (suc m) ∙ ap (λ o. found_or o (at_greatest lengths (suc m))) (at_length (suc m) (omega arith) within))
        ∙ by_found (found_at (suc m)) (at_greatest lengths (suc m)) (at_greatest found_at m) before
      where
        by_found : (o : Option LongerText) (p : Option ℕ) (q : Option LongerText) → unwrap_or p 1 ≡ length_with q
            → unwrap_or (found_or (option_map (λ (t : LongerText). t.behind + 1) o) p) 1 ≡ length_with (elim o as (λ _. Option LongerText) [ Some x ↦ Some x | None ↦ q ])
        by_found (Some t) p q e = refl
        by_found None p q e = e

  longer_is : longer_by entry cs ≡ at_greatest found_at (length cs)
  unfolding longer_by at_greatest
  longer_is = elim is_contraction as (λ b. cond b (longest_text entry.pools units cs) None ≡ at_greatest (λ n. cond b (text_of_length entry.pools units cs n) None) (length cs)) [
    | true ↦ refl
    | false ↦ sym (none_at (length cs))
  ]
    where
      none_at : (n : ℕ) → at_greatest {A = LongerText} (λ n. None) n ≡ None
      none_at zero = refl
      none_at (suc n) = none_at n

pub match_is : (entry : TableWord) (cs : List ℕ) (weights : Weights) (c : ℕ) → AreSaidBy weights entry c → scalars cs ≡ true
    → match_length weights (c ∷ cs) ≡ length_with (longer_by entry cs)
match_is entry cs weights c said ok =
    let next : length (c ∷ cs) ≡ length cs + 1 = omega arith in
    ap (λ k. unwrap_or (at_greatest (recorded_length weights (c ∷ cs)) k) 1) next
    ∙ shifted entry cs weights c said ok (length cs) (omega arith)
    ∙ ap length_with (sym (longer_is entry cs))

-- ---- The text that was found

-- a text that stands after a character, with its word
pub record IsFound (entry : TableWord) (cs : List ℕ) (text : LongerText) : Type 0 where
  pub contraction : is_contraction entry cs ≡ true
  pub filled : 0 < text.behind
  pub within : text.behind ≤ length cs
  pub word_is : word_by (units entry cs) (take text.behind cs) ≡ Some text.word
  pub spelled : is_some (elements_of_word entry.pools text.word) ≡ true

greatest_at : {A : Type 0} (f : ℕ → Option A) (m : ℕ) (x : A) → at_greatest f m ≡ Some x → (n : ℕ) × (n ≤ m) × (f n ≡ Some x)
unfolding at_greatest
greatest_at f zero x e = (0, omega arith, e)
greatest_at {A} f (suc m) x e = by_last (f (suc m)) refl (λ h. greatest_at f m x h) e
  where
    by_last : (o : Option A) → f (suc m) ≡ o → (at_greatest f m ≡ Some x → (n : ℕ) × (n ≤ m) × (f n ≡ Some x))
        → (elim o as (λ _. Option A) [ Some y ↦ Some y | None ↦ at_greatest f m ]) ≡ Some x → (n : ℕ) × (n ≤ suc m) × (f n ≡ Some x)
    by_last (Some y) is before h = (suc m, omega arith, is ∙ h)
    by_last None is before h = let w = before h in (w.0, (let b = w.1 in omega (arith, b)), w.2)

module _ (entry : TableWord) (cs : List ℕ) (text : LongerText) where
  found_parts : (n : ℕ) → n ≤ length cs → found_at entry cs n ≡ Some text → IsFound entry cs text
  unfolding text_of_length text_by
  found_parts n within e = by_parts (is_contraction entry cs) refl (ltb 0 n) refl (word_by (units entry cs) (take n cs)) refl e
    where
      by_parts : (b : Bool) → is_contraction entry cs ≡ b → (a : Bool) → ltb 0 n ≡ a → (o : Option ℕ) → word_by (units entry cs) (take n cs) ≡ o
          → cond b (cond a (option_and_then (text_by entry.pools n) o) None) None ≡ Some text → IsFound entry cs text
      by_parts false is a above o found h = absurd (none-some text h)
      by_parts true is false above o found h = absurd (none-some text h)
      by_parts true is true above None found h = absurd (none-some text h)
      by_parts true is true above (Some word) found h =
          let w = cond_some (is_some (elements_of_word entry.pools word)) (record { behind = n; word = word }) text h in
          subst (IsFound entry cs) w.1 (record {
            contraction = is;
            filled = ltb-true 0 n above;
            within = within;
            word_is = found;
            spelled = w.0;
          })

  pub text_found : longer_by entry cs ≡ Some text → IsFound entry cs text
  text_found e =
      let w = greatest_at (found_at entry cs) (length cs) text (sym (longer_is entry cs) ∙ e) in
      found_parts w.0 w.1 w.2

  pub text_recorded : IsFound entry cs text → (weights : Weights) (c : ℕ) → AreSaidBy weights entry c → scalars cs ≡ true
      → weights.recorded [] (c ∷ take text.behind cs) ≡ elements_of_word entry.pools text.word
  text_recorded h weights c said ok =
      let filled : 0 < length (take text.behind cs) =
      let count = length-take-le text.behind cs h.within in let some = h.filled in omega (arith, count, some) in
      said.recorded [] (take text.behind cs) refl (scalars_front text.behind cs ok)
      ∙ recorded_behind entry c (take text.behind cs) filled
      ∙ ap (λ b. option_and_then (elements_of_word entry.pools) (cond b (word_by (units entry cs) (take text.behind cs)) None)) h.contraction
      ∙ ap (option_and_then (elements_of_word entry.pools)) h.word_is

-- what holds of each text that is found
pub for_found : (entry : TableWord) (cs : List ℕ) (result : Option LongerText) → result ≡ longer_by entry cs
    → (P : LongerText → Type 0) → ((text : LongerText) → IsFound entry cs text → P text) → IfSome result P
for_found entry cs None e P h = tt
for_found entry cs (Some text) e P h = h text (text_found entry cs text (sym e))
