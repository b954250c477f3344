-- What a reading leaves of a list is of the list: what is true of each character stays so.
use Rattle.std.proofs.Common.{ℕ, zero, suc, Bool, ltb, ◌==◌, ◌&&◌, List, [], ◌∷◌, ◌++◌, drop, Option, Some, None}
use Rattle.std.proofs.lemmas.Bool.{cond_both}
use Rattle.std.specs.List.{AllByRecursion, list_all}
use Rattle.std.specs.Option.{is_some}
use Rattle.icu_normalizer_core.specs.Canonical.{Canonical}
use Rattle.icu_collator_core.specs.Weights.{Weights}
use Rattle.icu_collator_core.specs.Defaults.{special_primary, primary_element}
use Rattle.icu_collator_core.specs.Elements.{Placed, prefix_match, Reading, Joining, joining, text_match, text_reading, match_length, characters_of, digit_count, number_reading, is_before_accent, reading}
use Rattle.icu_normalizer_core.proofs.decomposed_lists.DecomposedLemmas.{all_append}

pub all_left : {X : Type 0} (P : X → Type 0) (n : ℕ) (xs : List X) → AllByRecursion P xs → AllByRecursion P (drop n xs)
all_left P zero xs h = h
all_left P (suc n) [] h = tt
all_left P (suc n) (x ∷ xs) h = all_left P n xs h.1

either : {A R : Type 0} (o : Option A) (f : A → R) (n : R) (P : R → Type 0) → ((x : A) → P (f x)) → P n
    → P (elim o as (λ _. R) [ Some x ↦ f x | None ↦ n ])
either (Some x) f n P h g = h x
either None f n P h g = g

module _ (canonical : Canonical) (weights : Weights) (P : Placed → Type 0) where
  abbrev Are : List Placed → Type 0
  Are ps = AllByRecursion P ps

  joining_left : (text : List ℕ) (between ms : List Placed) → Are between → Are ms → Are (joining canonical weights text between ms).left
  unfolding joining
  joining_left text between [] h g = h
  joining_left text between (m ∷ ms) h g =
      let longer = text ++ m.character ∷ []
      in let done : Joining = record { text = text; left = between ++ m ∷ ms }
      in let joined = joining canonical weights longer between ms
      in let stays = joining canonical weights text (between ++ m ∷ []) ms
      in cond_both (canonical.class m.character == 0) done _ (λ (j : Joining). Are j.left)
      (λ _. all_append _ between (m ∷ ms) h g)
      (λ _. cond_both (list_all (λ (b : Placed). ltb (canonical.class b.character) (canonical.class m.character)) between && is_some (weights.recorded [] longer)) joined stays (λ (j : Joining). Are j.left)
      (λ _. joining_left longer between ms h g.1) (λ _. joining_left text (between ++ m ∷ []) ms (all_append _ between (m ∷ []) h (g.0, tt)) g.1))

  pub text_left : (c : ℕ) (ps : List Placed) → Are ps → Are (text_reading canonical weights c ps).left
  unfolding text_reading text_match
  text_left c ps h = joining_left _ [] _ tt (all_left _ (match_length weights (characters_of ps)) ps h)

  pub number_left : (ps : List Placed) → Are ps → Are (number_reading weights ps).left
  unfolding number_reading
  number_left ps h = all_left _ (digit_count weights ps) ps h

  pub reading_left : (numeric : Bool) (p : Placed) (ps : List Placed) → P p → Are ps → Are (reading canonical weights numeric p ps).left
  unfolding reading
  reading_left numeric p ps s h =
      let c = p.character
      in let IsGood : Reading → Type 0 = λ r. Are r.left
      in either {R = Reading} (special_primary c) (λ q. record { elements = primary_element q ∷ []; left = ps }) _ IsGood (λ q. h)
      (cond_both (numeric && is_some (weights.digit c)) (number_reading weights (p ∷ ps)) _ IsGood (λ _. number_left (p ∷ ps) (s, h))
      (λ _. cond_both (weights.dot_above && (c == 0x307) && is_before_accent ps) (record { elements = []; left = ps }) _ IsGood (λ _. h)
      (λ _. either {R = Reading} (prefix_match weights p) (λ es. record { elements = es; left = ps }) (text_reading canonical weights c (p ∷ ps)) IsGood
      (λ es. h) (text_left c (p ∷ ps) (s, h)))))
