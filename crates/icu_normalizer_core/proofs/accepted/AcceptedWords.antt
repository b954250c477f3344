-- What accepted compatibility words mean keeps the promise of compatibility data.
use Rattle.std.proofs.Common.{◌≡◌, ◌≢◌, ℕ, ◌<◌, ◌≤◌, inl, inr, ⊎_elim, not, ◌==◌, ◌&&◌, List, [], ◌∷◌, ◌++◌, length, flat_map, true, Option, Some, None, refl, sym, ap, subst, ◌∙◌, arith}
use Rattle.std.specs.Option.{IfSome}
use Rattle.std.specs.List.{All, Contains}
use Rattle.std.specs.Char.{IsScalar}
use lib.Utf8.{low_scalar}
use Rattle.std.proofs.lemmas.Bool.{and_parts, cases_Bool, cases_lt, cases_eq, ne_eqb, eqb-true}
use Rattle.std.proofs.lemmas.Grind.{flat_map-append}
use Rattle.std.proofs.lemmas.List.Elements.{All-contains_itself, All-head, All-tail}
use Rattle.icu_normalizer_core.specs.CanonicalFaults.{IsAccepted, begins_with_mark}
use Rattle.icu_normalizer_core.specs.CanonicalLists.{CanonicalLists, canonical_of}
use Rattle.icu_normalizer_core.specs.CanonicalWords.{is_word, states_list}
use Rattle.icu_normalizer_core.specs.Compatibility.{IsUnbound, IsCompatibility, compatibility_of, fixed_list}
use Rattle.icu_normalizer_core.specs.CompatibilityFaults.{AreAcceptedWords, is_good_word}
use Rattle.icu_normalizer_core.specs.Words.{WordLists, full_in, class_in, is_inside_in}
use Rattle.icu_normalizer_core.proofs.accepted.AcceptedForms.{scalar_stands}
use Rattle.icu_normalizer_core.proofs.accepted.AcceptedPairs.{canonical}
use Rattle.icu_normalizer_core.proofs.accepted.AcceptedTables.{list_stands, own_full, free_letter, free_single, full_left}
use Rattle.icu_normalizer_core.proofs.built.BuiltInFacts.{low_free, free_full}
use Rattle.icu_normalizer_core.proofs.compatible.FixedListLemmas.{fixed_low}
use Rattle.icu_normalizer_core.proofs.full_lists.FullListLemmas.{full_some}
use Rattle.icu_normalizer_core.proofs.settling.LeftLemmas.{left_double, left_one}

module _ (lists : CanonicalLists) (words : WordLists) (a : IsAccepted lists) (w : AreAcceptedWords lists words) where
  abbrev full : ℕ → List ℕ
  full = full_in words

  abbrev canonical_full : ℕ → List ℕ
  canonical_full = (canonical_of lists).full

  abbrev class : ℕ → ℕ
  class = (canonical_of lists).class

  good_word : (c : ℕ) → IsScalar c → is_good_word lists words c ≡ true
  good_word c scalar = ⊎_elim (λ t. t) (λ f. absurd (w.values c scalar f)) (cases_Bool (is_good_word lists words c))

  pub class_same : (c : ℕ) → IsScalar c → class_in words c ≡ class c
  class_same c scalar =
      eqb-true (class_in words c) (class c) (and_parts (words.has_word c && is_word c (words.word c)) (class_in words c == class c) (good_word c scalar)).1

  word_is : (c : ℕ) → IsScalar c → is_word c (words.word c) ≡ true
  word_is c scalar =
      (and_parts (words.has_word c) (is_word c (words.word c))
      (and_parts (words.has_word c && is_word c (words.word c)) (class_in words c == class c) (good_word c scalar)).0).1

  nonempty : (c : ℕ) → IsScalar c → 1 ≤ length (full c)
  nonempty c scalar =
      full_some words.scalars16 words.scalars24 c (words.word c)
      (⊎_elim (λ t. t) (λ outside. absurd (w.full_lists c scalar (inl outside))) (cases_Bool (is_inside_in words c)))

  bounded : (c : ℕ) → IsScalar c → length (full c) ≤ 8
  bounded c scalar = ⊎_elim (λ over. absurd (w.full_lists c scalar (inr (inl over)))) (λ h. h) (cases_lt 8 (length (full c)))

  item_scalar : (c d : ℕ) → IsScalar c → Contains (full c) d → IsScalar d
  item_scalar c d scalar h = scalar_stands d (λ no. w.full_lists c scalar (inr (inr (inl (d, h, λ own. no own.0)))))

  item_own : (c d : ℕ) → IsScalar c → Contains (full c) d → full d ≡ d ∷ []
  item_own c d scalar h = list_stands (full d) (d ∷ []) (λ ne. w.full_lists c scalar (inr (inr (inl (d, h, λ own. ne own.1)))))

  pub word_scalars : (c : ℕ) → IsScalar c → All IsScalar (full c)
  word_scalars c scalar = λ k d lt. item_scalar c _ scalar (All-contains_itself (full c) k d lt)

  joined : (c : ℕ) → IsScalar c → full c ≡ flat_map full (canonical_full c)
  joined c scalar = list_stands (full c) (flat_map full (canonical_full c)) (λ ne. w.full_lists c scalar (inr (inr (inr (inr ne)))))

  starts : (c d : ℕ) (ds : List ℕ) → IsScalar c → IsUnbound c → full c ≢ c ∷ [] → full c ≡ d ∷ ds → class d ≡ 0
  starts c d ds scalar unbound other is =
      ⊎_elim
      (λ states. ⊎_elim (λ zero. zero)
      (λ mark.
      let begins : begins_with_mark (canonical_of lists) (full c) ≡ true = ap (begins_with_mark (canonical_of lists)) is ∙ ap not (ne_eqb (class d) 0 mark) in
      absurd (w.full_lists c scalar (inr (inr (inr (inl (unbound, states, begins)))))))
      (cases_eq (class d) 0))
      (λ none. absurd (other (own_full words.scalars16 words.scalars24 c (words.word c) (word_is c scalar) (free_letter c unbound.0) (free_single c unbound.0) none)))
      (cases_Bool (states_list (words.word c)))

  fixed_is : (c : ℕ) → IsScalar c → (o : Option (List ℕ)) → fixed_list c ≡ o → IfSome o (λ list. full c ≡ list)
  fixed_is c scalar (Some list) e = list_stands (full c) list (λ ne. w.built_ins c scalar (list, e, ne))
  fixed_is c scalar None e = tt

  low_own : (c : ℕ) → c < 0xa0 → full c ≡ c ∷ []
  low_own c low =
      let free = low_free c (omega arith) in
      list_stands (full c) (c ∷ []) (λ ne. w.built_ins c (low_scalar c (omega arith)) (c ∷ [], fixed_low c (free_full c free) low, ne))

  paired : (x y z : ℕ) → (canonical_of lists).pair x y ≡ Some z → full z ≡ full x ++ full y
  paired x y z e =
      let both = canonical lists a in
      let mapped = both.composing.mapped x y z e in
      let scalar = both.composing.scalars x y z e in
      let parts : All IsScalar (x ∷ y ∷ []) = subst (All IsScalar) mapped (both.decomposing.scalars z scalar) in
      let first = All-head IsScalar x (y ∷ []) parts in
      let second = All-head IsScalar y [] (All-tail IsScalar x (y ∷ []) parts) in
      let left = left_double (canonical_of lists).step z x y (canonical_full x) (canonical_full y) mapped (full_left lists a x first) (full_left lists a y second) in
      let same : canonical_full z ≡ canonical_full x ++ canonical_full y =
      left_one (canonical_of lists).step (z ∷ []) (canonical_full z) (canonical_full x ++ canonical_full y) (full_left lists a z scalar) left in
      joined z scalar
      ∙ ap (flat_map full) same
      ∙ flat_map-append full (canonical_full x) (canonical_full y)
      ∙ ap (λ (t : List ℕ). t ++ flat_map full (canonical_full y)) (sym (joined x first))
      ∙ ap (λ (t : List ℕ). full x ++ t) (sym (joined y second))

  pub compatible : IsCompatibility (canonical_of lists) (compatibility_of lists words)
  compatible = record {
    class = λ c. refl;
    step = λ c. refl;
    pair = λ x y. refl;
    nonempty = nonempty;
    bounded = bounded;
    scalars = word_scalars;
    own = item_own;
    begins = starts;
    fixed = λ c scalar. fixed_is c scalar (fixed_list c) refl;
    low = low_own;
    lists = joined;
    pairs = paired;
  }
