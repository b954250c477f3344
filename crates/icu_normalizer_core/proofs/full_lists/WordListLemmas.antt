-- Full lists that are good by what is found of their first nine characters, and those of words that say nothing.
use Rattle.std.proofs.Common.{◌≡◌, ℕ, ◌≤◌, inl, inr, true, false, List, [], ◌∷◌, length, take, flat_map, refl, sym, ap, subst, ◌∙◌, arith}
use Rattle.std.specs.List.{Contains}
use Rattle.std.specs.Char.{IsScalar}
use Rattle.std.proofs.lemmas.Bool.{false≢true}
use Rattle.std.proofs.lemmas.List.{take_all, append-nil}
use Rattle.std.proofs.lemmas.List.Concat.{flat_map-cons}
use Rattle.std.proofs.lemmas.List.Elements.{All-nil, All-cons, All-contains}
use Rattle.icu_normalizer_core.specs.CanonicalFaults.{begins_with_mark}
use Rattle.icu_normalizer_core.specs.CanonicalLists.{CanonicalLists, canonical_of}
use Rattle.icu_normalizer_core.specs.CanonicalWords.{is_inside, states_list, full_of_word}
use Rattle.icu_normalizer_core.specs.Compatibility.{IsUnbound}
use Rattle.icu_normalizer_core.specs.CompatibilityFaults.{OffendsWordList, HasOtherItem, IsOwnItem}
use Rattle.icu_normalizer_core.specs.Words.{WordLists, full_in, is_inside_in}
use Rattle.icu_normalizer_core.proofs.faults.FaultLemmas.{begins_cut}
use Rattle.icu_normalizer_core.proofs.settling.SettledLemmas.{cut_known, cut_short}
use Rattle.icu_normalizer_core.proofs.accepted.TableMeanings.{full_is}

-- at most eight of the first nine are all
pub start_whole : (start full : List ℕ) → start ≡ take 9 full → length start ≤ 8 → full ≡ start
start_whole start full is few = cut_known full start (cut_short start full is few) (sym is ∙ sym (take_all 9 start (omega arith)))

module _ (lists : CanonicalLists) (words : WordLists) (c : ℕ) where
  abbrev full : List ℕ
  full = full_in words c

  abbrev joined : List ℕ
  joined = flat_map (full_in words) ((canonical_of lists).full c)

  -- what is found of the first nine characters
  pub record IsFound (start : List ℕ) : Type 0 where
    pub inside : is_inside_in words c ≡ true
    pub is : start ≡ take 9 full
    pub short : length start ≤ 8
    pub items : HasOtherItem words start → ⊥
    pub begins : IsUnbound c × (states_list (words.word c) ≡ true) × (begins_with_mark (canonical_of lists) start ≡ true) → ⊥
    pub same : start ≡ take 9 joined

  pub found_good : (start : List ℕ) → IsFound start → OffendsWordList lists words c → ⊥
  found_good start f (inl outside) = false≢true (sym outside ∙ f.inside)
  found_good start f (inr (inl over)) = let few = cut_short start full f.is f.short in omega arith
  found_good start f (inr (inr (inl other))) =
      f.items (subst (HasOtherItem words) (start_whole start full f.is f.short) other)
  found_good start f (inr (inr (inr (inl begins)))) =
      f.begins (begins.0, begins.1, ap (begins_with_mark (canonical_of lists)) f.is ∙ begins_cut (canonical_of lists) 8 full ∙ begins.2)
  found_good start f (inr (inr (inr (inr other)))) = other (cut_known full joined (cut_short start full f.is f.short) (sym f.is ∙ f.same))

-- a word that says nothing
own_word : (s16 s24 : List ℕ) (c : ℕ) → full_of_word s16 s24 c 0 ≡ c ∷ []
unfolding full_of_word
own_word s16 s24 c = refl

own_inside : (s16 s24 : List ℕ) → is_inside s16 s24 0 ≡ true
unfolding is_inside
own_inside s16 s24 = refl

module _ (lists : CanonicalLists) (words : WordLists) (c : ℕ) (scalar : IsScalar c) (says_none : words.word c ≡ 0) (neither : lists.word c ≡ 0) where
  own_is : full_in words c ≡ c ∷ []
  own_is = ap (λ (w : ℕ). full_of_word words.scalars16 words.scalars24 c w) says_none ∙ own_word words.scalars16 words.scalars24 c

  canonical_is : (canonical_of lists).full c ≡ c ∷ []
  canonical_is = full_is lists c ∙ ap (λ (w : ℕ). full_of_word lists.scalars16 lists.scalars24 c w) neither ∙ own_word lists.scalars16 lists.scalars24 c

  joined_is : flat_map (full_in words) ((canonical_of lists).full c) ≡ full_in words c
  joined_is = ap (flat_map (full_in words)) canonical_is ∙ flat_map-cons (full_in words) c [] ∙ append-nil (full_in words c)

  item_own : (d : ℕ) → Contains (c ∷ []) d → IsOwnItem words d
  item_own d h = subst (IsOwnItem words) (All-contains (λ (e : ℕ). c ≡ e) (c ∷ []) d (All-cons (λ (e : ℕ). c ≡ e) c [] refl (All-nil (λ (e : ℕ). c ≡ e))) h) (scalar, own_is)

  pub plain_good : OffendsWordList lists words c → ⊥
  plain_good (inl outside) =
      false≢true (sym outside ∙ ap (λ (w : ℕ). is_inside words.scalars16 words.scalars24 w) says_none ∙ own_inside words.scalars16 words.scalars24)
  plain_good (inr (inl over)) = let e = ap (λ (xs : List ℕ). length xs) own_is in omega (arith, e, over)
  plain_good (inr (inr (inl other))) = other.2 (item_own other.0 (subst (λ (xs : List ℕ). Contains xs other.0) own_is other.1))
  plain_good (inr (inr (inr (inl begins)))) = let none : states_list 0 ≡ false = refl in false≢true (sym none ∙ ap (λ (w : ℕ). states_list w) (sym says_none) ∙ begins.1)
  plain_good (inr (inr (inr (inr other)))) = other (sym joined_is)

  -- both words say that the character is its own full list
  pub plain_same : full_in words c ≡ (canonical_of lists).full c
  plain_same = own_is ∙ sym canonical_is
