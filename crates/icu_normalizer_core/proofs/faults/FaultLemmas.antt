-- Full lists that are bad, and steps that end: what is found of the first nine characters, and what it says of all.
use Rattle.std.proofs.Common.{◌≡◌, ℕ, zero, suc, ◌<◌, ◌≤◌, inl, inr, Bool, true, false, not, ◌==◌, ◌&&◌, List, [], ◌∷◌, length, take, slice_index, Option, None, Some, refl, sym, ap, subst, ◌∙◌, arith}
use Rattle.std.specs.Bool.{MatchBool}
use Rattle.std.specs.Option.{MatchOption}
use Rattle.std.proofs.lemmas.Bool.{false≢true, and_from, and_left, and_right}
use Rattle.icu_normalizer_core.specs.declared.canonical.check.left.Left.{Left}
use Rattle.icu_normalizer_core.specs.Canonical.{Canonical, Leaves, IsFree}
use Rattle.icu_normalizer_core.specs.CanonicalFaults.{begins_with_mark, LeavesOf, HasBadList, HasOtherList}
use Rattle.icu_normalizer_core.specs.CanonicalLists.{CanonicalLists, canonical_of, step_in}
use Rattle.icu_normalizer_core.specs.CanonicalWords.{is_inside, states_list, full_of_word}
use Rattle.icu_normalizer_core.specs.Settled.{left_items, IsLeftOf, LeavesOther}
use Rattle.icu_normalizer_core.proofs.settling.SettledLemmas.{cut_known, cut_short, cut_long}
use Rattle.icu_normalizer_core.proofs.accepted.TableMeanings.{step_is, full_is, step_in_free}
use Rattle.icu_normalizer_core.proofs.settling.LeftLemmas.{left_alone, left_one}
use Rattle.icu_normalizer_core.proofs.settling.TripleLemmas.{listed_none}
use Rattle.icu_normalizer_core.specs.Triples.{IsUnlisted}

-- steps by the tables' mappings and built-in ones
pub left_from : (lists : CanonicalLists) (c : ℕ) (list : List ℕ) → Leaves (step_in lists.steps) (c ∷ []) list → LeavesOf lists c list
left_from lists c list h = subst (λ (step : ℕ → List ℕ). Leaves step (c ∷ []) list) (sym (step_is lists)) h

pub left_to : (lists : CanonicalLists) (c : ℕ) (list : List ℕ) → LeavesOf lists c list → Leaves (step_in lists.steps) (c ∷ []) list
left_to lists c list h = subst (λ (step : ℕ → List ℕ). Leaves step (c ∷ []) list) (step_is lists) h

-- ---- Marks first

pub begins_cut : (canonical : Canonical) (n : ℕ) (xs : List ℕ) → begins_with_mark canonical (take (suc n) xs) ≡ begins_with_mark canonical xs
begins_cut canonical n [] = refl
begins_cut canonical n (x ∷ xs) = refl

pub begins_none : (canonical : Canonical) (n : ℕ) (xs : List ℕ) → n ≡ 0 → begins_with_mark canonical (take n xs) ≡ false
begins_none canonical n xs e = ap (λ (k : ℕ). begins_with_mark canonical (take k xs)) e

pub begins_some : (canonical : Canonical) (n : ℕ) (xs : List ℕ) → 0 < n → 0 < length xs
    → begins_with_mark canonical (take n xs) ≡ not (canonical.class (slice_index xs 0) == 0)
begins_some canonical n [] h some = absurd (omega arith)
begins_some canonical zero (x ∷ xs) h some = absurd (omega arith)
begins_some canonical (suc n) (x ∷ xs) h some = refl

-- ---- Full lists

module _ (lists : CanonicalLists) (c : ℕ) where
  abbrev full : List ℕ
  full = (canonical_of lists).full c

  abbrev canonical : Canonical
  canonical = canonical_of lists

  pub long_bad : (left : Left) → left_items left ≡ take 9 full → 8 < length (left_items left) → HasBadList lists c
  long_bad left is long = inr (inl (cut_long (left_items left) full is long))

  pub mark_bad : (left : Left) → left_items left ≡ take 9 full → states_list (lists.word c) ≡ true → begins_with_mark canonical (left_items left) ≡ true → HasBadList lists c
  mark_bad left is states begins =
      let mark : begins_with_mark canonical full ≡ true = sym (begins_cut canonical 8 full) ∙ ap (begins_with_mark canonical) (sym is) ∙ begins in
      inr (inr (inl (and_from (states_list (lists.word c)) (begins_with_mark canonical full) states mark)))

  pub none_begins : (left : Left) → left_items left ≡ take 9 full → begins_with_mark canonical (left_items left) ≡ false
      → (states_list (lists.word c) && begins_with_mark canonical full) ≡ false
  none_begins left is begins =
      and_right (states_list (lists.word c)) (begins_with_mark canonical full) (sym (begins_cut canonical 8 full) ∙ ap (begins_with_mark canonical) (sym is) ∙ begins)

  other_none : (left : Left) → length full ≤ 8 → left_items left ≡ take 9 full → IsLeftOf lists.steps (c ∷ []) left → HasOtherList lists c → ⊥
  other_none left short is all w = w.2 (cut_known full w.0 short (sym is ∙ all w.0 (left_to lists c w.0 w.1)))

  pub none_bad : (left : Left) → is_inside lists.scalars16 lists.scalars24 (lists.word c) ≡ true → length (left_items left) ≤ 8
      → (states_list (lists.word c) && begins_with_mark canonical full) ≡ false → left_items left ≡ take 9 full
      → IsLeftOf lists.steps (c ∷ []) left → HasBadList lists c → ⊥
  none_bad left inside short begins is all (inl outside) = false≢true (sym outside ∙ inside)
  none_bad left inside short begins is all (inr (inl over)) = let few = cut_short (left_items left) full is short in omega arith
  none_bad left inside short begins is all (inr (inr (inl mark))) = false≢true (sym begins ∙ mark)
  none_bad left inside short begins is all (inr (inr (inr other))) = other_none left (cut_short (left_items left) full is short) is all other

  pub other_bad : (left : Left) → left_items left ≡ take 9 full → LeavesOther lists.steps (c ∷ []) left → HasBadList lists c
  other_bad left is w = inr (inr (inr (w.0, left_from lists c w.0 w.1, λ same. w.2 (is ∙ ap (λ (xs : List ℕ). take 9 xs) same))))

-- a word that says nothing of a character that is not mapped
own_word : (s16 s24 : List ℕ) (c : ℕ) → full_of_word s16 s24 c 0 ≡ c ∷ []
unfolding full_of_word
own_word s16 s24 c = refl

own_inside : (s16 s24 : List ℕ) → is_inside s16 s24 0 ≡ true
unfolding is_inside
own_inside s16 s24 = refl

own_states : states_list 0 ≡ false
own_states = refl

module _ (lists : CanonicalLists) (c : ℕ) (says_none : lists.word c ≡ 0) (free : IsFree c) (unlisted : IsUnlisted lists.steps c) where
  own_is : (canonical_of lists).full c ≡ c ∷ []
  own_is = full_is lists c ∙ ap (λ (w : ℕ). full_of_word lists.scalars16 lists.scalars24 c w) says_none ∙ own_word lists.scalars16 lists.scalars24 c

  own_left : Leaves (step_in lists.steps) (c ∷ []) (c ∷ [])
  own_left = left_alone (step_in lists.steps) c (step_in_free lists.steps c free ∙ listed_none lists.steps c unlisted)

  pub own_good : HasBadList lists c → ⊥
  own_good (inl outside) =
      false≢true (sym outside ∙ ap (λ (w : ℕ). is_inside lists.scalars16 lists.scalars24 w) says_none ∙ own_inside lists.scalars16 lists.scalars24)
  own_good (inr (inl over)) = let e = ap (λ (xs : List ℕ). length xs) own_is in omega (arith, e, over)
  own_good (inr (inr (inl mark))) =
      false≢true
      (sym (and_left (states_list (lists.word c)) (begins_with_mark (canonical_of lists) ((canonical_of lists).full c)) (ap (λ (w : ℕ). states_list w) says_none ∙ own_states)) ∙ mark)
  own_good (inr (inr (inr w))) = w.2 (own_is ∙ left_one (step_in lists.steps) (c ∷ []) (c ∷ []) w.0 own_left (left_to lists c w.0 w.1))

-- ---- What is found, said otherwise

pub option_through : {P R : Type 0} {Q S : ℕ → Type 0} (o : Option ℕ) → (P → R) → ((c : ℕ) → Q c → S c) → MatchOption o P Q → MatchOption o R S
option_through None f g h = f h
option_through (Some c) f g h = g c h

pub bool_through : {P Q R S : Type 0} (b : Bool) → (P → R) → (Q → S) → MatchBool b P Q → MatchBool b R S
bool_through true f g h = f h
bool_through false f g h = g h

pub bool_tells : {P Q : Type 0} (b : Bool) → MatchBool b P Q → (b ≡ true → P) × (b ≡ false → Q)
bool_tells true h = (λ yes. h, λ off. absurd (false≢true (sym off)))
bool_tells false h = (λ off. absurd (false≢true off), λ no. h)

pub bool_from : {P Q : Type 0} (b : Bool) → (b ≡ true → P) → ((b ≡ true → ⊥) → Q) → MatchBool b P Q
bool_from true f g = f refl
bool_from false f g = g (λ off. false≢true off)
