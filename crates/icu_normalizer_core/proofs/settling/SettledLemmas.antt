-- Lists cut to nine, and what is settled.
use Rattle.std.proofs.Common.{◌≡◌, ℕ, zero, suc, ◌+◌, ◌<◌, ◌≤◌, inl, inr, ⊎_elim, List, [], ◌∷◌, ◌++◌, length, take, slice_index, Option, None, Some, true, false, refl, sym, ap, subst, ◌∙◌, append_assoc, arith}
use Rattle.std.proofs.lemmas.List.{append-nil, length-take, length-take-le, take_all, take_more}
use Rattle.icu_normalizer_core.specs.declared.canonical.check.left.Left.{Left}
use Rattle.icu_normalizer_core.specs.BuiltIn.{is_syllable, singled_out, built_in_step}
use Rattle.icu_normalizer_core.specs.Canonical.{Leaves, mapped}
use Rattle.icu_normalizer_core.specs.CanonicalLists.{step_in}
use Rattle.icu_normalizer_core.specs.CanonicalWords.{syllable_letters}
use Rattle.icu_normalizer_core.specs.Settled.{left_items, IsStartOf, IsOpen, IsAmong, IsStuck}
use Rattle.icu_normalizer_core.proofs.settling.LeftLemmas.{left_alone, left_append}
use Rattle.icu_normalizer_core.proofs.accepted.TableMeanings.{step_in_built_in}
use Rattle.icu_normalizer_core.proofs.built.BuiltInFacts.{all_singled_out, built_in_cases, syllable_left}

-- ---- Lists cut

cut_again : (n m : ℕ) (ys : List ℕ) → n ≤ m → take n (take m ys) ≡ take n ys
cut_again zero m ys h = refl
cut_again (suc n) zero ys h = absurd (omega arith)
cut_again (suc n) (suc m) [] h = refl
cut_again (suc n) (suc m) (y ∷ ys) h = ap (λ (t : List ℕ). y ∷ t) (cut_again n m ys (omega arith))

cut_parts : (n m k : ℕ) (xs ys : List ℕ) → n ≤ m → n ≤ k → take n (take k xs ++ take m ys) ≡ take n (xs ++ ys)
cut_parts zero m k xs ys h g = refl
cut_parts (suc n) m zero xs ys h g = absurd (omega arith)
cut_parts (suc n) m (suc k) [] ys h g = cut_again (suc n) m ys h
cut_parts (suc n) m (suc k) (x ∷ xs) ys h g = ap (λ (t : List ℕ). x ∷ t) (cut_parts n m k xs ys (omega arith) (omega arith))

pub cut_joined : (xs ys : List ℕ) → take 9 (take 9 xs ++ take 9 ys) ≡ take 9 (xs ++ ys)
cut_joined xs ys = cut_parts 9 9 9 xs ys (omega arith) (omega arith)

take_nothing : (m : ℕ) → take {A = ℕ} m [] ≡ []
take_nothing zero = refl
take_nothing (suc m) = refl

pub cut_front : (n k : ℕ) (xs ys : List ℕ) → n ≤ k → take n (take k xs ++ ys) ≡ take n (xs ++ ys)
cut_front zero k xs ys h = refl
cut_front (suc n) zero xs ys h = absurd (omega arith)
cut_front (suc n) (suc k) [] ys h = refl
cut_front (suc n) (suc k) (x ∷ xs) ys h = ap (λ (t : List ℕ). x ∷ t) (cut_front n k xs ys (omega arith))

cut_within : (m n : ℕ) (xs : List ℕ) → n ≤ m → take m (take n xs) ≡ take n xs
cut_within m zero xs h = take_nothing m
cut_within zero (suc n) xs h = absurd (omega arith)
cut_within (suc m) (suc n) [] h = refl
cut_within (suc m) (suc n) (x ∷ xs) h = ap (λ (t : List ℕ). x ∷ t) (cut_within m n xs (omega arith))

pub cut_begun : (n : ℕ) (xs : List ℕ) → n ≤ 9 → take n xs ≡ take 9 (take n xs ++ [])
cut_begun n xs h = sym (cut_within 9 n xs h) ∙ ap (take 9) (sym (append-nil (take n xs)))

-- one more of the second list
pub cut_more : (first second old new : List ℕ) (i : ℕ) → i < length second → old ≡ take 9 (first ++ take i second)
    → new ≡ take 9 (old ++ slice_index second i ∷ []) → new ≡ take 9 (first ++ take (i + 1) second)
cut_more first second old new i h is more =
    more ∙ ap (λ (t : List ℕ). take 9 (t ++ slice_index second i ∷ [])) is
    ∙ cut_front 9 9 (first ++ take i second) (slice_index second i ∷ []) (omega arith)
    ∙ ap (take 9) (append_assoc first (take i second) (slice_index second i ∷ []))
    ∙ ap (λ (t : List ℕ). take 9 (first ++ t)) (sym (take_more second i 0 h))

-- a list of at most eight is known by its first nine
pub cut_known : (xs ys : List ℕ) → length xs ≤ 8 → take 9 xs ≡ take 9 ys → xs ≡ ys
cut_known xs ys short e =
    let first : take 9 xs ≡ xs = take_all 9 xs (omega arith) in
    let same : take 9 ys ≡ xs = sym e ∙ first in
    let most : length ys ≤ 8 = let n = length-take 9 ys in let m = ap (λ (zs : List ℕ). length zs) same in omega (arith, n, m) in
    sym same ∙ take_all 9 ys (omega arith)

-- and so is whether it has at most eight
pub cut_short : (xs ys : List ℕ) → xs ≡ take 9 ys → length xs ≤ 8 → length ys ≤ 8
cut_short xs ys e h = let n = length-take 9 ys in let m = ap (λ (zs : List ℕ). length zs) e in omega (arith, n, m)

pub cut_long : (xs ys : List ℕ) → xs ≡ take 9 ys → 8 < length xs → 8 < length ys
cut_long xs ys e h = let n = length-take 9 ys in let m = ap (λ (zs : List ℕ). length zs) e in omega (arith, n, m)

-- how many characters a cut list has
pub left_count : (left : Left) → length left.characters ≡ 9 → length (left_items left) ≡ left.count
left_count left e = let h = left.fits in length-take-le left.count left.characters (omega arith)

-- ---- What is settled is right

pub start_alone : (steps : List ℕ) (c : ℕ) (left : Left) → step_in steps c ≡ [] → left_items left ≡ c ∷ [] → IsStartOf steps (c ∷ []) left
start_alone steps c left none is = (c ∷ [], left_alone (step_in steps) c none, is)

pub start_joined : (steps : List ℕ) (xs ys : List ℕ) (a b both : Left) → IsStartOf steps xs a → IsStartOf steps ys b
    → left_items both ≡ take 9 (left_items a ++ left_items b) → IsStartOf steps (xs ++ ys) both
start_joined steps xs ys a b both s t is = (
  s.0 ++ t.0,
  left_append (step_in steps) xs ys s.0 t.0 s.1 t.1,
  is ∙ ap (λ (u : List ℕ). take 9 (u ++ left_items b)) s.2 ∙ ap (λ (u : List ℕ). take 9 (take 9 s.0 ++ u)) t.2 ∙ cut_joined s.0 t.0,
)

-- of a mapped character it is that of its mapping
pub start_mapped : (steps : List ℕ) (c d : ℕ) (ds : List ℕ) (left : Left) → step_in steps c ≡ d ∷ ds → IsStartOf steps (d ∷ ds) left → IsStartOf steps (c ∷ []) left
start_mapped steps c d ds left leads s = (
  s.0,
  mapped c d ds [] s.0 leads (subst (λ (t : List ℕ). Leaves (step_in steps) t s.0) (sym (append-nil (d ∷ ds))) s.1),
  s.2,
)

pub start_letters : (steps : List ℕ) (c : ℕ) (left : Left) → is_syllable c ≡ true → left_items left ≡ syllable_letters c
    → length (syllable_letters c) ≤ 9 → IsStartOf steps (c ∷ []) left
start_letters steps c left syllable is short =
    (syllable_letters c, syllable_left (step_in steps) (step_in_built_in steps) c syllable, is ∙ sym (take_all 9 (syllable_letters c) short))

-- ---- The seven map to characters without a built-in mapping

abbrev AreFree : ℕ → List ℕ → Type 0
AreFree c [] = Unit {0}
AreFree c (d ∷ ds) = (built_in_step d ≡ None) × AreFree c ds

singled_free : (c : ℕ) (ds : List ℕ) → singled_out c ≡ Some ds → AreFree c ds
unfolding built_in_step singled_out
singled_free = all_singled_out AreFree (refl, tt) (refl, tt) (refl, tt) (refl, (refl, tt)) (refl, (refl, tt)) (refl, (refl, tt)) (refl, (refl, tt))

-- what a character that is no syllable is mapped to by what is built in is not built in
pub built_in_free : (c : ℕ) (ds : List ℕ) → built_in_step c ≡ Some ds → is_syllable c ≡ false → AreFree c ds
built_in_free c ds e f =
    ⊎_elim
    (λ w. let off : true ≡ false = sym w.0 ∙ f in absurd cc)
    (λ w. ⊎_elim (λ none. subst (AreFree c) (sym none) tt) (λ one. singled_free c ds one) w)
    (built_in_cases c ds e)

-- ---- Characters with a built-in mapping

pub single_left : (steps : List ℕ) (c a : ℕ) (left : Left) → built_in_step c ≡ Some (a ∷ []) → IsStartOf steps (a ∷ []) left → IsStartOf steps (c ∷ []) left
single_left steps c a left e s = start_mapped steps c a [] left (step_in_built_in steps c (a ∷ []) e) s

pub double_left : (steps : List ℕ) (c a b : ℕ) (first second both : Left) → built_in_step c ≡ Some (a ∷ b ∷ []) → IsStartOf steps (a ∷ []) first
    → IsStartOf steps (b ∷ []) second → left_items both ≡ take 9 (left_items first ++ left_items second) → IsStartOf steps (c ∷ []) both
double_left steps c a b first second both e s t is =
    start_mapped steps c a (b ∷ []) both (step_in_built_in steps c (a ∷ b ∷ []) e) (start_joined steps (a ∷ []) (b ∷ []) first second both s t is)

pub single_stuck : (steps : List ℕ) (settled : List (Option Left)) (c a : ℕ) → built_in_step c ≡ Some (a ∷ []) → IsOpen steps settled a → IsStuck steps settled c
single_stuck steps settled c a e o = inr (a, subst (λ (t : List ℕ). IsAmong t a) (sym (step_in_built_in steps c (a ∷ []) e)) (inl refl), o)

pub first_stuck : (steps : List ℕ) (settled : List (Option Left)) (c a b : ℕ) → built_in_step c ≡ Some (a ∷ b ∷ []) → IsOpen steps settled a → IsStuck steps settled c
first_stuck steps settled c a b e o = inr (a, subst (λ (t : List ℕ). IsAmong t a) (sym (step_in_built_in steps c (a ∷ b ∷ []) e)) (inl refl), o)

pub second_stuck : (steps : List ℕ) (settled : List (Option Left)) (c a b : ℕ) → built_in_step c ≡ Some (a ∷ b ∷ []) → IsOpen steps settled b → IsStuck steps settled c
second_stuck steps settled c a b e o = inr (b, subst (λ (t : List ℕ). IsAmong t b) (sym (step_in_built_in steps c (a ∷ b ∷ []) e)) (inr (inl refl)), o)
