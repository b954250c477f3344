-- What accepted tables mean keeps the promises of canonical data.
use Rattle.std.proofs.Common.{◌≡◌, ◌≢◌, ℕ, suc, ◌+◌, ◌-◌, ◌*◌, ◌<◌, ◌≤◌, ◌⊎◌, inl, inr, ⊎_elim, not, ◌==◌, ◌||◌, List, [], ◌∷◌, length, slice_index, true, false, Option, Some, None, refl, sym, ap, ◌∙◌, arith, subst}
use Rattle.std.specs.Option.{IfSome, unwrap_or}
use Rattle.std.specs.List.{All, Contains}
use Rattle.std.specs.Char.{IsScalar}
use Rattle.std.proofs.lemmas.Bool.{and_parts, leb-true, and_from, and_right, cases_Bool, cases_lt, cases_eq, cond-true, cond-false, ne_eqb, or_left, or_right}
use Rattle.std.proofs.lemmas.Bool.Decides.{eqb_tells, nat_tests}
use Rattle.std.proofs.lemmas.Option.{none-some}
use Rattle.std.proofs.lemmas.List.Elements.{All-nil, All-cons}
use Rattle.icu_normalizer_core.specs.BuiltIn.{is_syllable, is_jamo, singled_out, built_in_step, built_in_class}
use Rattle.icu_normalizer_core.specs.Canonical.{Leaves, IsFree, IsDecomposing}
use Rattle.icu_normalizer_core.specs.CanonicalWords.{is_word, states_list, is_mark_word, is_singled_word, class_of_word, full_of_word}
use Rattle.icu_normalizer_core.specs.CanonicalLists.{CanonicalLists, listed_step, mapping, canonical_of}
use Rattle.icu_normalizer_core.specs.CanonicalFaults.{IsAccepted, begins_with_mark}
use Rattle.icu_normalizer_core.proofs.accepted.AcceptedForms.{accepted_triples, eq_stands}
use Rattle.icu_normalizer_core.proofs.accepted.TableMeanings.{class_is, full_is, step_built_in, step_free}
use Rattle.icu_normalizer_core.proofs.settling.LeftLemmas.{unmapped_itself, left_scalars}
use Rattle.icu_normalizer_core.proofs.settling.TripleLemmas.{further}
use Rattle.icu_normalizer_core.proofs.built.BuiltInFacts.{small_class, class_scalar, built_in_short, built_in_left, syllable_mapped, singled_mapped}

-- lists are equal where they can't differ
pub list_stands : (xs ys : List ℕ) → ((xs ≢ ys) → ⊥) → xs ≡ ys
list_stands [] [] h = refl
list_stands [] (y ∷ ys) h = absurd (h (λ e. cc))
list_stands (x ∷ xs) [] h = absurd (h (λ e. cc))
list_stands (x ∷ xs) (y ∷ ys) h =
    let first : x ≡ y = eq_stands x y (λ ne. h (λ e. ne (cc))) in
    let rest : xs ≡ ys = list_stands xs ys (λ ne. h (λ e. ne (cc))) in
    cc

pub cases_step : (o : Option (List ℕ)) → (o ≡ None) ⊎ ((ds : List ℕ) × (o ≡ Some ds))
cases_step None = inl refl
cases_step (Some ds) = inr (ds, refl)

pub cases_list : (xs : List ℕ) → (xs ≡ []) ⊎ ((d : ℕ) × (ds : List ℕ) × (xs ≡ d ∷ ds))
cases_list [] = inl refl
cases_list (d ∷ ds) = inr (d, ds, refl)

-- ---- Mappings of triples

mapping_short : (a b : ℕ) → length (mapping a b) ≤ 2
mapping_short a b = ⊎_elim (λ w. omega (arith, ap length (cond-true (b == 0x110000) (a ∷ []) (a ∷ b ∷ []) w.0))) (λ w. omega (arith, ap length (cond-false (b == 0x110000) (a ∷ []) (a ∷ b ∷ []) w.0))) (eqb_tells b 0x110000)

mapping_scalars : (a b : ℕ) → IsScalar a → (b ≢ 0x110000 → IsScalar b) → All IsScalar (mapping a b)
mapping_scalars a b s t =
    ⊎_elim
    (λ w. subst (All IsScalar) (sym (cond-true (b == 0x110000) (a ∷ []) (a ∷ b ∷ []) w.0)) (All-cons IsScalar a [] s (All-nil IsScalar)))
    (λ w. subst (All IsScalar) (sym (cond-false (b == 0x110000) (a ∷ []) (a ∷ b ∷ []) w.0)) (All-cons IsScalar a (b ∷ []) s (All-cons IsScalar b [] (t w.1) (All-nil IsScalar))))
    (eqb_tells b 0x110000)

listed_short : (steps : List ℕ) (c : ℕ) → length (listed_step steps c) ≤ 2
unfolding listed_step
listed_short [] c = omega arith
listed_short (k ∷ []) c = omega arith
listed_short (k ∷ a ∷ []) c = omega arith
listed_short (k ∷ a ∷ b ∷ rest) c =
    ⊎_elim
    (λ t. subst (λ (xs : List ℕ). length xs ≤ 2) (sym (cond-true (k == c) (mapping a b) (listed_step rest c) t)) (mapping_short a b))
    (λ f. subst (λ (xs : List ℕ). length xs ≤ 2) (sym (cond-false (k == c) (mapping a b) (listed_step rest c) f)) (listed_short rest c))
    (cases_Bool (k == c))

-- the characters that triples map to
pub record AreTargets (steps : List ℕ) : Type 0 where
  pub firsts : (i : ℕ) → 3 * i < length steps → IsScalar (slice_index steps (3 * i + 1))
  pub seconds : (i : ℕ) → 3 * i < length steps → slice_index steps (3 * i + 2) ≢ 0x110000 → IsScalar (slice_index steps (3 * i + 2))

targets_behind : (k a b : ℕ) (rest : List ℕ) → AreTargets (k ∷ a ∷ b ∷ rest) → AreTargets rest
targets_behind k a b rest t = record {
  firsts = λ i h. subst IsScalar (further k a b rest i 1) (t.firsts (suc i) (omega arith));
  seconds = λ i h some. subst IsScalar (further k a b rest i 2) (t.seconds (suc i) (omega arith) (λ e. some (sym (further k a b rest i 2) ∙ e)));
}

pub listed_scalars : (steps : List ℕ) (c : ℕ) → AreTargets steps → All IsScalar (listed_step steps c)
unfolding listed_step
listed_scalars [] c t = All-nil IsScalar
listed_scalars (k ∷ []) c t = All-nil IsScalar
listed_scalars (k ∷ a ∷ []) c t = All-nil IsScalar
listed_scalars (k ∷ a ∷ b ∷ rest) c t =
    ⊎_elim
    (λ yes. subst (All IsScalar) (sym (cond-true (k == c) (mapping a b) (listed_step rest c) yes)) (mapping_scalars a b (t.firsts 0 (omega arith)) (t.seconds 0 (omega arith))))
    (λ no. subst (All IsScalar) (sym (cond-false (k == c) (mapping a b) (listed_step rest c) no)) (listed_scalars rest c (targets_behind k a b rest t)))
    (cases_Bool (k == c))

-- ---- Words

pub free_letter : (c : ℕ) → built_in_step c ≡ None → is_syllable c ≡ false
free_letter c free = ⊎_elim (λ t. absurd (none-some _ (sym free ∙ syllable_mapped c t))) (λ f. f) (cases_Bool (is_syllable c))

pub free_single : (c : ℕ) → built_in_step c ≡ None → singled_out c ≡ None
free_single c free = ⊎_elim (λ none. none) (λ some. absurd (none-some some.0 (sym free ∙ singled_mapped c some.0 some.1))) (cases_step (singled_out c))

-- the word of a character without a built-in mapping states a list, or the character is its own full list
pub own_full : (s16 s24 : List ℕ) (c w : ℕ) → is_word c w ≡ true → is_syllable c ≡ false → singled_out c ≡ None → states_list w ≡ false
    → full_of_word s16 s24 c w ≡ c ∷ []
unfolding is_word full_of_word
own_full s16 s24 c w is letter single states = grind (arith, nat_tests, single, letter, states)

-- a word that states a list says no class
stating_class : (c w : ℕ) → states_list w ≡ true → class_of_word c w ≡ 0
unfolding class_of_word
stating_class c w states = grind (arith, nat_tests)

unwrapped_small : (c : ℕ) (o : Option ℕ) → built_in_class c ≡ o → unwrap_or o 0 < 255
unwrapped_small c None e = omega arith
unwrapped_small c (Some k) e = small_class c k e

class_small : (c w : ℕ) → class_of_word c w < 255
unfolding class_of_word
class_small c w =
    ⊎_elim
    (λ t. let h = and_parts _ _ t in
    let top : w ≤ 0xd8fe = leb-true w 0xd8fe h.1 in
    subst (λ (k : ℕ). k < 255) (sym (cond-true (is_mark_word w) (w - 0xd800) _ t)) (omega arith))
    (λ f. ⊎_elim
    (λ t. subst (λ (k : ℕ). k < 255) (sym (cond-false (is_mark_word w) _ _ f ∙ cond-true (is_singled_word w) _ 0 t)) (unwrapped_small c (built_in_class c) refl))
    (λ g. subst (λ (k : ℕ). k < 255) (sym (cond-false (is_mark_word w) _ _ f ∙ cond-false (is_singled_word w) _ 0 g)) (omega arith))
    (cases_Bool (is_singled_word w)))
    (cases_Bool (is_mark_word w))

module _ (lists : CanonicalLists) (a : IsAccepted lists) where
  abbrev step : ℕ → List ℕ
  step = (canonical_of lists).step

  abbrev full : ℕ → List ℕ
  full = (canonical_of lists).full

  abbrev class : ℕ → ℕ
  class = (canonical_of lists).class

  -- the word of a character has one of the forms
  word_is : (c : ℕ) → IsScalar c → is_word c (lists.word c) ≡ true
  word_is c scalar =
      ⊎_elim (λ t. t) (λ f. absurd (a.values c scalar (and_right (lists.has_word c) (is_word c (lists.word c)) f))) (cases_Bool (is_word c (lists.word c)))

  step_targets : AreTargets lists.steps
  step_targets = let t = accepted_triples lists a in record { firsts = t.firsts; seconds = t.seconds }

  pub step_scalars : (c : ℕ) → All IsScalar (step c)
  step_scalars c =
      ⊎_elim
      (λ free. subst (All IsScalar) (sym (step_free lists c free)) (listed_scalars lists.steps c step_targets))
      (λ b. subst (All IsScalar) (sym (step_built_in lists c b.0 b.1)) (built_in_short c b.0 b.1).0)
      (cases_step (built_in_step c))

  step_short : (c : ℕ) → length (step c) ≤ 2
  step_short c =
      ⊎_elim
      (λ free. subst (λ (xs : List ℕ). length xs ≤ 2) (sym (step_free lists c free)) (listed_short lists.steps c))
      (λ b. subst (λ (xs : List ℕ). length xs ≤ 2) (sym (step_built_in lists c b.0 b.1)) (built_in_short c b.0 b.1).1)
      (cases_step (built_in_step c))

  -- steps from a character without a built-in mapping leave its full list
  free_left : (c : ℕ) → IsScalar c → IsFree c → Leaves step (c ∷ []) (full c)
  free_left c scalar free =
      let e = a.ends c scalar in
      let same : full c ≡ e.0 = list_stands (full c) e.0 (λ ne. a.full_lists c scalar (inr (free, inr (inr (inr (e.0, e.1, ne)))))) in
      subst (λ (xs : List ℕ). Leaves step (c ∷ []) xs) (sym same) e.1

  own_list : (c : ℕ) → IsScalar c → IsFree c → states_list (lists.word c) ≡ false → full c ≡ c ∷ []
  own_list c scalar free states =
      full_is lists c ∙ own_full lists.scalars16 lists.scalars24 c (lists.word c) (word_is c scalar) (free_letter c free) (free_single c free) states

  -- the word of a mapped character states a list
  mapped_states : (c d : ℕ) (ds : List ℕ) → IsScalar c → IsFree c → step c ≡ d ∷ ds → states_list (lists.word c) ≡ true
  mapped_states c d ds scalar free leads =
      ⊎_elim (λ t. t)
      (λ f.
      let left = subst (λ (xs : List ℕ). Leaves step (c ∷ []) xs) (own_list c scalar free f) (free_left c scalar free) in
      let none : step c ≡ [] = unmapped_itself step c left in
      let off : [] ≡ d ∷ ds = sym none ∙ leads in absurd cc)
      (cases_Bool (states_list (lists.word c)))

  mapped_starter : (c d : ℕ) (ds : List ℕ) → IsScalar c → IsFree c → step c ≡ d ∷ ds → class c ≡ 0
  mapped_starter c d ds scalar free leads = class_is lists c ∙ stating_class c (lists.word c) (mapped_states c d ds scalar free leads)

  built_class : (c k : ℕ) → built_in_class c ≡ Some k → class c ≡ k
  built_class c k e = eq_stands (class c) k (λ ne. a.built_ins c (class_scalar c k e) (inl (k, e, ne)))

  marks_unmapped : (c k : ℕ) → built_in_class c ≡ Some k → 0 < k → built_in_step c ≡ None → step c ≡ []
  marks_unmapped c k e above free =
      ⊎_elim (λ none. none)
      (λ m. let zero = mapped_starter c m.0 m.1 (class_scalar c k e) free m.2 in let same = built_class c k e in absurd (omega (arith, zero, same)))
      (cases_list (step c))

  -- the full list of a character with a built-in mapping
  record IsBuiltInList (c : ℕ) : Type 0 where
    left : Leaves step (c ∷ []) (full c)
    short : length (full c) ≤ 3

  built_list : (c : ℕ) (ds : List ℕ) → IsScalar c → built_in_step c ≡ Some ds → IsBuiltInList c
  built_list c ds scalar e =
      let b = built_in_left step (step_built_in lists) marks_unmapped c ds e in
      let same : full c ≡ b.list = list_stands (full c) b.list (λ ne. a.built_ins c scalar (inr (inr (inl (b.list, b.is, inr ne))))) in
      record {
        left = subst (λ (xs : List ℕ). Leaves step (c ∷ []) xs) (sym same) b.left;
        short = subst (λ (xs : List ℕ). length xs ≤ 3) (sym same) b.short;
      }

  pub full_left : (c : ℕ) → IsScalar c → Leaves step (c ∷ []) (full c)
  full_left c scalar = ⊎_elim (λ free. free_left c scalar free) (λ b. (built_list c b.0 scalar b.1).left) (cases_step (built_in_step c))

  -- each character of a full list is a scalar value
  pub full_scalars : (c : ℕ) → IsScalar c → All IsScalar (full c)
  full_scalars c scalar = left_scalars step (c ∷ []) (full c) step_scalars (All-cons IsScalar c [] scalar (All-nil IsScalar)) (full_left c scalar)

  pub full_bounded : (c : ℕ) → IsScalar c → length (full c) ≤ 8
  full_bounded c scalar =
      ⊎_elim
      (λ free. ⊎_elim (λ over. absurd (a.full_lists c scalar (inr (free, inr (inl over))))) (λ h. h) (cases_lt 8 (length (full c))))
      (λ b. let short = (built_list c b.0 scalar b.1).short in omega arith)
      (cases_step (built_in_step c))

  list_begins : (c d : ℕ) (ds : List ℕ) → IsScalar c → IsFree c → step c ≡ d ∷ ds → (e : ℕ) (es : List ℕ) → full c ≡ e ∷ es → class e ≡ 0
  list_begins c d ds scalar free leads e es is =
      ⊎_elim (λ zero. zero)
      (λ mark.
      let states = mapped_states c d ds scalar free leads in
      let begins : begins_with_mark (canonical_of lists) (full c) ≡ true = ap (begins_with_mark (canonical_of lists)) is ∙ ap not (ne_eqb (class e) 0 mark) in
      absurd (a.full_lists c scalar (inr (free, inr (inr (inl (and_from (states_list (lists.word c)) (begins_with_mark (canonical_of lists) (full c)) states begins)))))))
      (cases_eq (class e) 0)

  no_letters : (c d : ℕ) → IsScalar c → IsFree c → Contains (step c) d → (is_jamo d ≡ false) × (is_syllable d ≡ false)
  no_letters c d scalar free h =
      let none : ((is_jamo d || is_syllable d) ≡ true) → ⊥ = λ e. a.built_ins c scalar (inr (inr (inr (inr (inr (free, (d, h, e))))))) in (
        ⊎_elim (λ t. absurd (none (or_left (is_jamo d) (is_syllable d) t))) (λ f. f) (cases_Bool (is_jamo d)),
        ⊎_elim (λ t. absurd (none (or_right (is_jamo d) (is_syllable d) t))) (λ f. f) (cases_Bool (is_syllable d)),
      )

  class_agrees : (c : ℕ) (o : Option ℕ) → built_in_class c ≡ o → IfSome o (λ k. class c ≡ k)
  class_agrees c (Some k) e = built_class c k e
  class_agrees c None e = tt

  step_agrees : (c : ℕ) (o : Option (List ℕ)) → built_in_step c ≡ o → IfSome o (λ ds. step c ≡ ds)
  step_agrees c (Some ds) e = step_built_in lists c ds e
  step_agrees c None e = tt

  pub decomposing : IsDecomposing (canonical_of lists)
  decomposing = record {
    classes = λ c scalar. subst (λ (k : ℕ). k < 255) (sym (class_is lists c)) (class_small c (lists.word c));
    built_in_classes = λ c. class_agrees c (built_in_class c) refl;
    built_in_steps = λ c. step_agrees c (built_in_step c) refl;
    short = λ c scalar. step_short c;
    scalars = λ c scalar. step_scalars c;
    starters = mapped_starter;
    letters = no_letters;
    ends = full_left;
    begins = list_begins;
    bounded = full_bounded;
  }
