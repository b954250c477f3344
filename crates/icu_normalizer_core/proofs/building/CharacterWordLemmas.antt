-- The word of each character says what it means.
use Rattle.std.proofs.Common.{◌≡◌, ℕ, ◌+◌, ◌<◌, ⊎_elim, Bool, true, false, ◌==◌, ◌&&◌, ◌||◌, List, [], ◌∷◌, zero, suc, length, slice_index, slice_index_or, Option, Some, None, refl, sym, ap, subst, ◌∙◌, arith}
use Rattle.std.specs.Option.{is_some, unwrap_or, IfSome}
use Rattle.std.proofs.lemmas.Bool.{cases_Bool, cond-true, cond-false}
use Rattle.std.proofs.lemmas.Bool.Decides.{nat_tests}
use Rattle.std.proofs.lemmas.Option.{none-some}
use Rattle.icu_normalizer_core.specs.BuiltIn.{is_syllable, is_jamo, singled_out, syllable_step, built_in_class}
use Rattle.icu_normalizer_core.specs.Canonical.{Leaves, IsFree}
use Rattle.icu_normalizer_core.specs.CanonicalLists.{step_in}
use Rattle.icu_normalizer_core.specs.CanonicalWords.{is_word, class_of_word, full_of_word, built_in_full, is_list_word, is_pair_word, is_one_word, is_mark_word, is_singled_word, states_list, syllable_letters}
use Rattle.icu_normalizer_core.specs.CharacterWords.{IsWordOf, IsListWord}
use Rattle.icu_normalizer_core.specs.Triples.{IsUnlisted}
use Rattle.icu_normalizer_core.proofs.built.BuiltInFacts.{all_singled_out, free_full, syllable_mapped, singled_mapped}
use Rattle.icu_normalizer_core.proofs.settling.LeftLemmas.{left_alone, left_one}
use Rattle.icu_normalizer_core.proofs.accepted.TableMeanings.{step_in_free, zero_form}
use Rattle.icu_normalizer_core.proofs.settling.TripleLemmas.{listed_none}
use Rattle.icu_normalizer_core.proofs.building.ListWordLemmas.{inside_apart}

-- ---- Syllables

full_syllable : (c : ℕ) → is_syllable c ≡ true → built_in_full c ≡ Some (syllable_letters c)
unfolding built_in_full
full_syllable c e = cond-true (is_syllable c) _ _ e

form_syllable : (c : ℕ) → is_syllable c ≡ true → is_word c 1 ≡ true
unfolding is_word
form_syllable c e = rw e refl

class_one : (c : ℕ) → class_of_word c 1 ≡ 0
unfolding class_of_word
class_one c = refl

pub full_of_one : (s24 : List ℕ) (c : ℕ) → full_of_word [] s24 c 1 ≡ syllable_letters c
unfolding full_of_word
full_of_one s24 c = refl

stands_for : (o : Option (List ℕ)) (list other : List ℕ) → o ≡ Some list → other ≡ list → IfSome o (λ l. other ≡ l)
stands_for o list other e is = rw e is

pub syllable_word : (class : ℕ) (steps s24 : List ℕ) (c : ℕ) → is_syllable c ≡ true → class ≡ 0 → IsWordOf class steps s24 c 1
syllable_word class steps s24 c e none = record {
  fits = omega arith;
  form = form_syllable c e;
  inside = inside_apart [] s24 1 refl;
  class = class_one c ∙ sym none;
  full = λ free. absurd (none-some (syllable_step c) (sym free ∙ syllable_mapped c e));
  built_in = stands_for (built_in_full c) (syllable_letters c) (full_of_word [] s24 c 1) (full_syllable c e) (full_of_one s24 c);
}

pub syllable_class : (c given : ℕ) → is_syllable c ≡ true → unwrap_or (built_in_class c) given ≡ 0
unfolding built_in_class
syllable_class c given e = grind (arith, nat_tests)

-- ---- The seven

record IsSingled (c : ℕ) (ds : List ℕ) : Type 0 where
  class : ℕ
  small : class < 255
  is : built_in_class c ≡ Some class
  full : built_in_full c ≡ Some ds

singled_facts : (c : ℕ) (ds : List ℕ) → singled_out c ≡ Some ds → IsSingled c ds
unfolding built_in_class built_in_full singled_out
singled_facts =
    all_singled_out IsSingled
    (record { class = 230; small = omega arith; is = refl; full = refl })
    (record { class = 230; small = omega arith; is = refl; full = refl })
    (record { class = 230; small = omega arith; is = refl; full = refl })
    (record { class = 230; small = omega arith; is = refl; full = refl })
    (record { class = 0; small = omega arith; is = refl; full = refl })
    (record { class = 0; small = omega arith; is = refl; full = refl })
    (record { class = 0; small = omega arith; is = refl; full = refl })

mark_singled : (class : ℕ) → class < 255 → is_mark_word (0xd900 + class) ≡ false
mark_singled class h = grind (arith, nat_tests)

within_singled : (class : ℕ) → class < 255 → is_singled_word (0xd900 + class) ≡ true
within_singled class h = grind (arith, nat_tests)

list_singled : (class : ℕ) → class < 255 → is_list_word (0xd900 + class) ≡ false
list_singled class h = grind (arith, nat_tests)

pair_singled : (class : ℕ) → class < 255 → is_pair_word (0xd900 + class) ≡ false
pair_singled class h = grind (arith, nat_tests)

one_singled : (class : ℕ) → class < 255 → is_one_word (0xd900 + class) ≡ false
one_singled class h = grind (arith, nat_tests)

not_one : (word : ℕ) → 1 < word → (word == 1) ≡ false
not_one word h = grind (arith, nat_tests)

form_singled : (c class : ℕ) → class < 255 → is_some (singled_out c) ≡ true → is_word c (0xd900 + class) ≡ true
unfolding is_word
form_singled c class h e = rw (e, within_singled class h) (or_before ((((0xd900 + class) == 0) || (((0xd900 + class) == 1) && is_syllable c)) || is_mark_word (0xd900 + class)) (states_list (0xd900 + class)))
  where
    or_before : (a f : Bool) → ((a || true) || f) ≡ true
    or_before true f = refl
    or_before false f = refl

class_singled : (c class : ℕ) → class < 255 → class_of_word c (0xd900 + class) ≡ unwrap_or (built_in_class c) 0
unfolding class_of_word
class_singled c class h = cond-false (is_mark_word (0xd900 + class)) _ _ (mark_singled class h) ∙ cond-true (is_singled_word (0xd900 + class)) _ _ (within_singled class h)

full_of_singled : (s24 : List ℕ) (c class : ℕ) → class < 255 → full_of_word [] s24 c (0xd900 + class) ≡ unwrap_or (singled_out c) (c ∷ [])
unfolding full_of_word
full_of_singled s24 c class h =
    cond-false (is_list_word (0xd900 + class)) _ _ (list_singled class h)
    ∙ cond-false (is_pair_word (0xd900 + class)) _ _ (pair_singled class h)
    ∙ cond-false (is_one_word (0xd900 + class)) _ _ (one_singled class h)
    ∙ cond-false ((0xd900 + class) == 1) _ _ (not_one (0xd900 + class) (omega arith))
    ∙ cond-true (is_singled_word (0xd900 + class)) _ _ (within_singled class h)

singled_by : (class given : ℕ) (steps s24 : List ℕ) (c : ℕ) (ds : List ℕ) → singled_out c ≡ Some ds → class ≡ unwrap_or (built_in_class c) given
    → IsWordOf class steps s24 c (0xd900 + class)
singled_by class given steps s24 c ds e is =
    let facts = singled_facts c ds e in
    let same : class ≡ facts.class = is ∙ ap (λ (o : Option ℕ). unwrap_or o given) facts.is in
    let small : class < 255 = let h = facts.small in omega arith in
    record {
      fits = omega arith;
      form = form_singled c class small (ap (λ (o : Option (List ℕ)). is_some o) e);
      inside = inside_apart [] s24 (0xd900 + class) (list_singled class small);
      class = class_singled c class small ∙ ap (λ (o : Option ℕ). unwrap_or o 0) facts.is ∙ sym same;
      full = λ free. absurd (none-some ds (sym free ∙ singled_mapped c ds e));
      built_in = stands_for (built_in_full c) ds (full_of_word [] s24 c (0xd900 + class)) facts.full
          (full_of_singled s24 c class small ∙ ap (λ (o : Option (List ℕ)). unwrap_or o (c ∷ [])) e);
    }

pub singled_word : (class given : ℕ) (steps s24 : List ℕ) (c : ℕ) → is_some (singled_out c) ≡ true → class ≡ unwrap_or (built_in_class c) given
    → IsWordOf class steps s24 c (0xd900 + class)
singled_word class given steps s24 c e is = by (singled_out c) refl
  where
    by : (o : Option (List ℕ)) → singled_out c ≡ o → IsWordOf class steps s24 c (0xd900 + class)
    by (Some ds) at = singled_by class given steps s24 c ds at is
    by None at = let off : true ≡ false = sym e ∙ ap (λ (o : Option (List ℕ)). is_some o) at in absurd cc

-- ---- Mapped characters

pub form_states : (c word : ℕ) → states_list word ≡ true → is_word c word ≡ true
unfolding is_word
form_states c word e = rw e (or_last ((((word == 0) || ((word == 1) && is_syllable c)) || is_mark_word word) || (is_singled_word word && is_some (singled_out c))))
  where
    or_last : (a : Bool) → (a || true) ≡ true
    or_last true = refl
    or_last false = refl

unmarked : (word : ℕ) → states_list word ≡ true → is_mark_word word ≡ false
unmarked word e = grind (arith, nat_tests)

unsingled : (word : ℕ) → states_list word ≡ true → is_singled_word word ≡ false
unsingled word e = grind (arith, nat_tests)

pub states_class : (c word : ℕ) → states_list word ≡ true → class_of_word c word ≡ 0
unfolding class_of_word
states_class c word e = cond-false (is_mark_word word) _ _ (unmarked word e) ∙ cond-false (is_singled_word word) _ _ (unsingled word e)

pub mapped_word : (class : ℕ) (steps s24 : List ℕ) (c word : ℕ) → class ≡ 0 → IsFree c → IsListWord steps s24 c word → IsWordOf class steps s24 c word
mapped_word class steps s24 c word none free is =
    let states = is.2 in
    record {
      fits = states.fits;
      form = form_states c word states.states;
      inside = states.inside;
      class = states_class c word states.states ∙ sym none;
      full = λ f. subst (λ (list : List ℕ). Leaves (step_in steps) (c ∷ []) list) (sym (states.full c)) is.1;
      built_in = rw (free_full c free) tt;
    }

-- ---- Characters without a mapping

full_alone : (s24 : List ℕ) (c word : ℕ) → is_syllable c ≡ false → singled_out c ≡ None → full_of_word [] s24 c word ≡ c ∷ [] → IfSome (built_in_full c) (λ list. full_of_word [] s24 c word ≡ list)
unfolding built_in_full
full_alone s24 c word f none e =
    ⊎_elim
    (λ t. stands_for (built_in_full c) (c ∷ []) (full_of_word [] s24 c word) (cond-false (is_syllable c) _ _ f ∙ cond-true (is_jamo c || (c == 0xfffd)) _ _ t) e)
    (λ g. let off : built_in_full c ≡ None = cond-false (is_syllable c) _ _ f ∙ cond-false (is_jamo c || (c == 0xfffd)) _ _ g ∙ none in rw off tt)
    (cases_Bool (is_jamo c || (c == 0xfffd)))

pub class_zero : (c : ℕ) → class_of_word c 0 ≡ 0
unfolding class_of_word
class_zero c = refl

pub full_zero : (s24 : List ℕ) (c : ℕ) → full_of_word [] s24 c 0 ≡ c ∷ []
unfolding full_of_word
full_zero s24 c = refl

left_unlisted : (steps : List ℕ) (c : ℕ) (list : List ℕ) → step_in steps c ≡ [] → list ≡ c ∷ [] → Leaves (step_in steps) (c ∷ []) list
left_unlisted steps c list none e = subst (λ (t : List ℕ). Leaves (step_in steps) (c ∷ []) t) (sym e) (left_alone (step_in steps) c none)

pub zero_word : (class : ℕ) (steps s24 : List ℕ) (c : ℕ) → class ≡ 0 → is_syllable c ≡ false → singled_out c ≡ None → (IsFree c → step_in steps c ≡ [])
    → IsWordOf class steps s24 c 0
zero_word class steps s24 c none f single unmapped = record {
  fits = omega arith;
  form = zero_form c;
  inside = inside_apart [] s24 0 refl;
  class = class_zero c ∙ sym none;
  full = λ free. left_unlisted steps c (full_of_word [] s24 c 0) (unmapped free) (full_zero s24 c);
  built_in = full_alone s24 c 0 f single (full_zero s24 c);
}

within_mark : (class : ℕ) → 0 < class → class < 255 → is_mark_word (0xd800 + class) ≡ true
within_mark class l h = grind (arith, nat_tests)

single_mark : (class : ℕ) → class < 255 → is_singled_word (0xd800 + class) ≡ false
single_mark class h = grind (arith, nat_tests)

list_mark : (class : ℕ) → class < 255 → is_list_word (0xd800 + class) ≡ false
list_mark class h = grind (arith, nat_tests)

pair_mark : (class : ℕ) → class < 255 → is_pair_word (0xd800 + class) ≡ false
pair_mark class h = grind (arith, nat_tests)

one_mark : (class : ℕ) → class < 255 → is_one_word (0xd800 + class) ≡ false
one_mark class h = grind (arith, nat_tests)

form_mark : (c class : ℕ) → 0 < class → class < 255 → is_word c (0xd800 + class) ≡ true
unfolding is_word
form_mark c class l h = rw (within_mark class l h) (or_third (((0xd800 + class) == 0) || (((0xd800 + class) == 1) && is_syllable c)) (is_singled_word (0xd800 + class) && is_some (singled_out c)) (states_list (0xd800 + class)))
  where
    or_third : (a b d : Bool) → (((a || true) || b) || d) ≡ true
    or_third true b d = refl
    or_third false b d = refl

class_mark : (c class : ℕ) → 0 < class → class < 255 → class_of_word c (0xd800 + class) ≡ class
unfolding class_of_word
class_mark c class l h = cond-true (is_mark_word (0xd800 + class)) _ _ (within_mark class l h) ∙ omega arith

full_mark : (s24 : List ℕ) (c class : ℕ) → class < 255 → full_of_word [] s24 c (0xd800 + class) ≡ c ∷ []
unfolding full_of_word
full_mark s24 c class h =
    cond-false (is_list_word (0xd800 + class)) _ _ (list_mark class h)
    ∙ cond-false (is_pair_word (0xd800 + class)) _ _ (pair_mark class h)
    ∙ cond-false (is_one_word (0xd800 + class)) _ _ (one_mark class h)
    ∙ cond-false ((0xd800 + class) == 1) _ _ (not_one (0xd800 + class) (omega arith))
    ∙ cond-false (is_singled_word (0xd800 + class)) _ _ (single_mark class h)

pub mark_word : (class : ℕ) (steps s24 : List ℕ) (c : ℕ) → 0 < class → class < 255 → is_syllable c ≡ false → singled_out c ≡ None → (IsFree c → step_in steps c ≡ [])
    → IsWordOf class steps s24 c (0xd800 + class)
mark_word class steps s24 c l h f single unmapped = record {
  fits = omega arith;
  form = form_mark c class l h;
  inside = inside_apart [] s24 (0xd800 + class) (list_mark class h);
  class = class_mark c class l h;
  full = λ free. left_unlisted steps c (full_of_word [] s24 c (0xd800 + class)) (unmapped free) (full_mark s24 c class h);
  built_in = full_alone s24 c (0xd800 + class) f single (full_mark s24 c class h);
}

pub unlisted_step : (steps : List ℕ) (c : ℕ) → IsUnlisted steps c → IsFree c → step_in steps c ≡ []
unlisted_step steps c none free = step_in_free steps c free ∙ listed_none steps c none

-- the word of an unmapped character says so over more triples too
pub unlisted_as : (k : ℕ) (steps s24 : List ℕ) (c word : ℕ) → IsUnlisted steps c → IsWordOf k [] s24 c word → IsWordOf k steps s24 c word
unlisted_as k steps s24 c word none w = record {
  fits = w.fits;
  form = w.form;
  inside = w.inside;
  class = w.class;
  full = λ free.
      let is : full_of_word [] s24 c word ≡ c ∷ [] =
      left_one (step_in []) (c ∷ []) (full_of_word [] s24 c word) (c ∷ []) (w.full free) (left_alone (step_in []) c (unlisted_step [] c (λ i h. absurd (omega arith)) free)) in
      left_unlisted steps c (full_of_word [] s24 c word) (unlisted_step steps c none free) is;
  built_in = w.built_in;
}

-- a character of which nothing is built in is no syllable
pub free_unsyllable : (c : ℕ) → IsFree c → is_syllable c ≡ false
free_unsyllable c free = ⊎_elim (λ t. absurd (none-some (syllable_step c) (sym free ∙ syllable_mapped c t))) (λ f. f) (cases_Bool (is_syllable c))

-- ---- Classes

pub class_twice : (o : Option ℕ) (given : ℕ) → unwrap_or o (unwrap_or o given) ≡ unwrap_or o given
class_twice None given = refl
class_twice (Some k) given = refl

pub not_singled : (c : ℕ) (b : Bool) → b ≡ is_some (singled_out c) → b ≡ false → singled_out c ≡ None
not_singled c b is off = by (singled_out c) (sym is ∙ off)
  where
    by : (o : Option (List ℕ)) → is_some o ≡ false → o ≡ None
    by None e = refl
    by (Some ds) e = let bad : true ≡ false = e in absurd cc

pub index_got : (xs : List ℕ) (i x : ℕ) → i < length xs → x ≡ slice_index_or xs i x → x ≡ slice_index xs i
index_got [] i x h e = absurd (omega arith)
index_got (y ∷ xs) zero x h e = e
index_got (y ∷ xs) (suc i) x h e = index_got xs i x (omega arith) e
