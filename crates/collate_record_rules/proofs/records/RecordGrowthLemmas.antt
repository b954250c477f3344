-- What lines break together, they break with further lines too.
use Rattle.std.proofs.Common.{◌≡◌, ℕ, ◌<◌, Bool, true, false, cond, not, ◌==◌, ◌&&◌, ◌||◌, List, [], ◌∷◌, ◌++◌, Option, Some, None, refl, sym, ◌∙◌, ap, subst, arith}
use Rattle.std.specs.Prelude.{is_some, ltb, unwrap_or}
use Rattle.std.specs.List.{list_all, list_any}
use Rattle.std.proofs.lemmas.Bool.{and_from, and_parts, false≢true, ltb-true, not_from_true, or_left, or_right}
use Rattle.std.proofs.lemmas.Option.{none-some}
use Rattle.icu_normalizer_core.specs.BuiltIn.{built_in_class, built_in_step, is_built_in}
use Rattle.icu_normalizer_core.specs.Canonical.{is_starter}
use Rattle.icu_collator_core.specs.ContextRules.{is_prefix_character, is_recorded_in, may_be_digit}
use Rattle.collate_lines.specs.Record.{Record, nothing, class, mapping, compatibility, weights, range, digit, setting}
use Rattle.collate_rules.specs.Breaks.{IsLasting}
use Rattle.collate_rules.specs.Meaning.{canonical_of, class_in, class_of, digit_in, dot_above_in, first_found, mapping_in, weights_of}
use Rattle.collate_rules.specs.RecordRules.{breaks_decomposed, breaks_digits, breaks_dot_above, breaks_marks_last, breaks_prefixes, digit_of, dotted_marks, has_late_starter, has_mapping, has_starter_behind, is_bad_digit, is_bad_dotted, is_badly_prefixed, is_disordered, is_further, is_mark, is_other_mark, is_to_some, is_undecomposed, is_unlike_decomposed, may_follow_prefix}

-- ---- Tests that follow from others

or_more : (a b c d : Bool) → (a ≡ true → c ≡ true) → (b ≡ true → d ≡ true) → (a || b) ≡ true → (c || d) ≡ true
or_more true b c d f g h = or_left c d (f refl)
or_more false true c d f g h = or_right c d (g refl)
or_more false false c d f g h = absurd (false≢true h)

and_more : (a b c d : Bool) → (a ≡ true → c ≡ true) → (b ≡ true → d ≡ true) → (a && b) ≡ true → (c && d) ≡ true
and_more a b c d f g h = let both = and_parts a b h in and_from c d (f both.0) (g both.1)

not_more : (a c : Bool) → (c ≡ true → a ≡ true) → not a ≡ true → not c ≡ true
not_more a true f h = absurd (false≢true (sym (not_from_true a (f refl)) ∙ h))
not_more a false f h = refl

any_weaker : {A : Type 0} (p q : A → Bool) (xs : List A) → ((x : A) → p x ≡ true → q x ≡ true) → list_any p xs ≡ true → list_any q xs ≡ true
any_weaker p q [] f h = h
any_weaker p q (x ∷ xs) f h = or_more (p x) (list_any p xs) (q x) (list_any q xs) (f x) (any_weaker p q xs f) h

any_more : {A : Type 0} (p q : A → Bool) (xs ys : List A) → ((x : A) → p x ≡ true → q x ≡ true) → list_any p xs ≡ true → list_any q (xs ++ ys) ≡ true
any_more p q [] ys f h = absurd (false≢true h)
any_more p q (x ∷ xs) ys f h = or_more (p x) (list_any p xs) (q x) (list_any q (xs ++ ys)) (f x) (any_more p q xs ys f) h

all_weaker : {A : Type 0} (p q : A → Bool) (xs : List A) → ((x : A) → p x ≡ true → q x ≡ true) → list_all p xs ≡ true → list_all q xs ≡ true
all_weaker p q [] f h = h
all_weaker p q (x ∷ xs) f h = and_more (p x) (list_all p xs) (q x) (list_all q xs) (f x) (all_weaker p q xs f) h

-- ---- What is found first

found_by_head : {B : Type 0} (o now then : Option B) (y : B) → (now ≡ Some y → then ≡ Some y)
    → (elim o [ Some z ↦ Some z | None ↦ now ]) ≡ Some y → (elim o [ Some z ↦ Some z | None ↦ then ]) ≡ Some y
found_by_head (Some z) now then y next e = e
found_by_head None now then y next e = next e

-- stays what is found first
pub first_found-append : {A B : Type 0} (f : A → Option B) (xs ys : List A) (y : B) → first_found f xs ≡ Some y → first_found f (xs ++ ys) ≡ Some y
first_found-append f [] ys y e = absurd (none-some y e)
first_found-append f (x ∷ xs) ys y e = found_by_head (f x) (first_found f xs) (first_found f (xs ++ ys)) y (first_found-append f xs ys y) e

some_by : {B : Type 0} (o p : Option B) → ((y : B) → o ≡ Some y → p ≡ Some y) → is_some o ≡ true → is_some p ≡ true
some_by (Some y) p stays h = ap (λ q. is_some q) (stays y refl)
some_by None p stays h = absurd (false≢true h)

-- ---- Classes and digits

mark_by : (b o p : Option ℕ) → ((y : ℕ) → o ≡ Some y → p ≡ Some y)
    → not (unwrap_or b (unwrap_or o 0) == 0) ≡ true → not (unwrap_or b (unwrap_or p 0) == 0) ≡ true
mark_by (Some k) o p stays h = h
mark_by None (Some k) p stays h = subst (λ (q : Option ℕ). not (unwrap_or q 0 == 0) ≡ true) (sym (stays k refl)) h
mark_by None None p stays h = absurd (false≢true h)

-- a mark stays one
pub mark_stays : (lines more : List Record) (c : ℕ) → is_mark lines c ≡ true → is_mark (lines ++ more) c ≡ true
mark_stays lines more c =
    mark_by (built_in_class c) (first_found (class_in c) lines) (first_found (class_in c) (lines ++ more)) (first_found-append (class_in c) lines more)

starter_by : (m n : ℕ) → (not (m == 0) ≡ true → not (n == 0) ≡ true) → (n == 0) ≡ true → (m == 0) ≡ true
starter_by m n marks h = by (m == 0) marks
  where
    by : (b : Bool) → (not b ≡ true → not (n == 0) ≡ true) → b ≡ true
    by true f = refl
    by false f = absurd (false≢true (sym (not_from_true (n == 0) h) ∙ f refl))

-- what is a starter with further lines was one
starter_before : (lines more : List Record) (c : ℕ) → is_starter (canonical_of (lines ++ more)) c ≡ true → is_starter (canonical_of lines) c ≡ true
starter_before lines more c = starter_by (class_of lines c) (class_of (lines ++ more) c) (mark_stays lines more c)

-- what is no digit with further lines was none
no_digit_before : (lines more : List Record) (c : ℕ) → not (is_some (digit_of (lines ++ more) c)) ≡ true → not (is_some (digit_of lines c)) ≡ true
no_digit_before lines more c =
    not_more (is_some (digit_of (lines ++ more) c)) (is_some (digit_of lines c))
    (some_by (digit_of lines c) (digit_of (lines ++ more) c) (first_found-append (digit_in c) lines more))

-- ---- Decomposed lists

class_by : (b o p : Option ℕ) → ((y : ℕ) → o ≡ Some y → p ≡ Some y) → 0 < unwrap_or b (unwrap_or o 0)
    → unwrap_or b (unwrap_or o 0) ≡ unwrap_or b (unwrap_or p 0)
class_by (Some k) o p stays some = refl
class_by None (Some k) p stays some = ap (λ (q : Option ℕ). unwrap_or q 0) (sym (stays k refl))
class_by None None p stays some = absurd (omega (arith, some))

-- the class of a mark stays
class_stays : (lines more : List Record) (c : ℕ) → 0 < class_of lines c → class_of lines c ≡ class_of (lines ++ more) c
class_stays lines more c =
    class_by (built_in_class c) (first_found (class_in c) lines) (first_found (class_in c) (lines ++ more)) (first_found-append (class_in c) lines more)

disordered_by : (p q : ℕ → ℕ) (list : List ℕ) → ((c : ℕ) → 0 < p c → p c ≡ q c) → is_disordered p list ≡ true → is_disordered q list ≡ true
disordered_by p q [] f h = h
disordered_by p q (a ∷ []) f h = h
disordered_by p q (a ∷ b ∷ cs) f h =
    or_more (ltb 0 (p b) && ltb (p b) (p a)) (is_disordered p (b ∷ cs)) (ltb 0 (q b) && ltb (q b) (q a)) (is_disordered q (b ∷ cs))
    two (disordered_by p q (b ∷ cs) f) h
  where
    two : (ltb 0 (p b) && ltb (p b) (p a)) ≡ true → (ltb 0 (q b) && ltb (q b) (q a)) ≡ true
    two e =
        let both = and_parts (ltb 0 (p b)) (ltb (p b) (p a)) e in
        let some : 0 < p b = ltb-true 0 (p b) both.0 in
        let less : p b < p a = ltb-true (p b) (p a) both.1 in
        let more : 0 < p a = omega (arith, some, less) in
        and_from _ _ (ap (ltb 0) (sym (f b some)) ∙ both.0) (sym (ap (λ (n : ℕ). ltb n (p a)) (f b some) ∙ ap (ltb (q b)) (f a more)) ∙ both.1)

mapped_by : (built : Bool) (own o p : Bool) → (o ≡ true → p ≡ true) → cond built own o ≡ true → cond built own p ≡ true
mapped_by true own o p f h = h
mapped_by false own o p f h = f h

mapping_stays : (lines more : List Record) (c : ℕ) → has_mapping lines c ≡ true → has_mapping (lines ++ more) c ≡ true
mapping_stays lines more c =
    mapped_by (is_built_in c) (is_to_some (built_in_step c)) _ _
    (some_by (first_found (mapping_in c) lines) (first_found (mapping_in c) (lines ++ more)) (first_found-append (mapping_in c) lines more))

unlike_stays : (lines more : List Record) (list : List ℕ) → is_unlike_decomposed lines list ≡ true → is_unlike_decomposed (lines ++ more) list ≡ true
unlike_stays lines more list =
    or_more (list_any (has_mapping lines) list) (is_disordered (class_of lines) list) (list_any (has_mapping (lines ++ more)) list) (is_disordered (class_of (lines ++ more)) list)
    (any_weaker (has_mapping lines) (has_mapping (lines ++ more)) list (mapping_stays lines more))
    (disordered_by (class_of lines) (class_of (lines ++ more)) list (class_stays lines more))

undecomposed_stays : (lines more : List Record) (line : Record) → is_undecomposed lines line ≡ true → is_undecomposed (lines ++ more) line ≡ true
undecomposed_stays lines more nothing h = h
undecomposed_stays lines more (class c k) h = h
undecomposed_stays lines more (mapping c ds x) h = h
undecomposed_stays lines more (compatibility c ds) h = h
undecomposed_stays lines more (weights layer prefix text es) h =
    or_more (is_unlike_decomposed lines prefix) (is_unlike_decomposed lines text) (is_unlike_decomposed (lines ++ more) prefix) (is_unlike_decomposed (lines ++ more) text)
    (unlike_stays lines more prefix) (unlike_stays lines more text) h
undecomposed_stays lines more (range r) h = h
undecomposed_stays lines more (digit c v) h = h
undecomposed_stays lines more (setting s) h = h

pub decomposed_stays : IsLasting breaks_decomposed
decomposed_stays lines more =
    any_more (is_undecomposed lines) (is_undecomposed (lines ++ more)) lines more (undecomposed_stays lines more)

-- ---- Marks last

late_by : (p q s : ℕ → Bool) (text : List ℕ) → ((c : ℕ) → p c ≡ true → q c ≡ true) → has_starter_behind p s text ≡ true → has_starter_behind q s text ≡ true
late_by p q s [] f h = h
late_by p q s (c ∷ cs) f h =
    or_more (p c && list_any s cs) (has_starter_behind p s cs) (q c && list_any s cs) (has_starter_behind q s cs)
    (and_more (p c) (list_any s cs) (q c) (list_any s cs) (f c) (λ e. e)) (late_by p q s cs f) h

late_stays : (records lines more : List Record) (line : Record) → has_late_starter records lines line ≡ true → has_late_starter records (lines ++ more) line ≡ true
late_stays records lines more nothing h = h
late_stays records lines more (class c k) h = h
late_stays records lines more (mapping c ds x) h = h
late_stays records lines more (compatibility c ds) h = h
late_stays records lines more (weights layer prefix text es) h =
    late_by (is_mark lines) (is_mark (lines ++ more)) (λ c. not (is_mark records c)) text (mark_stays lines more) h
late_stays records lines more (range r) h = h
late_stays records lines more (digit c v) h = h
late_stays records lines more (setting s) h = h

pub marks_last_stay : (records : List Record) → IsLasting (breaks_marks_last records)
marks_last_stay records lines more =
    any_more (has_late_starter records lines) (has_late_starter records (lines ++ more)) lines more (late_stays records lines more)

-- ---- Prefixes

prefix_character_before : (lines more : List Record) (c : ℕ) → is_prefix_character (canonical_of (lines ++ more)) (digit_of (lines ++ more)) c ≡ true
    → is_prefix_character (canonical_of lines) (digit_of lines) c ≡ true
prefix_character_before lines more c =
    and_more _ _ _ _ (starter_before lines more c) (and_more _ _ _ _ (no_digit_before lines more c) (λ e. e))

may_follow_before : (records lines more : List Record) (text : List ℕ) → may_follow_prefix records (lines ++ more) text ≡ true → may_follow_prefix records lines text ≡ true
may_follow_before records lines more [] h = h
may_follow_before records lines more (c ∷ []) h =
    and_more _ _ _ _ (starter_before lines more c) (and_more _ _ _ _ (no_digit_before lines more c) (λ e. e)) h
may_follow_before records lines more (c ∷ d ∷ ds) h = h

badly_prefixed_stays : (records lines more : List Record) (line : Record) → is_badly_prefixed records lines line ≡ true → is_badly_prefixed records (lines ++ more) line ≡ true
badly_prefixed_stays records lines more nothing h = h
badly_prefixed_stays records lines more (class c k) h = h
badly_prefixed_stays records lines more (mapping c ds x) h = h
badly_prefixed_stays records lines more (compatibility c ds) h = h
badly_prefixed_stays records lines more (weights layer [] text es) h = h
badly_prefixed_stays records lines more (weights layer (b ∷ bs) text es) h =
    not_more _ _
    (and_more _ _ _ _
    (all_weaker (is_prefix_character (canonical_of (lines ++ more)) (digit_of (lines ++ more))) (is_prefix_character (canonical_of lines) (digit_of lines)) (b ∷ bs) (prefix_character_before lines more))
    (may_follow_before records lines more text)) h
badly_prefixed_stays records lines more (range r) h = h
badly_prefixed_stays records lines more (digit c v) h = h
badly_prefixed_stays records lines more (setting s) h = h

pub prefixes_stay : (records : List Record) → IsLasting (breaks_prefixes records)
prefixes_stay records lines more =
    any_more (is_badly_prefixed records lines) (is_badly_prefixed records (lines ++ more)) lines more (badly_prefixed_stays records lines more)

-- ---- Digits

may_be_digit_before : (records lines more : List Record) (c : ℕ) → may_be_digit (canonical_of (lines ++ more)) (is_recorded_in (weights_of records)) c ≡ true
    → may_be_digit (canonical_of lines) (is_recorded_in (weights_of records)) c ≡ true
may_be_digit_before records lines more c = and_more _ _ _ _ (starter_before lines more c) (λ e. e)

bad_digit_stays : (records lines more : List Record) (line : Record) → is_bad_digit records lines line ≡ true → is_bad_digit records (lines ++ more) line ≡ true
bad_digit_stays records lines more nothing h = h
bad_digit_stays records lines more (class c k) h = h
bad_digit_stays records lines more (mapping c ds x) h = h
bad_digit_stays records lines more (compatibility c ds) h = h
bad_digit_stays records lines more (weights layer prefix text es) h = h
bad_digit_stays records lines more (range r) h = h
bad_digit_stays records lines more (digit c v) h =
    or_more _ _ _ _ (not_more _ _ (may_be_digit_before records lines more c))
    (any_more (is_further records c) (is_further records c) lines more (λ x e. e)) h
bad_digit_stays records lines more (setting s) h = h

pub digits_stay : (records : List Record) → IsLasting (breaks_digits records)
digits_stay records lines more =
    any_more (is_bad_digit records lines) (is_bad_digit records (lines ++ more)) lines more (bad_digit_stays records lines more)

-- ---- The dot above

set_by : (o p : Option Bool) → ((y : Bool) → o ≡ Some y → p ≡ Some y) → unwrap_or o false ≡ true → unwrap_or p false ≡ true
set_by (Some b) p stays h = ap (λ (q : Option Bool). unwrap_or q false) (stays b refl) ∙ h
set_by None p stays h = absurd (false≢true h)

bad_dotted_stays : (records lines more : List Record) (c : ℕ) → is_bad_dotted records lines c ≡ true → is_bad_dotted records (lines ++ more) c ≡ true
bad_dotted_stays records lines more c h =
    let p : Record → Bool = λ line. is_further records c line || is_other_mark records c line in
    or_more _ _ _ _ (λ e. e) (any_more p p lines more (λ x e. e)) h

pub dot_above_stays : (records : List Record) → IsLasting (breaks_dot_above records)
dot_above_stays records lines more =
    and_more _ _ _ _
    (set_by (first_found dot_above_in lines) (first_found dot_above_in (lines ++ more)) (first_found-append dot_above_in lines more))
    (any_weaker (is_bad_dotted records lines) (is_bad_dotted records (lines ++ more)) dotted_marks (bad_dotted_stays records lines more))
