-- Data that say the same of characters of a kind, and of texts of these, give a list of such characters the same elements.
use Rattle.std.proofs.Common.{◌≡◌, ◌<◌, ℕ, arith, zero, suc, Bool, true, cond, leb, ltb, ◌==◌, ◌&&◌, List, [], ◌∷◌, ◌++◌, length, take, drop, reverse, refl, sym, ◌∙◌, ap, subst, Option, Some, None}
use Rattle.std.proofs.lemmas.Bool.{cond_both, and_parts}
use Rattle.std.proofs.lemmas.Grind.{reverse_onto}
use Rattle.std.proofs.lemmas.List.Elements.{All-cons, All-from_recursion, recursion_from_All}
use Rattle.std.specs.Prelude.{filter_map}
use Rattle.std.specs.Char.{IsScalar}
use Rattle.std.specs.List.{All, AllByRecursion, list_all, prefix_len}
use Rattle.std.specs.Option.{is_some, unwrap_or}
use Rattle.icu_normalizer_core.specs.BuiltIn.{is_jamo}
use Rattle.icu_normalizer_core.specs.Canonical.{Canonical}
use Rattle.icu_collator_types.specs.declared.elements.Element.{Element}
use Rattle.icu_collator_core.specs.Weights.{Weights}
use Rattle.icu_collator_core.specs.Defaults.{special_primary, primary_element, default_primary, default_elements, jamo_primary, implicit_primary}
use Rattle.icu_collator_core.specs.Elements.{Placed, placed_behind, longest_prefix, at_greatest, behind_prefix, prefix_match, recorded_length, match_length, Reading, Joining, joining, text_match, text_reading, characters_of, digit_count, number_reading, is_before_accent, reading, elements_within, elements_of_list}
use Rattle.icu_collator_core.specs.Numbers.{number_elements}
use Rattle.icu_normalizer_core.specs.Sameness.{AreSameCanonical}
use Rattle.icu_collator_core.specs.Sameness.{AreSameReadings, AreSameWeights}
use Rattle.icu_normalizer_core.proofs.decomposed_lists.DecomposedLemmas.{all_append}
use Rattle.icu_collator_core.proofs.readings.ReadingLeftLemmas.{all_left, reading_left}

-- ---- lists of a kind

all_taken : {X : Type 0} (P : X → Type 0) (n : ℕ) (xs : List X) → AllByRecursion P xs → AllByRecursion P (take n xs)
all_taken P zero xs h = tt
all_taken P (suc n) [] h = tt
all_taken P (suc n) (x ∷ xs) h = (h.0, all_taken P n xs h.1)

all_reversed : {X : Type 0} (P : X → Type 0) (xs : List X) → AllByRecursion P xs → AllByRecursion P (reverse xs)
all_reversed P [] h = tt
all_reversed {X} P (x ∷ xs) h =
    subst (λ (ys : List X). AllByRecursion P ys) (sym (reverse_onto xs x [])) (all_append P (reverse xs) (x ∷ []) (all_reversed P xs h.1) (h.0, tt))

-- ---- what is found and counted by equal tests

pub at_greatest_same : {A : Type 0} (f g : ℕ → Option A) (n : ℕ) → ((k : ℕ) → f k ≡ g k) → at_greatest f n ≡ at_greatest g n
unfolding at_greatest
at_greatest_same f g zero h = h zero
at_greatest_same {A} f g (suc n) h =
    ap (λ (o : Option A). elim o as (λ _. Option A) [ Some x ↦ Some x | None ↦ at_greatest f n ]) (h (suc n))
    ∙ ap (λ (o : Option A). elim (g (suc n)) as (λ _. Option A) [ Some x ↦ Some x | None ↦ o ]) (at_greatest_same f g n h)

module _ {X : Type 0} (P : X → Type 0) where
  all_same : (p q : X → Bool) (xs : List X) → ((x : X) → P x → p x ≡ q x) → AllByRecursion P xs → list_all p xs ≡ list_all q xs
  all_same p q [] same h = refl
  all_same p q (x ∷ xs) same h = cc (same x h.0, all_same p q xs same h.1)

  count_same : (p q : X → Bool) (xs : List X) → ((x : X) → P x → p x ≡ q x) → AllByRecursion P xs → prefix_len p xs ≡ prefix_len q xs
  count_same p q [] same h = refl
  count_same p q (x ∷ xs) same h = cc (same x h.0, count_same p q xs same h.1)

  picked_same : {Y : Type 0} (f g : X → Option Y) (xs : List X) → ((x : X) → P x → f x ≡ g x) → AllByRecursion P xs → filter_map f xs ≡ filter_map g xs
  picked_same f g [] same h = refl
  picked_same f g (x ∷ xs) same h = cc (same x h.0, picked_same f g xs same h.1)

-- ---- readings

some_none : {A : Type 0} (o : Option A) → is_some o ≡ true → o ≡ None → ⊥
some_none (Some x) is none = cc
some_none None is none = cc

-- a text that a match gives is recorded, or is the text that it began with
joined_recorded : (canonical : Canonical) (weights : Weights) (text : List ℕ) (between ms : List Placed)
    → weights.recorded [] (joining canonical weights text between ms).text ≡ None → weights.recorded [] text ≡ None
unfolding joining
joined_recorded canonical weights text between [] h = h
joined_recorded canonical weights text between (m ∷ ms) h =
    let longer = text ++ m.character ∷ []
    in let done : Joining = record { text = text; left = between ++ m ∷ ms }
    in let joined = joining canonical weights longer between ms
    in let stays = joining canonical weights text (between ++ m ∷ []) ms
    in let IsNew : Joining → Type 0 = λ j. weights.recorded [] j.text ≡ None → weights.recorded [] text ≡ None
    in cond_both (canonical.class m.character == 0) done _ IsNew (λ _ k. k)
    (λ _. cond_both (list_all (λ (b : Placed). ltb (canonical.class b.character) (canonical.class m.character)) between && is_some (weights.recorded [] longer)) joined stays IsNew
    (λ is k. absurd (some_none (weights.recorded [] longer) (and_parts _ _ is).1 (joined_recorded canonical weights longer between ms k)))
    (λ _ k. joined_recorded canonical weights text (between ++ m ∷ []) ms k)) h

-- a text is found to be recorded only if it has a character
found_above : (weights : Weights) (list : List ℕ) (n : ℕ) → 0 < unwrap_or (at_greatest (recorded_length weights list) n) 1
unfolding at_greatest
found_above weights list zero = omega arith
found_above weights list (suc n) =
    cond_both (ltb 0 (suc n) && is_some (weights.recorded [] (take (suc n) list))) (Some (suc n)) None
    (λ (o : Option ℕ). 0 < unwrap_or (elim o as (λ _. Option ℕ) [ Some x ↦ Some x | None ↦ at_greatest (recorded_length weights list) n ]) 1)
    (λ _. omega arith)
    (λ _. found_above weights list n)

-- a text that begins some list has a character, and so has it with what is put after it
taken_above : (n c : ℕ) (cs : List ℕ) → 0 < n → 0 < length (take n (c ∷ cs))
taken_above zero c cs h = absurd (omega arith)
taken_above (suc n) c cs h = omega arith

longer_above : (text : List ℕ) (c : ℕ) → 0 < length (text ++ c ∷ [])
longer_above [] c = omega arith
longer_above (x ∷ xs) c = omega arith

-- a match of more than the character is recorded
matched_recorded : (weights : Weights) (list : List ℕ) (n : ℕ) (c : ℕ) (cs : List ℕ) → list ≡ c ∷ cs
    → weights.recorded [] (take (unwrap_or (at_greatest (recorded_length weights list) n) 1) list) ≡ None → weights.recorded [] (c ∷ []) ≡ None
unfolding at_greatest
matched_recorded weights list zero c cs e h = subst (λ xs. weights.recorded [] (take 1 xs) ≡ None) e h
matched_recorded weights list (suc n) c cs e h =
    cond_both (ltb 0 (suc n) && is_some (weights.recorded [] (take (suc n) list))) (Some (suc n)) None
    (λ (o : Option ℕ). weights.recorded [] (take (unwrap_or (elim o as (λ _. Option ℕ) [ Some x ↦ Some x | None ↦ at_greatest (recorded_length weights list) n ]) 1) list) ≡ None → weights.recorded [] (c ∷ []) ≡ None)
    (λ is k. absurd (some_none (weights.recorded [] (take (suc n) list)) (and_parts _ _ is).1 k))
    (λ _ k. matched_recorded weights list n c cs e k) h

module _ (P : ℕ → Type 0) where
  -- a character of the kind after others
  record IsOfKind (p : Placed) : Type 0 where
    pub character : P p.character
    pub before : AllByRecursion P p.before

  abbrev AreOfKind : List Placed → Type 0
  AreOfKind ps = AllByRecursion IsOfKind ps

  placed_of_kind : (before cs : List ℕ) → AllByRecursion P before → AllByRecursion P cs → AreOfKind (placed_behind before cs)
  unfolding placed_behind
  placed_of_kind before [] b h = tt
  placed_of_kind before (c ∷ cs) b h =
      (record { character = h.0; before = b }, placed_of_kind (take longest_prefix (c ∷ before)) cs (all_taken P longest_prefix (c ∷ before) (h.0, b)) h.1)

  characters_of_kind : (ps : List Placed) → AreOfKind ps → AllByRecursion P (characters_of ps)
  characters_of_kind [] h = tt
  characters_of_kind (p ∷ ps) h = (h.0.character, characters_of_kind ps h.1)

  module _ (a b : Canonical) (v w : Weights) (numeric : Bool) (class : (c : ℕ) → P c → a.class c ≡ b.class c) (same : AreSameReadings P v w) where
    recorded_same : (prefix text : List ℕ) → 0 < length text → AllByRecursion P prefix → AllByRecursion P text → v.recorded prefix text ≡ w.recorded prefix text
    recorded_same prefix [] n h g = absurd (omega arith)
    recorded_same prefix (c ∷ rest) n h g = same.recorded prefix c rest (All-from_recursion P prefix h) g.0 (All-from_recursion P rest g.1)

    behind_same : (p : Placed) → IsOfKind p → (n : ℕ) → behind_prefix v p n ≡ behind_prefix w p n
    behind_same p h n =
        ap (λ (o : Option (List Element)). cond (ltb 0 n && leb n (length p.before)) o None)
        (recorded_same (reverse (take n p.before)) (p.character ∷ []) (omega arith) (all_reversed P (take n p.before) (all_taken P n p.before h.before)) (h.character, tt))

    prefix_same : (p : Placed) → IsOfKind p → prefix_match v p ≡ prefix_match w p
    prefix_same p h = at_greatest_same (behind_prefix v p) (behind_prefix w p) longest_prefix (behind_same p h)

    found_same : (c : ℕ) (cs : List ℕ) → AllByRecursion P (c ∷ cs) → (n : ℕ) → recorded_length v (c ∷ cs) n ≡ recorded_length w (c ∷ cs) n
    found_same c cs h zero = refl
    found_same c cs h (suc n) =
        ap (λ (o : Option (List Element)). cond (ltb 0 (suc n) && is_some o) (Some (suc n)) None)
        (recorded_same [] (take (suc n) (c ∷ cs)) (taken_above (suc n) c cs (omega arith)) tt (all_taken P (suc n) (c ∷ cs) h))

    length_same : (c : ℕ) (cs : List ℕ) → AllByRecursion P (c ∷ cs) → match_length v (c ∷ cs) ≡ match_length w (c ∷ cs)
    length_same c cs h =
        ap (λ (o : Option ℕ). unwrap_or o 1)
        (at_greatest_same (recorded_length v (c ∷ cs)) (recorded_length w (c ∷ cs)) (length (c ∷ cs)) (found_same c cs h))

    joining_same : (text : List ℕ) (between ms : List Placed) → AllByRecursion P text → AreOfKind between → AreOfKind ms
        → joining a v text between ms ≡ joining b w text between ms
    unfolding joining
    joining_same text between [] t h g = refl
    joining_same text between (m ∷ ms) t h g =
        let longer = text ++ m.character ∷ []
        in let more : AllByRecursion P longer = all_append P text (m.character ∷ []) t (g.0.character, tt)
        in let here = class m.character g.0.character
        in let seen = all_same IsOfKind (λ x. ltb (a.class x.character) (a.class m.character)) (λ x. ltb (b.class x.character) (b.class m.character)) between
        (λ x s. cc (class x.character s.character, here)) h
        in let recorded = recorded_same [] longer (longer_above text m.character) tt more
        in let joined = joining_same longer between ms more h g.1
        in let stays = joining_same text (between ++ m ∷ []) ms t (all_append IsOfKind between (m ∷ []) h (g.0, tt)) g.1
        in cc (here, seen, recorded, joined, stays)

    match_same : (p : Placed) (ps : List Placed) → AreOfKind (p ∷ ps) → text_match a v (p ∷ ps) ≡ text_match b w (p ∷ ps)
    unfolding text_match
    match_same p ps h =
        let list = characters_of (p ∷ ps)
        in let kind = characters_of_kind (p ∷ ps) h
        in let n = match_length v list
        in joining_same (take n list) [] (drop n (p ∷ ps)) (all_taken P n list kind) tt (all_left IsOfKind n (p ∷ ps) h)
        ∙ ap (λ n. joining b w (take n list) [] (drop n (p ∷ ps))) (length_same p.character (characters_of ps) kind)

    text_above : (text : List ℕ) (between ms : List Placed) → 0 < length text → 0 < length (joining a v text between ms).text
    unfolding joining
    text_above text between [] n = n
    text_above text between (m ∷ ms) n =
        let longer = text ++ m.character ∷ []
        in let done : Joining = record { text = text; left = between ++ m ∷ ms }
        in let joined = joining a v longer between ms
        in let stays = joining a v text (between ++ m ∷ []) ms
        in cond_both (a.class m.character == 0) done _ (λ (j : Joining). 0 < length j.text) (λ _. n)
        (λ _. cond_both (list_all (λ (b : Placed). ltb (a.class b.character) (a.class m.character)) between && is_some (v.recorded [] longer)) joined stays (λ (j : Joining). 0 < length j.text)
        (λ _. text_above longer between ms (longer_above text m.character))
        (λ _. text_above text (between ++ m ∷ []) ms n))

    text_of_kind : (text : List ℕ) (between ms : List Placed) → AllByRecursion P text → AreOfKind ms → AllByRecursion P (joining a v text between ms).text
    unfolding joining
    text_of_kind text between [] t g = t
    text_of_kind text between (m ∷ ms) t g =
        let longer = text ++ m.character ∷ []
        in let done : Joining = record { text = text; left = between ++ m ∷ ms }
        in let joined = joining a v longer between ms
        in let stays = joining a v text (between ++ m ∷ []) ms
        in cond_both (a.class m.character == 0) done _ (λ (j : Joining). AllByRecursion P j.text) (λ _. t)
        (λ _. cond_both (list_all (λ (b : Placed). ltb (a.class b.character) (a.class m.character)) between && is_some (v.recorded [] longer)) joined stays (λ (j : Joining). AllByRecursion P j.text)
        (λ _. text_of_kind longer between ms (all_append P text (m.character ∷ []) t (g.0.character, tt)) g.1)
        (λ _. text_of_kind text (between ++ m ∷ []) ms t g.1))

    default_same : (c : ℕ) → P c → v.recorded [] (c ∷ []) ≡ None → default_elements v c ≡ default_elements w c
    unfolding default_primary
    default_same c s none =
        ap (λ (o : Option ℕ). primary_element (unwrap_or (special_primary c) (unwrap_or o (cond (is_jamo c) (jamo_primary c) (implicit_primary c)))) ∷ []) (same.ranged_primary c s none)

    or_same : (o : Option (List Element)) (es fs : List Element) → (o ≡ None → es ≡ fs) → unwrap_or o es ≡ unwrap_or o fs
    or_same (Some e) es fs h = refl
    or_same None es fs h = h refl

    text_same : (p : Placed) (ps : List Placed) → AreOfKind (p ∷ ps) → text_reading a v p.character (p ∷ ps) ≡ text_reading b w p.character (p ∷ ps)
    unfolding text_reading text_match
    text_same p ps h =
        let c = p.character
        in let list = characters_of (p ∷ ps)
        in let n = match_length v list
        in let match = text_match a v (p ∷ ps)
        in let matched = text_of_kind (take n list) [] (drop n (p ∷ ps)) (all_taken P n list (characters_of_kind (p ∷ ps) h)) (all_left IsOfKind n (p ∷ ps) h)
        in let above = text_above (take n list) [] (drop n (p ∷ ps)) (taken_above n c (characters_of ps) (found_above v list (length list)))
        in let unrecorded : v.recorded [] match.text ≡ None → v.recorded [] (c ∷ []) ≡ None =
        λ none. matched_recorded v list (length list) c (characters_of ps) refl (joined_recorded a v (take n list) [] (drop n (p ∷ ps)) none)
        in let elements : unwrap_or (v.recorded [] match.text) (default_elements v c) ≡ unwrap_or (w.recorded [] match.text) (default_elements w c) =
        or_same (v.recorded [] match.text) (default_elements v c) (default_elements w c) (λ none. default_same c h.0.character (unrecorded none))
        ∙ ap (λ (o : Option (List Element)). unwrap_or o (default_elements w c)) (recorded_same [] match.text above tt matched)
        in ap (λ (es : List Element). record { elements = es; left = match.left }) elements
        ∙ ap (λ (j : Joining). record { elements = unwrap_or (w.recorded [] j.text) (default_elements w c); left = j.left }) (match_same p ps h)

    number_same : (ps : List Placed) → AreOfKind ps → number_reading v ps ≡ number_reading w ps
    unfolding number_reading
    number_same ps h =
        let count = count_same IsOfKind (λ (p : Placed). is_some (v.digit p.character)) (λ (p : Placed). is_some (w.digit p.character)) ps (λ p s. ap is_some (same.digit p.character s.character)) h
        in let n = digit_count v ps
        in let digits = picked_same IsOfKind (λ (p : Placed). v.digit p.character) (λ (p : Placed). w.digit p.character) (take n ps) (λ p s. same.digit p.character s.character) (all_taken IsOfKind n ps h)
        in let elements : number_elements v.numeric_lead (filter_map (λ p. v.digit p.character) (take n ps)) ≡ number_elements w.numeric_lead (filter_map (λ p. w.digit p.character) (take n ps)) = cc (same.numeric_lead, digits)
        in ap (λ (es : List Element). record { elements = es; left = drop n ps }) elements
        ∙ ap (λ (k : ℕ). record { elements = number_elements w.numeric_lead (filter_map (λ p. w.digit p.character) (take k ps)); left = drop k ps }) count

    -- a reading by what it goes by
    abbrev chosen : ℕ → List Placed → Reading → Reading → Option (List Element) → Bool → Option ℕ → Reading
    chosen c ps number text prefix dot_above digit =
        let prefixed : Reading = elim prefix [ Some es ↦ record { elements = es; left = ps } | None ↦ text ]
        in let undotted : Reading = cond (dot_above && (c == 0x307) && is_before_accent ps) (record { elements = []; left = ps }) prefixed
        in let unnumbered : Reading = cond (numeric && is_some digit) number undotted
        in elim (special_primary c) as (λ _. Reading) [ Some s ↦ record { elements = primary_element s ∷ []; left = ps } | None ↦ unnumbered ]

    reading_same : (p : Placed) (ps : List Placed) → AreOfKind (p ∷ ps) → reading a v numeric p ps ≡ reading b w numeric p ps
    unfolding reading
    reading_same p ps h =
        let c = p.character
        in let n = number_reading w (p ∷ ps)
        in let t = text_reading b w c (p ∷ ps)
        in ap (λ (r : Reading). chosen c ps r (text_reading a v c (p ∷ ps)) (prefix_match v p) v.dot_above (v.digit c)) (number_same (p ∷ ps) h)
        ∙ ap (λ (r : Reading). chosen c ps n r (prefix_match v p) v.dot_above (v.digit c)) (text_same p ps h)
        ∙ ap (λ (o : Option (List Element)). chosen c ps n t o v.dot_above (v.digit c)) (prefix_same p h.0)
        ∙ ap (λ (d : Bool). chosen c ps n t (prefix_match w p) d (v.digit c)) same.dot_above
        ∙ ap (λ (o : Option ℕ). chosen c ps n t (prefix_match w p) w.dot_above o) (same.digit c h.0.character)

    within_same : (n : ℕ) (ps : List Placed) → AreOfKind ps → elements_within n a v numeric ps ≡ elements_within n b w numeric ps
    unfolding elements_within
    within_same zero ps h = refl
    within_same (suc n) [] h = refl
    within_same (suc n) (p ∷ ps) h =
        let left = reading_left a v IsOfKind numeric p ps h.0 h.1
        in ap (λ es. (reading a v numeric p ps).elements ++ es) (within_same n (reading a v numeric p ps).left left)
        ∙ ap (λ (r : Reading). r.elements ++ elements_within n b w numeric r.left) (reading_same p ps h)

    pub alike_elements : (list : List ℕ) → All P list → elements_of_list a v numeric list ≡ elements_of_list b w numeric list
    alike_elements list h =
        within_same (length list) (placed_behind [] list) (placed_of_kind [] list tt (recursion_from_All P list h))

-- ---- scalar values

weights_alike : (v w : Weights) → AreSameWeights v w → AreSameReadings IsScalar v w
weights_alike v w same =
    record {
      recorded = λ prefix c rest p s r. same.recorded prefix (c ∷ rest) p (All-cons IsScalar c rest s r);
      digit = same.digit;
      ranged_primary = same.ranged_primary;
      numeric_lead = same.numeric_lead;
      dot_above = same.dot_above;
    }

pub elements_same : (a b : Canonical) (v w : Weights) (numeric : Bool) → AreSameCanonical a b → AreSameWeights v w
    → (list : List ℕ) → All IsScalar list → elements_of_list a v numeric list ≡ elements_of_list b w numeric list
elements_same a b v w numeric canonical same list h = alike_elements IsScalar a b v w numeric canonical.class (weights_alike v w same) list h
