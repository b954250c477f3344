-- Lists of placed characters that are alike, character by character, are read alike.
use Rattle.std.proofs.Common.{◌≡◌, ℕ, zero, suc, ◌+◌, ◌==◌, Bool, true, false, cond, ◌&&◌, ◌||◌, ltb, leb, List, [], ◌∷◌, ◌++◌, reverse, length, take, drop, refl, sym, ap, ◌∙◌, ◌⊎◌, inl, inr, Option, Some, None}
use Rattle.std.specs.Prelude.{filter_map}
use Rattle.std.specs.List.{list_all, prefix_len}
use Rattle.std.specs.Option.{unwrap_or, is_some}
use Rattle.icu_normalizer_core.specs.Canonical.{Canonical}
use Rattle.icu_collator_types.specs.declared.elements.Element.{Element}
use Rattle.icu_collator_core.specs.Weights.{Weights}
use Rattle.icu_collator_core.specs.Defaults.{special_primary, primary_element, default_elements}
use Rattle.icu_collator_core.specs.Numbers.{number_elements}
use Rattle.icu_collator_core.specs.AlikeLists.{AreAlike}
use Rattle.icu_collator_core.specs.Elements.{Placed, Reading, Joining, characters_of, behind_prefix, match_length, prefix_match, joining, text_match, text_reading, digit_count, number_reading, is_before_accent, reading, elements_within}

-- the choice among the kinds of reading
abbrev pub chosen : Option ℕ → (ℕ → Reading) → Bool → Reading → Bool → Reading → Option (List Element) → (List Element → Reading) → Reading → Reading
chosen special of_special is_number number is_dropped dropped prefixed of_prefix text =
    let undotted = cond is_dropped dropped (elim prefixed [ Some es ↦ of_prefix es | None ↦ text ])
    in elim special [ Some s ↦ of_special s | None ↦ cond is_number number undotted ]

pub reading_is : (canonical : Canonical) (weights : Weights) (numeric : Bool) (p : Placed) (ps : List Placed)
    → reading canonical weights numeric p ps
    ≡ chosen (special_primary p.character) (λ s. record { elements = primary_element s ∷ []; left = ps })
    (numeric && is_some (weights.digit p.character)) (number_reading weights (p ∷ ps))
    (weights.dot_above && (p.character == 0x307) && is_before_accent ps) (record { elements = []; left = ps })
    (prefix_match weights p) (λ es. record { elements = es; left = ps })
    (text_reading canonical weights p.character (p ∷ ps))
unfolding reading
reading_is canonical weights numeric p ps = refl

-- two choices by the same tests are as what is chosen from
pub chosen_alike : (Q : Reading → Reading → Type 0) (o : Option ℕ) (f f' : ℕ → Reading) (a : Bool) (n n' : Reading) (b : Bool) (d d' : Reading)
    (m : Option (List Element)) (g g' : List Element → Reading) (t t' : Reading)
    → ((s : ℕ) → Q (f s) (f' s)) → (a ≡ true → Q n n') → Q d d' → ((es : List Element) → Q (g es) (g' es)) → Q t t'
    → Q (chosen o f a n b d m g t) (chosen o f' a n' b d' m g' t')
chosen_alike Q (Some s) f f' a n n' b d d' m g g' t t' h i j k l = h s
chosen_alike Q None f f' true n n' b d d' m g g' t t' h i j k l = i refl
chosen_alike Q None f f' false n n' true d d' m g g' t t' h i j k l = j
chosen_alike Q None f f' false n n' false d d' (Some es) g g' t t' h i j k l = k es
chosen_alike Q None f f' false n n' false d d' None g g' t t' h i j k l = l

pub characters_alike : (weights : Weights) (ps qs : List Placed) → AreAlike weights ps qs → characters_of ps ≡ characters_of qs
characters_alike weights [] [] h = refl
characters_alike weights [] (q ∷ qs) h = absurd h
characters_alike weights (p ∷ ps) [] h = absurd h
characters_alike weights (p ∷ ps) (q ∷ qs) h = cc (h.0, characters_alike weights ps qs h.2)

pub append_alike : (weights : Weights) (ps qs rs ss : List Placed) → AreAlike weights ps qs → AreAlike weights rs ss → AreAlike weights (ps ++ rs) (qs ++ ss)
append_alike weights [] [] rs ss h g = g
append_alike weights [] (q ∷ qs) rs ss h g = absurd h
append_alike weights (p ∷ ps) [] rs ss h g = absurd h
append_alike weights (p ∷ ps) (q ∷ qs) rs ss h g = (h.0, h.1, append_alike weights ps qs rs ss h.2 g)

pub drop_alike : (weights : Weights) (n : ℕ) (ps qs : List Placed) → AreAlike weights ps qs → AreAlike weights (drop n ps) (drop n qs)
drop_alike weights zero ps qs h = h
drop_alike weights (suc n) [] [] h = tt
drop_alike weights (suc n) [] (q ∷ qs) h = absurd h
drop_alike weights (suc n) (p ∷ ps) [] h = absurd h
drop_alike weights (suc n) (p ∷ ps) (q ∷ qs) h = drop_alike weights n ps qs h.2

-- what is asked of placed characters alone is asked of their characters
all_of : (f : ℕ → Bool) (ps : List Placed) → list_all (λ b. f b.character) ps ≡ list_all f (characters_of ps)
all_of f [] = refl
all_of f (p ∷ ps) = ap (λ (b : Bool). f p.character && b) (all_of f ps)

pub count_of : (weights : Weights) (ps : List Placed) → digit_count weights ps ≡ prefix_len (λ c. is_some (weights.digit c)) (characters_of ps)
count_of weights [] = refl
count_of weights (p ∷ ps) = ap (λ (n : ℕ). cond (is_some (weights.digit p.character)) (1 + n) 0) (count_of weights ps)

pub taken_of : (weights : Weights) (n : ℕ) (ps : List Placed)
    → filter_map (λ p. weights.digit p.character) (take n ps) ≡ filter_map weights.digit (take n (characters_of ps))
taken_of weights zero ps = refl
taken_of weights (suc n) [] = refl
taken_of weights (suc n) (p ∷ ps) = cc (taken_of weights n ps)

accent_alike : (weights : Weights) (ps qs : List Placed) → AreAlike weights ps qs → is_before_accent ps ≡ is_before_accent qs
unfolding is_before_accent
accent_alike weights [] [] h = refl
accent_alike weights [] (q ∷ qs) h = absurd h
accent_alike weights (p ∷ ps) [] h = absurd h
accent_alike weights (p ∷ ps) (q ∷ qs) h = ap (λ (c : ℕ). (c == 0x300) || (c == 0x301) || (c == 0x303)) h.0

pub record JoinAlike (weights : Weights) (a b : Joining) : Type 0 where
  text : a.text ≡ b.text
  left : AreAlike weights a.left b.left

pub record ReadAlike (weights : Weights) (a b : Reading) : Type 0 where
  elements : a.elements ≡ b.elements
  left : AreAlike weights a.left b.left

pub two_ways : (b c : Bool) (x y z x' y' z' : Joining) (Q : Joining → Joining → Type 0) → Q x x' → Q y y' → Q z z'
    → Q (cond b x (cond c y z)) (cond b x' (cond c y' z'))
two_ways true c x y z x' y' z' Q h i j = h
two_ways false true x y z x' y' z' Q h i j = i
two_ways false false x y z x' y' z' Q h i j = j

abbrev joining_choice : Canonical → Weights → List ℕ → List Placed → ℕ → Joining → Joining → Joining → Joining
joining_choice canonical weights text between m done joined stays =
    cond (canonical.class m == 0) done
    (cond (list_all (λ b. ltb (canonical.class b.character) (canonical.class m)) between && is_some (weights.recorded [] (text ++ m ∷ []))) joined stays)

choice_alike : (canonical : Canonical) (weights : Weights) (text : List ℕ) (between others : List Placed) (m n : ℕ) (d d' j j' s s' : Joining)
    → AreAlike weights between others → m ≡ n → JoinAlike weights d d' → JoinAlike weights j j' → JoinAlike weights s s'
    → JoinAlike weights (joining_choice canonical weights text between m d j s) (joining_choice canonical weights text others n d' j' s')
choice_alike canonical weights text between others m n d d' j j' s s' h e hd hj hs =
    let seen : (c : ℕ) → list_all (λ b. ltb (canonical.class b.character) (canonical.class c)) between ≡ list_all (λ b. ltb (canonical.class b.character) (canonical.class c)) others =
    λ c. all_of (λ x. ltb (canonical.class x) (canonical.class c)) between
    ∙ ap (list_all (λ x. ltb (canonical.class x) (canonical.class c))) (characters_alike weights between others h)
    ∙ sym (all_of (λ x. ltb (canonical.class x) (canonical.class c)) others)
    in rw (e, seen n)
    (two_ways (canonical.class n == 0)
    (list_all (λ b. ltb (canonical.class b.character) (canonical.class n)) others && is_some (weights.recorded [] (text ++ n ∷ [])))
    d j s d' j' s' (JoinAlike weights) hd hj hs)

joining_alike : (canonical : Canonical) (weights : Weights) (text : List ℕ) (between others ms ns : List Placed)
    → AreAlike weights between others → AreAlike weights ms ns
    → JoinAlike weights (joining canonical weights text between ms) (joining canonical weights text others ns)
unfolding joining
joining_alike canonical weights text between others [] [] h g = record { text = refl; left = h }
joining_alike canonical weights text between others [] (n ∷ ns) h g = absurd g
joining_alike canonical weights text between others (m ∷ ms) [] h g = absurd g
joining_alike canonical weights text between others (m ∷ ms) (n ∷ ns) h g =
    let longer : text ++ m.character ∷ [] ≡ text ++ n.character ∷ [] = ap (λ (c : ℕ). text ++ c ∷ []) g.0
    in let joined : JoinAlike weights (joining canonical weights (text ++ m.character ∷ []) between ms) (joining canonical weights (text ++ n.character ∷ []) others ns) =
    rw longer (joining_alike canonical weights (text ++ n.character ∷ []) between others ms ns h g.2)
    in choice_alike canonical weights text between others m.character n.character
    (record { text = text; left = between ++ m ∷ ms }) (record { text = text; left = others ++ n ∷ ns })
    (joining canonical weights (text ++ m.character ∷ []) between ms) (joining canonical weights (text ++ n.character ∷ []) others ns)
    (joining canonical weights text (between ++ m ∷ []) ms) (joining canonical weights text (others ++ n ∷ []) ns)
    h g.0
    (record { text = refl; left = append_alike weights between others (m ∷ ms) (n ∷ ns) h g })
    joined
    (joining_alike canonical weights text (between ++ m ∷ []) (others ++ n ∷ []) ms ns (append_alike weights between others (m ∷ []) (n ∷ []) h (g.0, g.1, tt)) g.2)

text_alike : (canonical : Canonical) (weights : Weights) (c d : ℕ) (ps qs : List Placed) → c ≡ d → AreAlike weights ps qs
    → ReadAlike weights (text_reading canonical weights c ps) (text_reading canonical weights d qs)
unfolding text_reading text_match
text_alike canonical weights c d ps qs e h =
    let same = characters_alike weights ps qs h
    in let n = match_length weights (characters_of qs)
    in let front = take n (characters_of qs)
    in let alike = joining_alike canonical weights front [] [] (drop n ps) (drop n qs) tt (drop_alike weights n ps qs h)
    in rw (same, e)
    (record {
      elements = ap (λ (text : List ℕ). unwrap_or (weights.recorded [] text) (default_elements weights d)) alike.text;
      left = alike.left;
    })

number_alike : (weights : Weights) (ps qs : List Placed) → AreAlike weights ps qs
    → ReadAlike weights (number_reading weights ps) (number_reading weights qs)
unfolding number_reading
number_alike weights ps qs h =
    let same = characters_alike weights ps qs h
    in let n = digit_count weights qs
    in let count : digit_count weights ps ≡ n = count_of weights ps ∙ ap (prefix_len (λ c. is_some (weights.digit c))) same ∙ sym (count_of weights qs)
    in record {
      elements =
          ap (λ (k : ℕ). number_elements weights.numeric_lead (filter_map (λ p. weights.digit p.character) (take k ps))) count
          ∙ ap (number_elements weights.numeric_lead)
          (taken_of weights n ps ∙ ap (λ (w : List ℕ). filter_map weights.digit (take n w)) same ∙ sym (taken_of weights n qs));
      left = rw count (drop_alike weights n ps qs h);
    }

reading_alike : (canonical : Canonical) (weights : Weights) (numeric : Bool) (p q : Placed) (ps qs : List Placed) → AreAlike weights (p ∷ ps) (q ∷ qs)
    → ReadAlike weights (reading canonical weights numeric p ps) (reading canonical weights numeric q qs)
reading_alike canonical weights numeric p q ps qs h =
    rw (reading_is canonical weights numeric p ps, reading_is canonical weights numeric q qs)
    (rw (h.1, accent_alike weights ps qs h.2)
    (rw (ap special_primary h.0, ap (λ (c : ℕ). is_some (weights.digit c)) h.0, ap (λ (c : ℕ). c == 0x307) h.0)
    (chosen_alike (ReadAlike weights) (special_primary q.character) _ _ (numeric && is_some (weights.digit q.character)) _ _
    (weights.dot_above && (q.character == 0x307) && is_before_accent qs) _ _ (prefix_match weights q) _ _ _ _
    (λ s. record { elements = refl; left = h.2 })
    (λ _. number_alike weights (p ∷ ps) (q ∷ qs) h)
    (record { elements = refl; left = h.2 })
    (λ es. record { elements = refl; left = h.2 })
    (text_alike canonical weights p.character q.character (p ∷ ps) (q ∷ qs) h.0 h))))

-- lists that are alike have the same elements
pub elements_alike : (canonical : Canonical) (weights : Weights) (numeric : Bool) (n : ℕ) (ps qs : List Placed) → AreAlike weights ps qs
    → elements_within n canonical weights numeric ps ≡ elements_within n canonical weights numeric qs
unfolding elements_within
elements_alike canonical weights numeric zero ps qs h = refl
elements_alike canonical weights numeric (suc n) [] [] h = refl
elements_alike canonical weights numeric (suc n) [] (q ∷ qs) h = absurd h
elements_alike canonical weights numeric (suc n) (p ∷ ps) [] h = absurd h
elements_alike canonical weights numeric (suc n) (p ∷ ps) (q ∷ qs) h =
    let alike = reading_alike canonical weights numeric p q ps qs h
    in cc (alike.elements, elements_alike canonical weights numeric n (reading canonical weights numeric p ps).left (reading canonical weights numeric q qs).left alike.left)

-- ---- What stands before

none_either_way : {A : Type 0} (b : Bool) (o : Option A) → o ≡ None → cond b o None ≡ None
none_either_way true o e = e
none_either_way false o e = refl

-- after other characters there is the same record: the prefixes are the same, or neither is recorded
pub behind_alike : (weights : Weights) (c n : ℕ) (xs ys : List ℕ)
    → ((take n xs ≡ take n ys) × (leb n (length xs) ≡ leb n (length ys)))
    ⊎ ((weights.recorded (reverse (take n xs)) (c ∷ []) ≡ None) × (weights.recorded (reverse (take n ys)) (c ∷ []) ≡ None))
    → behind_prefix weights (record { character = c; before = xs }) n ≡ behind_prefix weights (record { character = c; before = ys }) n
behind_alike weights c n xs ys (inl same) = cc (same.0, same.1)
behind_alike weights c n xs ys (inr none) =
    none_either_way (ltb 0 n && leb n (length xs)) (weights.recorded (reverse (take n xs)) (c ∷ [])) none.0
    ∙ sym (none_either_way (ltb 0 n && leb n (length ys)) (weights.recorded (reverse (take n ys)) (c ∷ [])) none.1)
