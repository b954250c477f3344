-- What some lines say is what they say with more lines after them, or nothing.
use Rattle.std.proofs.Common.{◌≡◌, ℕ, ◌==◌, ◌&&◌, ltb, List, [], ◌∷◌, ◌++◌, ◌⊎◌, inl, inr, ⊎_elim, Bool, true, false, cond, not, Option, Some, None, refl, sym, ap, ◌∙◌, subst, arith}
use Rattle.std.specs.Option.{is_some, option_or, unwrap_or}
use Rattle.std.proofs.lemmas.Bool.{eq-eqb, eqb-true, false≢true}
use Rattle.std.proofs.lemmas.Bool.Decides.{nat_tests}
use Rattle.std.proofs.lemmas.Option.{cond_some, none-some, same_Some}
use Rattle.icu_normalizer_core.specs.BuiltIn.{built_in_class, built_in_step, is_built_in, syllable_of}
use Rattle.collate_lines.specs.Record.{Record, nothing, class, mapping, compatibility, weights, range, digit, setting}
use Rattle.collate_lines.specs.Repeats.{record_at}
use Rattle.collate_rules.specs.LowParts.{IsAlwaysPair}
use Rattle.collate_rules.specs.Meaning.{class_in, class_of, compatibility_in, compatibility_of, composed_in, first_found, mapping_in, pair_of, step_of}
use Rattle.collate_rules.specs.PartMaps.{excluded_in, is_excluded}
use Rattle.collate_rules.proofs.lookups.FoundLemmas.{found_at}
use Rattle.collate_rules.proofs.lookups.RuleLookupLemmas.{first_found-append}

-- ---- Lines, and more lines after them

module _ (lines more all : List Record) (whole : lines ++ more ≡ all) where
  stays : {B : Type 0} (f : Record → Option B) (y : B) → first_found f lines ≡ Some y → first_found f all ≡ Some y
  stays {B} f y e =
      subst (λ (l : List Record). first_found f l ≡ Some y) whole
      (first_found-append f lines more ∙ ap (λ (o : Option B). option_or o (first_found f more)) e)

  found_by : {B : Type 0} (f : Record → Option B) (o : Option B) → first_found f lines ≡ o → (first_found f lines ≡ None) ⊎ (first_found f lines ≡ first_found f all)
  found_by f None e = inl e
  found_by f (Some y) e = inr (e ∙ sym (stays f y e))

  found : {B : Type 0} (f : Record → Option B) → (first_found f lines ≡ None) ⊎ (first_found f lines ≡ first_found f all)
  found f = found_by f (first_found f lines) refl

  class_by : (b o p : Option ℕ) → (o ≡ None) ⊎ (o ≡ p) → (unwrap_or b (unwrap_or o 0) ≡ 0) ⊎ (unwrap_or b (unwrap_or o 0) ≡ unwrap_or b (unwrap_or p 0))
  class_by (Some k) o p h = inr refl
  class_by None o p h = ⊎_elim (λ e. inl (ap (λ (x : Option ℕ). unwrap_or x 0) e)) (λ e. inr (ap (λ (x : Option ℕ). unwrap_or x 0) e)) h

  pub class_begun : (c : ℕ) → (class_of lines c ≡ 0) ⊎ (class_of lines c ≡ class_of all c)
  class_begun c = class_by (built_in_class c) (first_found (class_in c) lines) (first_found (class_in c) all) (found (class_in c))

  list_by : (b : Bool) (built : List ℕ) (o p : Option (List ℕ)) → (o ≡ None) ⊎ (o ≡ p)
      → (cond b built (unwrap_or o []) ≡ []) ⊎ (cond b built (unwrap_or o []) ≡ cond b built (unwrap_or p []))
  list_by true built o p h = inr refl
  list_by false built o p h =
      ⊎_elim (λ e. inl (ap (λ (x : Option (List ℕ)). unwrap_or x []) e)) (λ e. inr (ap (λ (x : Option (List ℕ)). unwrap_or x []) e)) h

  pub step_begun : (c : ℕ) → (step_of lines c ≡ []) ⊎ (step_of lines c ≡ step_of all c)
  step_begun c = list_by (is_built_in c) (unwrap_or (built_in_step c) []) (first_found (mapping_in c) lines) (first_found (mapping_in c) all) (found (mapping_in c))

  compatibility_begun : (c : ℕ) → (compatibility_of lines c ≡ []) ⊎ (compatibility_of lines c ≡ compatibility_of all c)
  compatibility_begun c = list_by (is_built_in c) [] (first_found (compatibility_in c) lines) (first_found (compatibility_in c) all) (found (compatibility_in c))

  pub class_none : (c : ℕ) → class_of all c ≡ 0 → class_of lines c ≡ 0
  class_none c starts = ⊎_elim (λ e. e) (λ same. same ∙ starts) (class_begun c)

  pub step_none : (c : ℕ) → step_of all c ≡ [] → step_of lines c ≡ []
  step_none c none = ⊎_elim (λ e. e) (λ same. same ∙ none) (step_begun c)

  pub compatibility_none : (c : ℕ) → compatibility_of all c ≡ [] → compatibility_of lines c ≡ []
  compatibility_none c none = ⊎_elim (λ e. e) (λ same. same ∙ none) (compatibility_begun c)

  pub excluded_none : (c : ℕ) → is_excluded all c ≡ false → is_excluded lines c ≡ false
  excluded_none c none = ⊎_elim (λ e. ap (λ (x : Option Bool). unwrap_or x false) e) (λ same. ap (λ (x : Option Bool). unwrap_or x false) same ∙ none) (found (excluded_in c))

-- ---- Marks in order stay so

-- whether a mark of one class goes before a character of another
abbrev goes_before : ℕ → ℕ → Bool
goes_before k l = ltb 0 k && ltb k l

none_goes : (k l : ℕ) → k ≡ 0 → goes_before k l ≡ false
none_goes k l e = grind (arith, nat_tests)

none_lower : (k l : ℕ) → l ≡ 0 → goes_before k l ≡ false
none_lower k l e = grind (arith, nat_tests)

goes_as : (k l m n : ℕ) → (m ≡ 0) ⊎ (m ≡ k) → (n ≡ 0) ⊎ (n ≡ l) → goes_before k l ≡ false → goes_before m n ≡ false
goes_as k l m n first second apart =
    ⊎_elim (λ e. none_goes m n e)
    (λ same. ⊎_elim (λ e. none_lower m n e) (λ also. ap (λ (x : ℕ). goes_before x n) same ∙ ap (goes_before k) also ∙ apart) second)
    first

pub stays_apart : (lines more all : List Record) → lines ++ more ≡ all → (c d : ℕ)
    → (ltb 0 (class_of all d) && ltb (class_of all d) (class_of all c)) ≡ false → (ltb 0 (class_of lines d) && ltb (class_of lines d) (class_of lines c)) ≡ false
stays_apart lines more all whole c d apart =
    goes_as (class_of all d) (class_of all c) (class_of lines d) (class_of lines c) (class_begun lines more all whole d) (class_begun lines more all whole c) apart

-- ---- A composed pair

not_true : (b : Bool) → not b ≡ true → b ≡ false
not_true true e = absurd (false≢true e)
not_true false e = refl

composed_free : (a b x : ℕ) (s : Record) → composed_in a b s ≡ Some x → is_built_in x ≡ false
composed_free a b x nothing e = absurd (none-some x e)
composed_free a b x (class c k) e = absurd (none-some x e)
composed_free a b x (mapping c [] m) e = absurd (none-some x e)
composed_free a b x (mapping c (d ∷ []) m) e = absurd (none-some x e)
composed_free a b x (mapping c (d ∷ f ∷ []) true) e = absurd (none-some x e)
composed_free a b x (mapping c (d ∷ f ∷ []) false) e =
    let w = cond_some ((a == d) && (b == f) && not (is_built_in c)) c x e in
    let free : not (is_built_in c) ≡ true = third (a == d) (b == f) (not (is_built_in c)) w.0 in
    subst (λ (n : ℕ). is_built_in n ≡ false) w.1 (not_true (is_built_in c) free)
  where
    third : (p q r : Bool) → (p && q && r) ≡ true → r ≡ true
    third true true r h = h
    third true false true h = refl
    third true false false h = h
    third false true true h = refl
    third false true false h = h
    third false false true h = refl
    third false false false h = h
composed_free a b x (mapping c (d ∷ f ∷ g ∷ ds) m) e = absurd (none-some x e)
composed_free a b x (compatibility c ds) e = absurd (none-some x e)
composed_free a b x (weights l p t es) e = absurd (none-some x e)
composed_free a b x (range r) e = absurd (none-some x e)
composed_free a b x (digit c v) e = absurd (none-some x e)
composed_free a b x (setting s) e = absurd (none-some x e)

pair_free : (lines : List Record) (a b x : ℕ) → first_found (composed_in a b) lines ≡ Some x → is_built_in x ≡ false
pair_free lines a b x e =
    let w = found_at (composed_in a b) lines x e in composed_free a b x (record_at lines w.0) w.2

-- a line that maps a character to two composes them
composes_here : (a b d : ℕ) → is_built_in d ≡ false → composed_in a b (mapping d (a ∷ b ∷ []) false) ≡ Some d
composes_here a b d free = rw (eq-eqb a a refl, eq-eqb b b refl, free) refl

some_first : {B : Type 0} (y : B) (o p : Option B) → o ≡ Some y → is_some (elim o [ Some z ↦ Some z | None ↦ p ]) ≡ true
some_first {B} y o p e = ap (λ (q : Option B). is_some (elim q as (λ _. Option B) [ Some z ↦ Some z | None ↦ p ])) e

some_later : {B : Type 0} (o p : Option B) → is_some p ≡ true → is_some (elim o [ Some z ↦ Some z | None ↦ p ]) ≡ true
some_later (Some y) p h = refl
some_later None p h = h

composes_by : (x a b d : ℕ) (ds : List ℕ) (m : Bool) (ss : List Record) (t : Bool) → (x == d) ≡ t → is_built_in x ≡ false
    → (first_found (mapping_in x) ss ≡ Some (a ∷ b ∷ []) → is_excluded ss x ≡ false → is_some (first_found (composed_in a b) ss) ≡ true)
    → (elim (cond t (Some ds) None) [ Some z ↦ Some z | None ↦ first_found (mapping_in x) ss ]) ≡ Some (a ∷ b ∷ [])
    → unwrap_or (elim (cond t (Some m) None) [ Some z ↦ Some z | None ↦ first_found (excluded_in x) ss ]) false ≡ false
    → is_some (elim (composed_in a b (mapping d ds m)) [ Some z ↦ Some z | None ↦ first_found (composed_in a b) ss ]) ≡ true
composes_by x a b d ds m ss true at free later maps lets =
    let same : x ≡ d = eqb-true x d at in
    let list : ds ≡ a ∷ b ∷ [] = same_Some ds (a ∷ b ∷ []) maps in
    let here : composed_in a b (mapping d ds m) ≡ Some d =
    subst (λ (l : List ℕ). composed_in a b (mapping d l m) ≡ Some d) (sym list)
    (subst (λ (q : Bool). composed_in a b (mapping d (a ∷ b ∷ []) q) ≡ Some d) (sym lets) (composes_here a b d (subst (λ (n : ℕ). is_built_in n ≡ false) same free))) in
    some_first d (composed_in a b (mapping d ds m)) (first_found (composed_in a b) ss) here
composes_by x a b d ds m ss false at free later maps lets =
    some_later (composed_in a b (mapping d ds m)) (first_found (composed_in a b) ss) (later maps lets)

composes_some : (x a b : ℕ) → is_built_in x ≡ false → (lines : List Record) → first_found (mapping_in x) lines ≡ Some (a ∷ b ∷ []) → is_excluded lines x ≡ false
    → is_some (first_found (composed_in a b) lines) ≡ true
composes_some x a b free [] maps lets = absurd (none-some (a ∷ b ∷ []) maps)
composes_some x a b free (nothing ∷ ss) maps lets = composes_some x a b free ss maps lets
composes_some x a b free (class d k ∷ ss) maps lets = composes_some x a b free ss maps lets
composes_some x a b free (mapping d ds m ∷ ss) maps lets =
    composes_by x a b d ds m ss (x == d) refl free (composes_some x a b free ss) maps lets
composes_some x a b free (compatibility d ds ∷ ss) maps lets = composes_some x a b free ss maps lets
composes_some x a b free (weights l p t es ∷ ss) maps lets = composes_some x a b free ss maps lets
composes_some x a b free (range r ∷ ss) maps lets = composes_some x a b free ss maps lets
composes_some x a b free (digit d v ∷ ss) maps lets = composes_some x a b free ss maps lets
composes_some x a b free (setting s ∷ ss) maps lets = composes_some x a b free ss maps lets

free_maps : (t : Bool) (built : List ℕ) (a b : ℕ) (o : Option (List ℕ)) → t ≡ false → cond t built (unwrap_or o []) ≡ a ∷ b ∷ [] → o ≡ Some (a ∷ b ∷ [])
free_maps true built a b o free e = absurd (false≢true (sym free))
free_maps false built a b None free e = let nothing_there : [] ≡ a ∷ b ∷ [] = e in absurd cc
free_maps false built a b (Some es) free e = ap (λ (l : List ℕ). Some l) e

module _ (lines more all : List Record) (whole : lines ++ more ≡ all) where
  same_pair : (a b x : ℕ) (o : Option ℕ) → first_found (composed_in a b) lines ≡ o → is_some o ≡ true → first_found (composed_in a b) all ≡ Some x
      → first_found (composed_in a b) lines ≡ Some x
  same_pair a b x None e h composes = absurd (false≢true h)
  same_pair a b x (Some y) e h composes =
      let after : first_found (composed_in a b) all ≡ Some y = stays lines more all whole (composed_in a b) y e in
      e ∙ sym after ∙ composes

  pair_by : (c a b : ℕ) (o : Option ℕ) → syllable_of a b ≡ o → IsAlwaysPair all c a b → step_of lines c ≡ a ∷ b ∷ [] → pair_of lines a b ≡ Some c
  pair_by c a b (Some s) e always step =
      ap (λ (q : Option ℕ). elim q as (λ _. Option ℕ) [ Some z ↦ Some z | None ↦ first_found (composed_in a b) lines ]) e
      ∙ sym (ap (λ (q : Option ℕ). elim q as (λ _. Option ℕ) [ Some z ↦ Some z | None ↦ first_found (composed_in a b) all ]) e) ∙ always.composes
  pair_by c a b None e always step =
      let in_all : first_found (composed_in a b) all ≡ Some c =
      sym (ap (λ (q : Option ℕ). elim q as (λ _. Option ℕ) [ Some z ↦ Some z | None ↦ first_found (composed_in a b) all ]) e) ∙ always.composes in
      let free : is_built_in c ≡ false = pair_free all a b c in_all in
      let lets : is_excluded all c ≡ false = ⊎_elim (λ built. absurd (false≢true (sym free ∙ built))) (λ none. none) always.lets in
      let maps : first_found (mapping_in c) lines ≡ Some (a ∷ b ∷ []) = free_maps (is_built_in c) (unwrap_or (built_in_step c) []) a b (first_found (mapping_in c) lines) free step in
      let some = composes_some c a b free lines maps (excluded_none lines more all whole c lets) in
      ap (λ (q : Option ℕ). elim q as (λ _. Option ℕ) [ Some z ↦ Some z | None ↦ first_found (composed_in a b) lines ]) e
      ∙ same_pair a b c (first_found (composed_in a b) lines) refl some in_all

  -- once a character is mapped to two characters, they compose to it
  pub pair_begun : (c a b : ℕ) → IsAlwaysPair all c a b → step_of lines c ≡ a ∷ b ∷ [] → pair_of lines a b ≡ Some c
  pair_begun c a b = pair_by c a b (syllable_of a b) refl
