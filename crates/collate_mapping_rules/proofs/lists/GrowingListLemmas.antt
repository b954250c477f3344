-- Full lists as more and more parts say the mappings, where these map no mark: a bad one stays bad.
use Rattle.std.proofs.Common.{◌≡◌, ◌≢◌, ℕ, zero, suc, ◌≤◌, List, [], ◌∷◌, ◌++◌, length, map, take, drop, flat_map, refl, sym, ap, ◌∙◌, subst, arith, ◌⊎◌, inl, inr, ⊎_elim, Bool, true, false, cond, not, ◌&&◌, ◌||◌, ◌==◌, Option, Some, None, length-append}
use Rattle.std.specs.List.{slice_get}
use Rattle.std.specs.Option.{is_some, option_or, unwrap_or}
use Rattle.std.proofs.lemmas.Bool.{false≢true, not-true, eq-eqb, ne_eqb}
use Rattle.icu_normalizer_core.specs.BuiltIn.{built_in_class, built_in_step, built_in_compatibility_step, is_built_in}
use Rattle.collate_lines.specs.Record.{Record}
use Rattle.collate_rules.specs.declared.canonical_part.CanonicalPart.{CanonicalPart}
use Rattle.collate_rules.specs.Meaning.{any_step, class_in, class_of, compatibility_in, else_mapped, expanded, first_found, mapping_in, step_of}
use Rattle.collate_rules.specs.Rules.{begins_with_mark, HasBadList, IsBadList, is_mapped, is_mapped_twice, MapsMark}
use Rattle.collate_rules.specs.CanonicalParts.{in_full}
use Rattle.collate_rules.proofs.lists.RuleFullListLemmas.{by_first, expanded-suc, expanded_none, expanded_unmapped}
use Rattle.collate_rules.proofs.lookups.RuleLookupLemmas.{first_found-append}
use Rattle.collate_mapping_rules.proofs.mappings.GrowingStepLemmas.{Grows, any_step-grows, parts_split, step_of-grows}

-- ---- Expanding by steps that grow

some_by : (step : ℕ → List ℕ) (n c : ℕ) (given : List ℕ) → step c ≡ given → ((d : ℕ) → 1 ≤ length (expanded step n d)) → 1 ≤ length (expanded step (suc n) c)
some_by step n c [] e later = let count = ap length (expanded_unmapped step (suc n) c e) in omega arith
some_by step n c (d ∷ ds) e later =
    let made = ap length (expanded-suc step n c ∙ ap (by_first step n c) e) in
    let parts = length-append (expanded step n d) (flat_map (expanded step n) ds) in
    let one = later d in
    omega arith

-- a full list is never empty
some_left : (step : ℕ → List ℕ) (n c : ℕ) → 1 ≤ length (expanded step n c)
some_left step zero c = let count = ap length (expanded_none step 0 c refl) in omega arith
some_left step (suc n) c = some_by step n c (step c) refl (some_left step n)

flat_le : (f g : ℕ → List ℕ) → ((x : ℕ) → length (f x) ≤ length (g x)) → (xs : List ℕ) → length (flat_map f xs) ≤ length (flat_map g xs)
flat_le f g less [] = omega arith
flat_le f g less (x ∷ xs) =
    let a = length-append (f x) (flat_map f xs) in
    let b = length-append (g x) (flat_map g xs) in
    let here = less x in
    let later = flat_le f g less xs in
    omega arith

first_kept : (xs ys : List ℕ) → 1 ≤ length xs → slice_get (xs ++ ys) 0 ≡ slice_get xs 0
first_kept [] ys some = absurd (omega arith)
first_kept (x ∷ xs) ys some = refl

module _ (before after : ℕ → List ℕ) (grows : Grows before after) where
  longer_by : (n c : ℕ) (given : List ℕ) → before c ≡ given → after c ≡ given → ((d : ℕ) → length (expanded before n d) ≤ length (expanded after n d))
      → length (expanded before (suc n) c) ≤ length (expanded after (suc n) c)
  longer_by n c [] e f later =
      let a = ap length (expanded_unmapped before (suc n) c e) in
      let b = ap length (expanded_unmapped after (suc n) c f) in
      omega arith
  longer_by n c (d ∷ ds) e f later =
      let a = ap length (expanded-suc before n c ∙ ap (by_first before n c) e) in
      let b = ap length (expanded-suc after n c ∙ ap (by_first after n c) f) in
      let all = flat_le (expanded before n) (expanded after n) later (d ∷ ds) in
      omega arith

  -- a full list only grows
  longer : (n c : ℕ) → length (expanded before n c) ≤ length (expanded after n c)
  longer zero c =
      let a = ap length (expanded_none before 0 c refl) in
      let b = ap length (expanded_none after 0 c refl) in
      omega arith
  longer (suc n) c =
      ⊎_elim
      (λ (none : before c ≡ []).
      let a = ap length (expanded_unmapped before (suc n) c none) in
      let b = some_left after (suc n) c in
      omega arith)
      (λ (same : before c ≡ after c). longer_by n c (after c) same refl (longer n))
      (grows c)

  -- The first character of a list stays, or it is one that is mapped later.
  abbrev Stays : ℕ → ℕ → ℕ → Type 0
  Stays n c f = (slice_get (expanded after n c) 0 ≡ Some f) ⊎ ((before f ≡ []) × (after f ≢ []))

  first_alone : (n c f : ℕ) (given : List ℕ) → after c ≡ given → before c ≡ [] → Some c ≡ Some f → Stays n c f
  first_alone n c f [] e none same = inl (ap (λ (l : List ℕ). slice_get l 0) (expanded_unmapped after n c e) ∙ same)
  first_alone n c f (d ∷ ds) e none same =
      let at : c ≡ f = cc in
      inr (sym (ap before at) ∙ none, λ h. let g = ap after at in cc)

  first_by : (n c f : ℕ) (given : List ℕ) → before c ≡ given → after c ≡ given
      → ((d : ℕ) → slice_get (expanded before n d) 0 ≡ Some f → Stays n d f)
      → slice_get (expanded before (suc n) c) 0 ≡ Some f → Stays (suc n) c f
  first_by n c f [] e g later h =
      inl (ap (λ (l : List ℕ). slice_get l 0) (expanded_unmapped after (suc n) c g ∙ sym (expanded_unmapped before (suc n) c e)) ∙ h)
  first_by n c f (d ∷ ds) e g later h =
      let a = ap (λ (l : List ℕ). slice_get l 0) (expanded-suc before n c ∙ ap (by_first before n c) e)
      ∙ first_kept (expanded before n d) (flat_map (expanded before n) ds) (some_left before n d) in
      let b = ap (λ (l : List ℕ). slice_get l 0) (expanded-suc after n c ∙ ap (by_first after n c) g)
      ∙ first_kept (expanded after n d) (flat_map (expanded after n) ds) (some_left after n d) in
      ⊎_elim (λ stays. inl (b ∙ stays)) (λ mapped. inr mapped) (later d (sym a ∙ h))

  first_stays : (n c f : ℕ) → slice_get (expanded before n c) 0 ≡ Some f → Stays n c f
  first_stays zero c f h = inl (ap (λ (l : List ℕ). slice_get l 0) (expanded_none after 0 c refl ∙ sym (expanded_none before 0 c refl)) ∙ h)
  first_stays (suc n) c f h =
      ⊎_elim
      (λ (none : before c ≡ []).
      first_alone (suc n) c f (after c) refl none (sym (ap (λ (l : List ℕ). slice_get l 0) (expanded_unmapped before (suc n) c none)) ∙ h))
      (λ (same : before c ≡ after c). first_by n c f (after c) same refl (λ d e. first_stays n d f e) h)
      (grows c)

-- ---- What lines and more lines say

-- a class other than 0 stays
class_by : (built o p : Option ℕ) (b : Bool) → b ≡ not (unwrap_or built (unwrap_or o 0) == 0) → b ≡ true
    → not (unwrap_or built (unwrap_or (option_or o p) 0) == 0) ≡ true
class_by (Some k) o p b e t = sym e ∙ t
class_by None (Some k) p b e t = sym e ∙ t
class_by None None p b e t = absurd (false≢true (sym e ∙ t))

mark_stays : (lines more : List Record) (c : ℕ) → not (class_of lines c == 0) ≡ true → not (class_of (lines ++ more) c == 0) ≡ true
mark_stays lines more c t =
    let P : Option ℕ → Type 0 = λ o. not (unwrap_or (built_in_class c) (unwrap_or o 0) == 0) ≡ true in
    subst P (sym (first_found-append (class_in c) lines more))
    (class_by (built_in_class c) (first_found (class_in c) lines) (first_found (class_in c) more) (not (class_of lines c == 0)) refl t)

either_or : (m n p q : Option (List ℕ)) → (is_some m || is_some n) ≡ true → (is_some (option_or m p) || is_some (option_or n q)) ≡ true
either_or (Some x) n p q e = refl
either_or None (Some y) None q e = refl
either_or None (Some y) (Some x) q e = refl
either_or None None p q e = absurd (false≢true e)

mapped_stays : (lines more : List Record) (c : ℕ) → is_mapped lines c ≡ true → is_mapped (lines ++ more) c ≡ true
mapped_stays lines more c e =
    let f = first_found-append (mapping_in c) lines more in
    let g = first_found-append (compatibility_in c) lines more in
    ap (λ (o : Option (List ℕ)). is_some o || is_some (first_found (compatibility_in c) (lines ++ more))) f
    ∙ ap (λ (o : Option (List ℕ)). is_some (option_or (first_found (mapping_in c) lines) (first_found (mapping_in c) more)) || is_some o) g
    ∙ either_or (first_found (mapping_in c) lines) (first_found (compatibility_in c) lines) (first_found (mapping_in c) more) (first_found (compatibility_in c) more) e

both_or : (m n p q : Option (List ℕ)) → (is_some m && is_some n) ≡ true → (is_some (option_or m p) && is_some (option_or n q)) ≡ true
both_or (Some x) (Some y) p q e = refl
both_or (Some x) None p q e = absurd (false≢true e)
both_or None n p q e = absurd (false≢true e)

twice_stays : (lines more : List Record) (c : ℕ) → is_mapped_twice lines c ≡ true → is_mapped_twice (lines ++ more) c ≡ true
twice_stays lines more c e =
    let f = first_found-append (mapping_in c) lines more in
    let g = first_found-append (compatibility_in c) lines more in
    ap (λ (o : Option (List ℕ)). is_some o && is_some (first_found (compatibility_in c) (lines ++ more))) f
    ∙ ap (λ (o : Option (List ℕ)). is_some (option_or (first_found (mapping_in c) lines) (first_found (mapping_in c) more)) && is_some o) g
    ∙ both_or (first_found (mapping_in c) lines) (first_found (compatibility_in c) lines) (first_found (mapping_in c) more) (first_found (compatibility_in c) more) e

-- a step that is new is said by a line
canonical_new_by : (b : Bool) (own : List ℕ) (o p n : Option (List ℕ)) → cond b own (unwrap_or o []) ≡ [] → cond b own (unwrap_or p []) ≢ []
    → (b ≡ false) × ((is_some p || is_some n) ≡ true)
canonical_new_by true own o p n e some = absurd (some e)
canonical_new_by false own o (Some ds) n e some = (refl, refl)
canonical_new_by false own o None n e some = absurd (some refl)

any_new_by : (other : Option (List ℕ)) (b : Bool) (own : List ℕ) (m n p q : Option (List ℕ))
    → unwrap_or other (else_mapped (cond b own (unwrap_or m [])) (cond b [] (unwrap_or n []))) ≡ []
    → unwrap_or other (else_mapped (cond b own (unwrap_or p [])) (cond b [] (unwrap_or q []))) ≢ []
    → (b ≡ false) × ((is_some p || is_some q) ≡ true)
any_new_by (Some es) b own m n p q e some = absurd (some e)
any_new_by None true own m n p q e some = absurd (some e)
any_new_by None false own m n (Some ds) q e some = (refl, refl)
any_new_by None false own m n None (Some es) e some = (refl, refl)
any_new_by None false own m n None None e some = absurd (some refl)

step_of-new : (lines others : List Record) (c : ℕ) → step_of lines c ≡ [] → step_of others c ≢ [] → (is_built_in c ≡ false) × (is_mapped others c ≡ true)
step_of-new lines others c e some =
    canonical_new_by (is_built_in c) (unwrap_or (built_in_step c) []) (first_found (mapping_in c) lines) (first_found (mapping_in c) others) (first_found (compatibility_in c) others) e some

any_step-new : (lines others : List Record) (c : ℕ) → any_step lines c ≡ [] → any_step others c ≢ [] → (is_built_in c ≡ false) × (is_mapped others c ≡ true)
any_step-new lines others c e some =
    any_new_by (built_in_compatibility_step c) (is_built_in c) (unwrap_or (built_in_step c) []) (first_found (mapping_in c) lines) (first_found (compatibility_in c) lines)
    (first_found (mapping_in c) others) (first_found (compatibility_in c) others) e some

-- the first character of a list that begins with a mark
marked_first : (lines : List Record) (list : List ℕ) → begins_with_mark lines list ≡ true → (f : ℕ) × (slice_get list 0 ≡ Some f) × (not (class_of lines f == 0) ≡ true)
marked_first lines [] e = absurd (false≢true e)
marked_first lines (f ∷ fs) e = (f, refl, e)

first_marked : (lines : List Record) (list : List ℕ) (f : ℕ) → slice_get list 0 ≡ Some f → not (class_of lines f == 0) ≡ true → begins_with_mark lines list ≡ true
first_marked lines [] f e t = absurd cc
first_marked lines (g ∷ gs) f e t = let same : g ≡ f = cc in ap (λ (x : ℕ). not (class_of lines x == 0)) same ∙ t

mark_apart : (k : ℕ) → not (k == 0) ≡ true → k ≢ 0
mark_apart k t e = false≢true (sym (not-true (k == 0) t) ∙ eq-eqb k 0 e)

-- a mapped mark stays one
marks_stay : (lines more : List Record) → MapsMark lines → MapsMark (lines ++ more)
marks_stay lines more maps =
    let c = maps.0 in (
      c,
      (
        mapped_stays lines more c maps.1.0,
        maps.1.1,
        ⊎_elim
            (λ mark. inl (mark_apart (class_of (lines ++ more) c) (mark_stays lines more c (ap not (ne_eqb (class_of lines c) 0 mark)))))
            (λ twice. inr (twice_stays lines more c twice))
            maps.1.2,
      ),
    )

-- a bad list stays bad, where no mark is mapped
bad_stays : (lines more : List Record) (before after : ℕ → List ℕ) (n c : ℕ) → Grows before after
    → ((f : ℕ) → before f ≡ [] → after f ≢ [] → (is_built_in f ≡ false) × (is_mapped (lines ++ more) f ≡ true)) → (MapsMark (lines ++ more) → ⊥)
    → IsBadList lines (expanded before n c) → IsBadList (lines ++ more) (expanded after n c)
bad_stays lines more before after n c grows new unmarked (inl long) = let more_of = longer before after grows n c in inl (omega arith)
bad_stays lines more before after n c grows new unmarked (inr marked) =
    let first = marked_first lines (expanded before n c) marked in
    let t = mark_stays lines more first.0 first.2 in
    ⊎_elim
    (λ stays. inr (first_marked (lines ++ more) (expanded after n c) first.0 stays t))
    (λ mapped. let at = new first.0 mapped.0 mapped.1 in absurd (unmarked (first.0, (at.1, at.0, inl (mark_apart (class_of (lines ++ more) first.0) t)))))
    (first_stays before after grows n c first.0 first.1)

list_stays_bad : (lines more : List Record) → (MapsMark (lines ++ more) → ⊥) → HasBadList lines → HasBadList (lines ++ more)
list_stays_bad lines more unmarked bad =
    let c = bad.0 in (
      c,
      (
        mapped_stays lines more c bad.1.0,
        bad.1.1,
        ⊎_elim
            (λ canonical. inl (bad_stays lines more (step_of lines) (step_of (lines ++ more)) 0x110000 c (step_of-grows lines more)
            (λ f. step_of-new lines (lines ++ more) f) unmarked canonical))
            (λ all. inr (bad_stays lines more (any_step lines) (any_step (lines ++ more)) 0x110000 c (any_step-grows lines more unmarked)
            (λ f. any_step-new lines (lines ++ more) f) unmarked all))
            bad.1.2,
      ),
    )

-- where parts map no mark, no beginning of them maps one
pub marks_cleared : (parts : List CanonicalPart) → (MapsMark (map in_full parts) → ⊥) → (k : ℕ) → MapsMark (map in_full (take k parts)) → ⊥
marks_cleared parts unmarked k maps =
    unmarked (subst MapsMark (parts_split parts k) (marks_stay (map in_full (take k parts)) (map in_full (drop k parts)) maps))

-- where parts map no mark and have no bad list, no beginning of them has one
pub lists_cleared : (parts : List CanonicalPart) → (MapsMark (map in_full parts) → ⊥) → (HasBadList (map in_full parts) → ⊥)
    → (k : ℕ) → HasBadList (map in_full (take k parts)) → ⊥
lists_cleared parts unmarked good k bad =
    let lines = map in_full (take k parts) in
    let more = map in_full (drop k parts) in
    let whole = parts_split parts k in
    good (subst HasBadList whole (list_stays_bad lines more (subst (λ (l : List Record). MapsMark l → ⊥) (sym whole) unmarked) bad))
