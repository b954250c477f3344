-- What fewer lines of a file mean of canonical data: their steps are steps of all lines, and full lists grow with further lines.
use Rattle.std.proofs.Common.{◌≡◌, ◌≢◌, ℕ, ◌≤◌, inl, inr, ⊎_elim, true, false, not, ◌==◌, ◌&&◌, List, [], ◌∷◌, ◌++◌, length, flat_map, All, Contains, Option, Some, None, refl, sym, ap, ◌∙◌, subst, arith, length-append}
use Rattle.std.specs.Option.{is_some, unwrap_or}
use Rattle.std.proofs.lemmas.Bool.{and_from, and_parts, cases_Bool, cond-false, cond-true, false≢true, ne_eqb, or_cases, or_left, or_right}
use Rattle.std.proofs.lemmas.List.Elements.{All-head, All-tail}
use Rattle.icu_normalizer_core.specs.BuiltIn.{built_in_compatibility_step, built_in_step, is_built_in}
use Rattle.icu_normalizer_core.specs.Canonical.{Leaves, mapped, nothing, unmapped}
use Rattle.icu_normalizer_core.proofs.settling.LeftLemmas.{all_unmapped, left_append, left_one, unmapped_left}
use Rattle.icu_normalizer_core.proofs.building.AllStepLemmas.{cases_step, left_through}
use Rattle.collate_lines.specs.Record.{Record}
use Rattle.collate_rules.specs.Meaning.{any_step, class_of, compatibility_in, compatibility_of, else_mapped, first_found, mapping_in, step_of}
use Rattle.collate_rules.specs.RecordRules.{is_mark}
use Rattle.collate_rules.specs.Rules.{HasLoop, IsBadList, MapsMark, begins_with_mark, is_mapped}
use Rattle.collate_record_rules.proofs.records.RecordGrowthLemmas.{first_found-append, mark_stays}
use Rattle.collate_records.proofs.mappings.MappingDecomposingLemmas.{reaches_from, reaches_wider}
use Rattle.collate_records.proofs.maps.AnyStepLemmas.{any_built_in, any_by_lines}

some_found : {B : Type 0} (o p : Option B) → ((y : B) → o ≡ Some y → p ≡ Some y) → is_some o ≡ true → is_some p ≡ true
some_found (Some y) p stays h = ap (λ q. is_some q) (stays y refl)
some_found None p stays h = absurd (false≢true h)

module _ (lines more : List Record) where
  mapping_found : (c : ℕ) (ds : List ℕ) → first_found (mapping_in c) lines ≡ Some ds → first_found (mapping_in c) (lines ++ more) ≡ Some ds
  mapping_found c ds = first_found-append (mapping_in c) lines more ds

  compatibility_found : (c : ℕ) (ds : List ℕ) → first_found (compatibility_in c) lines ≡ Some ds → first_found (compatibility_in c) (lines ++ more) ≡ Some ds
  compatibility_found c ds = first_found-append (compatibility_in c) lines more ds

  -- a mapped character stays so,
  pub mapped_stays : (c : ℕ) → is_mapped lines c ≡ true → is_mapped (lines ++ more) c ≡ true
  mapped_stays c h =
      ⊎_elim
      (λ first. or_left (is_some (first_found (mapping_in c) (lines ++ more))) _ (some_found _ _ (mapping_found c) first))
      (λ second. or_right (is_some (first_found (mapping_in c) (lines ++ more))) _ (some_found _ _ (compatibility_found c) second))
      (or_cases (is_some (first_found (mapping_in c) lines)) (is_some (first_found (compatibility_in c) lines)) h)

  -- and so does a mark
  pub class_some : (c : ℕ) → class_of lines c ≢ 0 → class_of (lines ++ more) c ≢ 0
  class_some c mark zero =
      let before : is_mark lines c ≡ true = ap not (ne_eqb (class_of lines c) 0 mark) in
      let after : is_mark (lines ++ more) c ≡ true = mark_stays lines more c before in
      false≢true (sym (ap (λ (n : ℕ). not (n == 0)) zero) ∙ after)

  twice_stays : (c : ℕ) → (is_some (first_found (mapping_in c) lines) && is_some (first_found (compatibility_in c) lines)) ≡ true
      → (is_some (first_found (mapping_in c) (lines ++ more)) && is_some (first_found (compatibility_in c) (lines ++ more))) ≡ true
  twice_stays c h =
      let both = and_parts (is_some (first_found (mapping_in c) lines)) (is_some (first_found (compatibility_in c) lines)) h in
      and_from _ _ (some_found _ _ (mapping_found c) both.0) (some_found _ _ (compatibility_found c) both.1)

  pub marks_last : MapsMark lines → MapsMark (lines ++ more)
  marks_last bad =
      let c = bad.0 in
      (c, (mapped_stays c bad.1.0, bad.1.1, ⊎_elim (λ mark. inl (class_some c mark)) (λ twice. inr (twice_stays c twice)) bad.1.2))

  -- ---- Steps

  -- a canonical step stays
  pub step_stays : (c d : ℕ) (ds : List ℕ) → step_of lines c ≡ d ∷ ds → step_of (lines ++ more) c ≡ d ∷ ds
  step_stays c d ds h =
      ⊎_elim
      (λ built. cond-true (is_built_in c) (unwrap_or (built_in_step c) []) _ built ∙ sym (cond-true (is_built_in c) (unwrap_or (built_in_step c) []) _ built) ∙ h)
      (λ free.
      cond-false (is_built_in c) _ (unwrap_or (first_found (mapping_in c) (lines ++ more)) []) free
      ∙ by (first_found (mapping_in c) lines) refl (sym (cond-false (is_built_in c) _ (unwrap_or (first_found (mapping_in c) lines) []) free) ∙ h))
      (cases_Bool (is_built_in c))
    where
      by : (o : Option (List ℕ)) → first_found (mapping_in c) lines ≡ o → unwrap_or (first_found (mapping_in c) lines) [] ≡ d ∷ ds
          → unwrap_or (first_found (mapping_in c) (lines ++ more)) [] ≡ d ∷ ds
      by None e k = let off : [] ≡ d ∷ ds = sym (ap (λ (o : Option (List ℕ)). unwrap_or o []) e) ∙ k in absurd (cc)
      by (Some es) e k =
          ap (λ (o : Option (List ℕ)). unwrap_or o []) (mapping_found c es e) ∙ sym (ap (λ (o : Option (List ℕ)). unwrap_or o []) e) ∙ k

  module _ (unmarked : MapsMark (lines ++ more) → ⊥) where
    -- a character to which a line gives a compatibility mapping has no canonical one
    no_canonical : (c : ℕ) (ds : List ℕ) → is_built_in c ≡ false → first_found (compatibility_in c) (lines ++ more) ≡ Some ds → step_of (lines ++ more) c ≡ []
    no_canonical c ds free found =
        cond-false (is_built_in c) _ (unwrap_or (first_found (mapping_in c) (lines ++ more)) []) free ∙ by (first_found (mapping_in c) (lines ++ more)) refl
      where
        by : (o : Option (List ℕ)) → first_found (mapping_in c) (lines ++ more) ≡ o → unwrap_or (first_found (mapping_in c) (lines ++ more)) [] ≡ []
        by None e = ap (λ (o : Option (List ℕ)). unwrap_or o []) e
        by (Some es) e =
            let first : is_some (first_found (mapping_in c) (lines ++ more)) ≡ true = ap (λ (o : Option (List ℕ)). is_some o) e in
            let second : is_some (first_found (compatibility_in c) (lines ++ more)) ≡ true = ap (λ (o : Option (List ℕ)). is_some o) found in
            absurd (unmarked (c, (or_left _ _ first, free, inr (and_from _ _ first second))))

    pub compatibility_stays : (c d : ℕ) (ds : List ℕ) → compatibility_of lines c ≡ d ∷ ds → (step_of (lines ++ more) c ≡ []) × (compatibility_of (lines ++ more) c ≡ d ∷ ds)
    compatibility_stays c d ds h =
        ⊎_elim
        (λ built. let off : [] ≡ d ∷ ds = sym (cond-true (is_built_in c) [] (unwrap_or (first_found (compatibility_in c) lines) []) built) ∙ h in absurd (cc))
        (λ free. by free (first_found (compatibility_in c) lines) refl (sym (cond-false (is_built_in c) [] (unwrap_or (first_found (compatibility_in c) lines) []) free) ∙ h))
        (cases_Bool (is_built_in c))
      where
        by : is_built_in c ≡ false → (o : Option (List ℕ)) → first_found (compatibility_in c) lines ≡ o → unwrap_or (first_found (compatibility_in c) lines) [] ≡ d ∷ ds
            → (step_of (lines ++ more) c ≡ []) × (compatibility_of (lines ++ more) c ≡ d ∷ ds)
        by free None e k = let off : [] ≡ d ∷ ds = sym (ap (λ (o : Option (List ℕ)). unwrap_or o []) e) ∙ k in absurd (cc)
        by free (Some es) e k =
            let found = compatibility_found c es e in (
              no_canonical c es free found,
              cond-false (is_built_in c) [] (unwrap_or (first_found (compatibility_in c) (lines ++ more)) []) free
                  ∙ ap (λ (o : Option (List ℕ)). unwrap_or o []) found ∙ sym (ap (λ (o : Option (List ℕ)). unwrap_or o []) e) ∙ k,
            )

    -- a step of either kind stays, where no character has two mappings
    pub any_stays : (c d : ℕ) (ds : List ℕ) → any_step lines c ≡ d ∷ ds → any_step (lines ++ more) c ≡ d ∷ ds
    any_stays c d ds h =
        ⊎_elim
        (λ none. any_by_lines (lines ++ more) c none ∙ by (step_of lines c) refl (sym (any_by_lines lines c none) ∙ h))
        (λ w. any_built_in (lines ++ more) c w.0 w.1 ∙ sym (any_built_in lines c w.0 w.1) ∙ h)
        (cases_step (built_in_compatibility_step c))
      where
        by : (xs : List ℕ) → step_of lines c ≡ xs → else_mapped (step_of lines c) (compatibility_of lines c) ≡ d ∷ ds
            → else_mapped (step_of (lines ++ more) c) (compatibility_of (lines ++ more) c) ≡ d ∷ ds
        by [] e k =
            let both = compatibility_stays c d ds (sym (ap (λ (l : List ℕ). else_mapped l (compatibility_of lines c)) e) ∙ k) in
            ap (λ (l : List ℕ). else_mapped l (compatibility_of (lines ++ more) c)) both.0 ∙ both.1
        by (x ∷ xs) e k =
            ap (λ (l : List ℕ). else_mapped l (compatibility_of (lines ++ more) c)) (step_stays c x xs e)
            ∙ sym (ap (λ (l : List ℕ). else_mapped l (compatibility_of lines c)) e) ∙ k

    any_wider : (c d : ℕ) → Contains (any_step lines c) d → Contains (any_step (lines ++ more) c) d
    any_wider c d h = by (any_step lines c) refl
      where
        by : (xs : List ℕ) → any_step lines c ≡ xs → Contains (any_step (lines ++ more) c) d
        by [] e = let none : Contains [] d = subst (λ (l : List ℕ). Contains l d) e h in absurd (omega (arith, none.1))
        by (x ∷ xs) e = subst (λ (l : List ℕ). Contains l d) (e ∙ sym (any_stays c x xs e)) h

    -- so does a loop
    pub loops_last : HasLoop lines → HasLoop (lines ++ more)
    loops_last loop =
        let c = loop.0 in (
          c,
          reaches_from (any_step (lines ++ more)) (any_step lines c) (any_step (lines ++ more) c) c (any_wider c)
              (reaches_wider (any_step lines) (any_step (lines ++ more)) any_wider (any_step lines c) c loop.1),
        )

-- ---- Full lists

-- something is left of some characters
left_some : (step : ℕ → List ℕ) (xs ns : List ℕ) → Leaves step xs ns → 1 ≤ length xs → 1 ≤ length ns
left_some step xs ns nothing some = some
left_some step xs ns (unmapped c cs ms e h) some = omega arith
left_some step xs ns (mapped c d ds cs ms e h) some = left_some step ((d ∷ ds) ++ cs) ms h (omega (arith, length-append (d ∷ ds) cs))

module _ (step full : ℕ → List ℕ) where
  abbrev pub IsFull : ℕ → Type 0
  IsFull d = Leaves step (d ∷ []) (full d)

  -- what is left of each character, one after another
  each_left : (ds : List ℕ) → All IsFull ds → Leaves step ds (flat_map full ds)
  each_left [] all = nothing
  each_left (d ∷ ds) all =
      left_append step (d ∷ []) ds (full d) (flat_map full ds) (All-head IsFull d ds all) (each_left ds (All-tail IsFull d ds all))

  -- that is as long as the characters are many, at least
  as_long : (ds : List ℕ) → All IsFull ds → length ds ≤ length (flat_map full ds)
  as_long [] all = omega arith
  as_long (d ∷ ds) all =
      let some = left_some step (d ∷ []) (full d) (All-head IsFull d ds all) (omega arith) in
      let rest = as_long ds (All-tail IsFull d ds all) in
      omega (arith, length-append (full d) (flat_map full ds), some, rest)

  -- what fewer steps leave, and then the full lists of that
  pub full_by_fewer : (fewer : ℕ → List ℕ) (c : ℕ) (ns : List ℕ) → ((e d : ℕ) (ds : List ℕ) → fewer e ≡ d ∷ ds → step e ≡ d ∷ ds)
      → Leaves fewer (c ∷ []) ns → All IsFull ns → IsFull c → full c ≡ flat_map full ns
  full_by_fewer fewer c ns extends left all is_full =
      left_one step (c ∷ []) (full c) (flat_map full ns) is_full (left_through fewer step (c ∷ []) ns (flat_map full ns) extends left (each_left ns all))

module _ (lines more : List Record) (step full fewer : ℕ → List ℕ) (extends : (e d : ℕ) (ds : List ℕ) → fewer e ≡ d ∷ ds → step e ≡ d ∷ ds)
    (stays_alone : (e : ℕ) → class_of lines e ≢ 0 → fewer e ≡ [] → full e ≡ e ∷ []) where
  -- a bad list of fewer lines is one of more
  pub bad_list_lasts : (c : ℕ) (ns : List ℕ) → Leaves fewer (c ∷ []) ns → All (IsFull step full) ns → IsFull step full c → IsBadList lines ns → IsBadList (lines ++ more) (full c)
  bad_list_lasts c ns left all is_full bad =
      let whole = full_by_fewer step full fewer c ns extends left all is_full in
      ⊎_elim
      (λ long. inl (omega (arith, long, as_long step full ns all, ap length whole)))
      (λ mark. inr (by ns refl mark whole))
      bad
    where
      by : (ms : List ℕ) → ns ≡ ms → begins_with_mark lines ms ≡ true → full c ≡ flat_map full ms → begins_with_mark (lines ++ more) (full c) ≡ true
      by [] e mark whole = absurd (false≢true mark)
      by (x ∷ xs) e mark whole =
          let some : class_of lines x ≢ 0 = λ zero. false≢true (sym (ap (λ (n : ℕ). not (n == 0)) zero) ∙ mark) in
          let unmapped_here : fewer x ≡ [] =
          All-head (λ d. fewer d ≡ []) x xs (subst (All (λ d. fewer d ≡ [])) e (all_unmapped fewer ns (unmapped_left fewer (c ∷ []) ns left))) in
          ap (begins_with_mark (lines ++ more)) (whole ∙ ap (λ (l : List ℕ). l ++ flat_map full xs) (stays_alone x some unmapped_here))
          ∙ ap not (ne_eqb (class_of (lines ++ more) x) 0 (class_some lines more x some))
