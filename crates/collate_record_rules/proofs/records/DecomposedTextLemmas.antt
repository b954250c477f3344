-- A text of which V7 asks nothing more is its own decomposed list.
use Rattle.std.proofs.Common.{◌≡◌, ℕ, Bool, true, false, cond, ◌&&◌, List, [], ◌∷◌, ◌++◌, Option, Some, None, refl, sym, ◌∙◌, ap}
use Rattle.std.specs.Prelude.{flat_map, is_some, ltb, unwrap_or}
use Rattle.std.specs.List.{list_any}
use Rattle.std.proofs.lemmas.Bool.{false≢true, or_parts}
use Rattle.icu_normalizer_core.specs.BuiltIn.{built_in_step, is_built_in}
use Rattle.icu_normalizer_core.specs.Canonical.{decomposed, marks_in_order, put_in_order}
use Rattle.collate_lines.specs.Record.{Record}
use Rattle.collate_rules.specs.Meaning.{canonical_of, class_of, expanded, first_found, full_of, mapping_in, step_of}
use Rattle.collate_rules.specs.RecordRules.{has_mapping, is_disordered, is_to_some, is_unlike_decomposed}

no_step : (o : Option (List ℕ)) → is_to_some o ≡ false → unwrap_or o [] ≡ []
no_step None h = refl
no_step (Some []) h = refl
no_step (Some (d ∷ ds)) h = absurd (false≢true (sym h))

none_found : (o : Option (List ℕ)) → is_some o ≡ false → unwrap_or o [] ≡ []
none_found None h = refl
none_found (Some ds) h = absurd (false≢true (sym h))

by_kind : (b : Bool) (o p : Option (List ℕ)) → cond b (is_to_some o) (is_some p) ≡ false → cond b (unwrap_or o []) (unwrap_or p []) ≡ []
by_kind true o p h = no_step o h
by_kind false o p h = none_found p h

unmapped : (lines : List Record) (c : ℕ) → has_mapping lines c ≡ false → step_of lines c ≡ []
unmapped lines c = by_kind (is_built_in c) (built_in_step c) (first_found (mapping_in c) lines)

stays_whole : (lines : List Record) (c : ℕ) → has_mapping lines c ≡ false → full_of lines c ≡ c ∷ []
unfolding expanded
stays_whole lines c h =
    ap (λ (ds : List ℕ). elim ds [ [] ↦ c ∷ [] | e ∷ es ↦ flat_map (expanded (step_of lines) 0x10ffff) (e ∷ es) ]) (unmapped lines c h)

all_whole : (lines : List Record) (list : List ℕ) → list_any (has_mapping lines) list ≡ false → flat_map (full_of lines) list ≡ list
all_whole lines [] h = refl
all_whole lines (c ∷ cs) h =
    let both = or_parts (has_mapping lines c) (list_any (has_mapping lines) cs) h in
    ap (λ (front : List ℕ). front ++ flat_map (full_of lines) cs) (stays_whole lines c both.0) ∙ ap (λ (rest : List ℕ). c ∷ rest) (all_whole lines cs both.1)

in_order : (class : ℕ → ℕ) (list : List ℕ) → is_disordered class list ≡ false → marks_in_order class list ≡ list
unfolding marks_in_order put_in_order
in_order class [] h = refl
in_order class (a ∷ []) h = refl
in_order class (a ∷ b ∷ cs) h =
    let both = or_parts (ltb 0 (class b) && ltb (class b) (class a)) (is_disordered class (b ∷ cs)) h in
    ap (put_in_order class a) (in_order class (b ∷ cs) both.1)
    ∙ ap (λ (t : Bool). cond t (b ∷ put_in_order class a cs) (a ∷ b ∷ cs)) both.0

pub own_decomposed : (lines : List Record) (list : List ℕ) → is_unlike_decomposed lines list ≡ false → decomposed (canonical_of lines) list ≡ list
unfolding decomposed
own_decomposed lines list h =
    let both = or_parts (list_any (has_mapping lines) list) (is_disordered (class_of lines) list) h in
    ap (marks_in_order (class_of lines)) (all_whole lines list both.0) ∙ in_order (class_of lines) list both.1
