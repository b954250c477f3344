-- Steps as more and more parts say them, where these map no mark.
use Rattle.std.proofs.Common.{◌≡◌, ℕ, List, [], ◌++◌, length, map, take, drop, refl, sym, ap, ◌∙◌, subst, arith, ◌⊎◌, inl, inr, ⊎_elim, Bool, true, false, cond, ◌&&◌, Option, Some, None}
use Rattle.std.specs.Option.{is_some, option_or, unwrap_or}
use Rattle.std.proofs.lemmas.Bool.{and_parts, false_from_ne_true, false≢true, or_left}
use Rattle.std.proofs.lemmas.List.{map-append, take-append-drop}
use Rattle.icu_normalizer_core.specs.BuiltIn.{built_in_step, built_in_compatibility_step, is_built_in}
use Rattle.icu_normalizer_core.specs.Canonical.{Reaches, stands, steps}
use Rattle.collate_lines.specs.Record.{Record}
use Rattle.collate_rules.specs.declared.canonical_part.CanonicalPart.{CanonicalPart}
use Rattle.collate_rules.specs.Meaning.{any_step, compatibility_in, else_mapped, first_found, mapping_in, step_of}
use Rattle.collate_rules.specs.Rules.{HasLoop, is_mapped_twice, MapsMark}
use Rattle.collate_rules.specs.CanonicalParts.{in_full}
use Rattle.collate_rules.proofs.lookups.RuleLookupLemmas.{first_found-append}
use Rattle.collate_mapping_rules.proofs.mappings.BeginningLemmas.{step_begun}

-- each step is the same later, or there was none
abbrev pub Grows : (ℕ → List ℕ) → (ℕ → List ℕ) → Type 0
Grows before after = (c : ℕ) → (before c ≡ []) ⊎ (before c ≡ after c)

nothing_reached : (step : ℕ → List ℕ) (text : List ℕ) (c : ℕ) → text ≡ [] → Reaches step text c → ⊥
nothing_reached step text c none (stands t d h) = let within = h.1 in let e = ap length none in absurd (omega arith)
nothing_reached step text c none (steps t d x h r) = let within = h.1 in let e = ap length none in absurd (omega arith)

-- what is reached is reached later
reaches_later : (before after : ℕ → List ℕ) → Grows before after → (text : List ℕ) (c : ℕ) → Reaches before text c → Reaches after text c
reaches_later before after grows text c (stands t d h) = stands t d h
reaches_later before after grows text c (steps t d x h r) =
    ⊎_elim
    (λ (none : before d ≡ []). absurd (nothing_reached before (before d) x none r))
    (λ (same : before d ≡ after d). steps t d x h (subst (λ (l : List ℕ). Reaches after l x) same (reaches_later before after grows (before d) x r)))
    (grows d)

-- and a loop is one later
loop_later : (before after : ℕ → List ℕ) → Grows before after → (c : ℕ) → Reaches before (before c) c → Reaches after (after c) c
loop_later before after grows c r =
    ⊎_elim
    (λ (none : before c ≡ []). absurd (nothing_reached before (before c) c none r))
    (λ (same : before c ≡ after c). subst (λ (l : List ℕ). Reaches after l c) same (reaches_later before after grows (before c) c r))
    (grows c)

-- ---- What lines and more lines say

pub step_of-grows : (lines more : List Record) → Grows (step_of lines) (step_of (lines ++ more))
step_of-grows lines more = step_begun lines more (lines ++ more) refl

-- a step of either kind by what is built in, and the mappings that are said
abbrev any_by : Option (List ℕ) → Bool → List ℕ → Option (List ℕ) → Option (List ℕ) → List ℕ
any_by other b own m n = unwrap_or other (else_mapped (cond b own (unwrap_or m [])) (cond b [] (unwrap_or n [])))

any_grows_by : (other : Option (List ℕ)) (b : Bool) (own : List ℕ) (m n p q : Option (List ℕ))
    → (b ≡ false → (is_some (option_or m p) && is_some (option_or n q)) ≡ false)
    → (any_by other b own m n ≡ []) ⊎ (any_by other b own m n ≡ any_by other b own (option_or m p) (option_or n q))
any_grows_by (Some es) b own m n p q once = inr refl
any_grows_by None true own m n p q once = inr refl
any_grows_by None false own None None p q once = inl refl
any_grows_by None false own None (Some es) None q once = inr refl
any_grows_by None false own None (Some es) (Some ds) q once = absurd (false≢true (sym (once refl)))
any_grows_by None false own (Some ds) (Some es) p q once = inr refl
any_grows_by None false own (Some ds) None p None once = inr refl
any_grows_by None false own (Some ds) None p (Some es) once = absurd (false≢true (sym (once refl)))

pub once_mapped : (lines : List Record) → (MapsMark lines → ⊥) → (c : ℕ) → is_built_in c ≡ false → is_mapped_twice lines c ≡ false
once_mapped lines none c free =
    false_from_ne_true (is_mapped_twice lines c)
    (λ twice. none (c, (or_left (is_some (first_found (mapping_in c) lines)) _ (and_parts (is_some (first_found (mapping_in c) lines)) _ twice).0, free, inr twice)))

pub any_step-grows : (lines more : List Record) → (MapsMark (lines ++ more) → ⊥) → Grows (any_step lines) (any_step (lines ++ more))
any_step-grows lines more none c =
    let m = first_found (mapping_in c) lines in
    let n = first_found (compatibility_in c) lines in
    let own = unwrap_or (built_in_step c) [] in
    let P : Option (List ℕ) → Option (List ℕ) → Type 0 = λ o p. (any_step lines c ≡ []) ⊎ (any_step lines c ≡ any_by (built_in_compatibility_step c) (is_built_in c) own o p) in
    let Q : Option (List ℕ) → Option (List ℕ) → Type 0 = λ o p. is_built_in c ≡ false → (is_some o && is_some p) ≡ false in
    let e = first_found-append (mapping_in c) lines more in
    let f = first_found-append (compatibility_in c) lines more in
    subst (λ (o : Option (List ℕ)). P o (first_found (compatibility_in c) (lines ++ more))) (sym e)
    (subst (λ (p : Option (List ℕ)). P (option_or m (first_found (mapping_in c) more)) p) (sym f)
    (any_grows_by (built_in_compatibility_step c) (is_built_in c) own m n (first_found (mapping_in c) more) (first_found (compatibility_in c) more)
    (subst (λ (p : Option (List ℕ)). Q (option_or m (first_found (mapping_in c) more)) p) f
    (subst (λ (o : Option (List ℕ)). Q o (first_found (compatibility_in c) (lines ++ more))) e (once_mapped (lines ++ more) none c)))))

-- some parts, and those after them
pub parts_split : (parts : List CanonicalPart) (k : ℕ) → map in_full (take k parts) ++ map in_full (drop k parts) ≡ map in_full parts
parts_split parts k = sym (map-append in_full (take k parts) (drop k parts)) ∙ ap (map in_full) (take-append-drop k parts)

-- where parts map no mark and have no loop, no beginning of them has one
pub loops_cleared : (parts : List CanonicalPart) → (MapsMark (map in_full parts) → ⊥) → (HasLoop (map in_full parts) → ⊥)
    → (k : ℕ) → HasLoop (map in_full (take k parts)) → ⊥
loops_cleared parts unmarked unlooped k loop =
    let lines = map in_full (take k parts) in
    let more = map in_full (drop k parts) in
    let whole = parts_split parts k in
    unlooped (subst HasLoop whole (
      loop.0,
      loop_later (any_step lines) (any_step (lines ++ more))
          (any_step-grows lines more (subst (λ (l : List Record). MapsMark l → ⊥) (sym whole) unmarked)) loop.0 loop.1,
    ))
