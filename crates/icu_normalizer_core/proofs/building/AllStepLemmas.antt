-- Canonical and compatibility steps together, over canonical data.
use Rattle.std.proofs.Common.{◌≡◌, ◌≢◌, ℕ, ◌<◌, ◌||◌, ◌==◌, ◌⊎◌, inl, inr, ⊎_elim, false, cond, List, [], ◌∷◌, ◌++◌, Option, Some, None, refl, sym, ap, subst, ◌∙◌, arith}
use Rattle.std.specs.List.{All}
use Rattle.std.specs.Char.{IsScalar}
use Rattle.std.specs.Option.{is_some, unwrap_or, IfSome}
use Rattle.std.proofs.lemmas.Bool.{cases_Bool, cond-true, cond-false, eqb-true}
use Rattle.std.proofs.lemmas.List.Elements.{All-append, All-cons, All-head, All-nil, All-tail}
use Rattle.std.proofs.lemmas.Option.{none-some, same_Some}
use Rattle.icu_normalizer_core.specs.declared.builder.given.GivenCompatibility.{GivenCompatibility}
use Rattle.icu_normalizer_core.specs.BuiltIn.{built_in_class, built_in_compatibility_step, built_in_step, singled_out, is_built_in}
use Rattle.icu_normalizer_core.specs.Canonical.{Canonical, IsDecomposing, IsFree, Leaves, nothing, unmapped, mapped}
use Rattle.icu_normalizer_core.specs.CompatibilityMaps.{all_steps, compatibility_step, else_mapped, first_given, given_compatibility}
use Rattle.icu_normalizer_core.specs.GivenCompatibilities.{IsOfCharacters}
use Rattle.icu_normalizer_core.specs.SettledMappings.{AreOnStarters}
use Rattle.icu_normalizer_core.proofs.built.BuiltInFacts.{class_scalar}
use Rattle.icu_normalizer_core.proofs.settling.LeftLemmas.{left_append}
use Rattle.icu_normalizer_core.proofs.decomposed_lists.DecomposedLemmas.{left_split}
use Rattle.icu_normalizer_core.proofs.building.AcceptedMappingLemmas.{find_true}
use Rattle.icu_normalizer_core.proofs.building.MapNumberLemmas.{found_all}

-- ---- What is left by more steps

-- what steps leave of what some of them left, they leave of the text
pub left_through : (step all : ℕ → List ℕ) (xs ns ms : List ℕ) → ((c d : ℕ) (ds : List ℕ) → step c ≡ d ∷ ds → all c ≡ d ∷ ds)
    → Leaves step xs ns → Leaves all ns ms → Leaves all xs ms
left_through step all xs ns ms extends nothing g = g
left_through step all xs ns ms extends (unmapped c cs ks e h) g =
    let parts = left_split all (c ∷ []) ks ms g in
    subst (Leaves all (c ∷ cs)) (sym parts.whole)
    (left_append all (c ∷ []) cs parts.front parts.back parts.of_front (left_through step all cs ks parts.back extends h parts.of_back))
left_through step all xs ns ms extends (mapped c d ds cs ks e h) g =
    mapped c d ds cs ms (extends c d ds e) (left_through step all ((d ∷ ds) ++ cs) ks ms extends h g)

-- steps to scalar values leave scalar values of them
pub scalars_left : (step : ℕ → List ℕ) (xs ns : List ℕ) → ((c : ℕ) → IsScalar c → All IsScalar (step c)) → All IsScalar xs → Leaves step xs ns → All IsScalar ns
scalars_left step xs ns steps all nothing = all
scalars_left step xs ns steps all (unmapped c cs ms e h) =
    All-cons IsScalar c ms (All-head IsScalar c cs all) (scalars_left step cs ms steps (All-tail IsScalar c cs all) h)
scalars_left step xs ns steps all (mapped c d ds cs ms e h) =
    scalars_left step ((d ∷ ds) ++ cs) ms steps
    (All-append IsScalar (d ∷ ds) cs (subst (All IsScalar) e (steps c (All-head IsScalar c cs all))) (All-tail IsScalar c cs all)) h

-- what steps leave of scalar values goes by the steps of scalar values alone
pub left_of_scalars : (f g : ℕ → List ℕ) (xs ns : List ℕ) → ((c : ℕ) → IsScalar c → All IsScalar (f c)) → ((c : ℕ) → IsScalar c → f c ≡ g c)
    → All IsScalar xs → Leaves f xs ns → Leaves g xs ns
left_of_scalars f g xs ns steps same all nothing = nothing
left_of_scalars f g xs ns steps same all (unmapped c cs ms e h) =
    unmapped c cs ms (sym (same c (All-head IsScalar c cs all)) ∙ e) (left_of_scalars f g cs ms steps same (All-tail IsScalar c cs all) h)
left_of_scalars f g xs ns steps same all (mapped c d ds cs ms e h) =
    mapped c d ds cs ms (sym (same c (All-head IsScalar c cs all)) ∙ e)
    (left_of_scalars f g ((d ∷ ds) ++ cs) ms steps same
    (All-append IsScalar (d ∷ ds) cs (subst (All IsScalar) e (steps c (All-head IsScalar c cs all))) (All-tail IsScalar c cs all)) h)

-- ---- Which step is taken

pub cases_step : (o : Option (List ℕ)) → (o ≡ None) ⊎ ((ds : List ℕ) × (o ≡ Some ds))
cases_step None = inl refl
cases_step (Some ds) = inr (ds, refl)

pub cases_list : (xs : List ℕ) → (xs ≡ []) ⊎ ((d : ℕ) × (ds : List ℕ) × (xs ≡ d ∷ ds))
cases_list [] = inl refl
cases_list (d ∷ ds) = inr (d, ds, refl)

-- what is built in of a character with a built-in compatibility mapping
pub record IsCompatible (c : ℕ) (ds : List ℕ) : Type 0 where
  pub free : built_in_step c ≡ None
  pub class : built_in_class c ≡ Some 0
  pub mark : ℕ
  pub is : ds ≡ mark ∷ []
  pub mark_free : built_in_step mark ≡ None
  pub mark_class : built_in_class mark ≡ Some 8

pub compatible : (c : ℕ) (ds : List ℕ) → built_in_compatibility_step c ≡ Some ds → IsCompatible c ds
unfolding built_in_compatibility_step built_in_step built_in_class singled_out
compatible c ds e =
    ⊎_elim
    (λ t.
    let is : 0x3099 ∷ [] ≡ ds = same_Some _ ds (sym (cond-true (c == 0xff9e) (Some (0x3099 ∷ [])) _ t) ∙ e) in
    subst (λ (n : ℕ). IsCompatible n ds) (sym (eqb-true c 0xff9e t)) (record { free = refl; class = refl; mark = 0x3099; is = sym is; mark_free = refl; mark_class = refl }))
    (λ f.
    let rest = sym (cond-false (c == 0xff9e) (Some (0x3099 ∷ [])) _ f) ∙ e in
    ⊎_elim
    (λ t.
    let is : 0x309a ∷ [] ≡ ds = same_Some _ ds (sym (cond-true (c == 0xff9f) (Some (0x309a ∷ [])) None t) ∙ rest) in
    subst (λ (n : ℕ). IsCompatible n ds) (sym (eqb-true c 0xff9f t)) (record { free = refl; class = refl; mark = 0x309a; is = sym is; mark_free = refl; mark_class = refl }))
    (λ g. absurd (none-some ds (sym (cond-false (c == 0xff9f) (Some (0x309a ∷ [])) None g) ∙ rest)))
    (cases_Bool (c == 0xff9f)))
    (cases_Bool (c == 0xff9e))

pub unbound : (c : ℕ) → IsFree c → built_in_compatibility_step c ≡ None → is_built_in c ≡ false
unbound c free none =
    ap (λ (o : Option (List ℕ)). is_some o || is_some (built_in_compatibility_step c)) free ∙ ap (λ (o : Option (List ℕ)). is_some o) none

pub step_fixed : (given : List GivenCompatibility) (c : ℕ) (ds : List ℕ) → built_in_compatibility_step c ≡ Some ds → compatibility_step given c ≡ ds
step_fixed given c ds e = ap (λ (o : Option (List ℕ)). unwrap_or o (cond (is_some (built_in_step c)) [] (given_compatibility given c))) e

pub step_apart : (given : List GivenCompatibility) (c : ℕ) (ds : List ℕ) → built_in_step c ≡ Some ds → compatibility_step given c ≡ []
step_apart given c ds e =
    ⊎_elim
    (λ none.
    ap (λ (o : Option (List ℕ)). unwrap_or o (cond (is_some (built_in_step c)) [] (given_compatibility given c))) none
    ∙ ap (λ (o : Option (List ℕ)). cond (is_some o) [] (given_compatibility given c)) e)
    (λ w. absurd (none-some ds (sym (compatible c w.0 w.1).free ∙ e)))
    (cases_step (built_in_compatibility_step c))

pub step_given : (given : List GivenCompatibility) (c : ℕ) → IsFree c → built_in_compatibility_step c ≡ None → compatibility_step given c ≡ given_compatibility given c
step_given given c free none =
    ap (λ (o : Option (List ℕ)). unwrap_or o (cond (is_some (built_in_step c)) [] (given_compatibility given c))) none
    ∙ ap (λ (o : Option (List ℕ)). cond (is_some o) [] (given_compatibility given c)) free

pub given_is : (given : List GivenCompatibility) (c : ℕ) (o : Option GivenCompatibility) → first_given given c ≡ o
    → given_compatibility given c ≡ elim o [ Some g ↦ g.mapping.items | None ↦ [] ]
given_is given c o e = ap (λ (o : Option GivenCompatibility). elim o [ Some g ↦ g.mapping.items | None ↦ [] ]) e

pub all_first : (step : ℕ → List ℕ) (given : List GivenCompatibility) (c d : ℕ) (ds : List ℕ) → step c ≡ d ∷ ds → all_steps step given c ≡ d ∷ ds
all_first step given c d ds e = ap (λ (xs : List ℕ). else_mapped xs (compatibility_step given c)) e

pub all_second : (step : ℕ → List ℕ) (given : List GivenCompatibility) (c : ℕ) → step c ≡ [] → all_steps step given c ≡ compatibility_step given c
all_second step given c e = ap (λ (xs : List ℕ). else_mapped xs (compatibility_step given c)) e

-- a character that no step of either kind maps isn't mapped by a canonical one
pub all_none : (step : ℕ → List ℕ) (given : List GivenCompatibility) (c : ℕ) → all_steps step given c ≡ [] → step c ≡ []
all_none step given c e =
    ⊎_elim
    (λ none. none)
    (λ w. let some : w.0 ∷ w.1 ≡ [] = sym (all_first step given c w.0 w.1 w.2) ∙ e in absurd cc)
    (cases_list (step c))

-- ---- Mappings of characters on starters, over canonical data

module _ (canonical : Canonical) (d : IsDecomposing canonical) (given : List GivenCompatibility) (chars : All IsOfCharacters given)
    (starters : AreOnStarters canonical.class given) where
  abbrev pub all : ℕ → List ℕ
  all = all_steps canonical.step given

  pub built_on : (c : ℕ) (ds : List ℕ) → built_in_step c ≡ Some ds → all c ≡ ds
  built_on c ds e =
      let is : canonical.step c ≡ ds = subst (λ (o : Option (List ℕ)). IfSome o (λ xs. canonical.step c ≡ xs)) e (d.built_in_steps c) in
      ⊎_elim
      (λ none. all_second canonical.step given c (is ∙ none) ∙ step_apart given c ds e ∙ sym none)
      (λ w. all_first canonical.step given c w.0 w.1 (is ∙ w.2) ∙ sym w.2)
      (cases_list ds)

  class_is : (c k : ℕ) → built_in_class c ≡ Some k → canonical.class c ≡ k
  class_is c k e = subst (λ (o : Option ℕ). IfSome o (λ n. canonical.class c ≡ n)) e (d.built_in_classes c)

  -- no mapping of a mark is given
  mark_given : (c : ℕ) → canonical.class c ≢ 0 → IsFree c → built_in_compatibility_step c ≡ None → given_compatibility given c ≡ []
  mark_given c mark free none = by (first_given given c) refl
    where
      by : (o : Option GivenCompatibility) → first_given given c ≡ o → given_compatibility given c ≡ []
      by None e = given_is given c None e
      by (Some g) e =
          let at : g.character ≡ c = eqb-true g.character c (find_true (λ h. h.character == c) given g e) in
          let on : is_built_in g.character ≡ false → canonical.class g.character ≡ 0 =
          found_all (λ h. is_built_in h.character ≡ false → canonical.class h.character ≡ 0) (λ h. h.character == c) given g starters e in
          absurd (mark (subst (λ (n : ℕ). canonical.class n ≡ 0) at (on (ap is_built_in at ∙ unbound c free none))))

  -- a mark that isn't built in is unmapped
  pub mark_alone : (c : ℕ) → IsScalar c → canonical.class c ≢ 0 → IsFree c → all c ≡ []
  mark_alone c s mark free =
      ⊎_elim
      (λ none. all_second canonical.step given c none
      ∙ ⊎_elim
      (λ other. step_given given c free other ∙ mark_given c mark free other)
      (λ w. absurd (mark (class_is c 0 (compatible c w.0 w.1).class)))
      (cases_step (built_in_compatibility_step c)))
      (λ w. absurd (mark (d.starters c w.0 w.1 s free w.2)))
      (cases_list (canonical.step c))

  pub marks_unmapped : (c k : ℕ) → built_in_class c ≡ Some k → 0 < k → built_in_step c ≡ None → all c ≡ []
  marks_unmapped c k e above free = mark_alone c (class_scalar c k e) (λ zero. omega (arith, above, zero, class_is c k e)) free

  -- a given mapping has a character and more
  pub given_some : (c : ℕ) (g : GivenCompatibility) → first_given given c ≡ Some g → IsOfCharacters g
  given_some c g e = found_all IsOfCharacters (λ h. h.character == c) given g chars e

  given_scalars : (c : ℕ) → All IsScalar (given_compatibility given c)
  given_scalars c = by (first_given given c) refl
    where
      by : (o : Option GivenCompatibility) → first_given given c ≡ o → All IsScalar (given_compatibility given c)
      by None e = subst (All IsScalar) (sym (given_is given c None e)) (All-nil IsScalar)
      by (Some g) e = subst (All IsScalar) (sym (given_is given c (Some g) e)) (given_some c g e).mapping

  compatibility_scalars : (c : ℕ) → All IsScalar (compatibility_step given c)
  compatibility_scalars c =
      ⊎_elim
      (λ none. ⊎_elim
      (λ free. subst (All IsScalar) (sym (step_given given c free none)) (given_scalars c))
      (λ w. subst (All IsScalar) (sym (step_apart given c w.0 w.1)) (All-nil IsScalar))
      (cases_step (built_in_step c)))
      (λ w.
      let fixed = compatible c w.0 w.1 in
      subst (All IsScalar) (sym (step_fixed given c w.0 w.1 ∙ fixed.is)) (All-cons IsScalar fixed.mark [] (class_scalar fixed.mark 8 fixed.mark_class) (All-nil IsScalar)))
      (cases_step (built_in_compatibility_step c))

  pub all_scalars : (c : ℕ) → IsScalar c → All IsScalar (all c)
  all_scalars c s =
      ⊎_elim
      (λ none. subst (All IsScalar) (sym (all_second canonical.step given c none)) (compatibility_scalars c))
      (λ w. subst (All IsScalar) (w.2 ∙ sym (all_first canonical.step given c w.0 w.1 w.2)) (d.scalars c s))
      (cases_list (canonical.step c))
