-- Each mapping that is built in leads to lower code points.
use Rattle.std.proofs.Common.{◌≡◌, ◌≢◌, ℕ, ◌+◌, ◌-◌, ◌/◌, ◌%◌, ◌<◌, ◌≤◌, List, [], ◌∷◌, refl, sym, subst, arith, ⊎_elim, Bool, true, false, cond, ◌||◌, ◌==◌, Option, Some, None}
use Rattle.std.specs.List.{Contains, All}
use Rattle.std.specs.Option.{unwrap_or}
use Rattle.std.proofs.lemmas.Bool.Decides.{eqb_tells, nat_tests}
use Rattle.std.proofs.lemmas.List.Elements.{All-nil, All-cons, All-contains}
use Rattle.icu_normalizer_core.specs.BuiltIn.{is_syllable, is_jamo, syllable_step, singled_out, built_in_step, built_in_compatibility_step, is_built_in}
use Rattle.collate_rules.specs.Meaning.{any_step, else_mapped}

-- each of these is lower
abbrev Falls : ℕ → List ℕ → Type 0
Falls c ds = All (λ d. d < c) ds

abbrev FallsBy : ℕ → Option (List ℕ) → Type 0
FallsBy c o = Falls c (unwrap_or o [])

Falls-one : (c d : ℕ) → d < c → Falls c (d ∷ [])
Falls-one c d h = All-cons (λ x. x < c) d [] h (All-nil _)

Falls-two : (c d e : ℕ) → d < c → e < c → Falls c (d ∷ e ∷ [])
Falls-two c d e h k = All-cons (λ x. x < c) d (e ∷ []) h (Falls-one c e k)

FallsBy-case : (c n : ℕ) (ds : List ℕ) (o : Option (List ℕ)) → Falls n ds → FallsBy c o → FallsBy c (cond (c == n) (Some ds) o)
FallsBy-case c n ds o h k =
    ⊎_elim
    (λ w. let P : Bool → Type 0 = λ b. FallsBy c (cond b (Some ds) o) in let Q : ℕ → Type 0 = λ m. Falls m ds in
    subst P (sym w.0) (subst Q (sym w.1) h))
    (λ w. let P : Bool → Type 0 = λ b. FallsBy c (cond b (Some ds) o) in subst P (sym w.0) k)
    (eqb_tells c n)

singled_out-falls : (c : ℕ) → FallsBy c (singled_out c)
unfolding singled_out
singled_out-falls c =
    FallsBy-case c 0x340 _ _ (Falls-one _ _ (omega arith))
    (FallsBy-case c 0x341 _ _ (Falls-one _ _ (omega arith))
    (FallsBy-case c 0x343 _ _ (Falls-one _ _ (omega arith))
    (FallsBy-case c 0x344 _ _ (Falls-two _ _ _ (omega arith) (omega arith))
    (FallsBy-case c 0xf73 _ _ (Falls-two _ _ _ (omega arith) (omega arith))
    (FallsBy-case c 0xf75 _ _ (Falls-two _ _ _ (omega arith) (omega arith))
    (FallsBy-case c 0xf81 _ _ (Falls-two _ _ _ (omega arith) (omega arith)) (All-nil _)))))))

compatibility-falls : (c : ℕ) → FallsBy c (built_in_compatibility_step c)
unfolding built_in_compatibility_step
compatibility-falls c =
    FallsBy-case c 0xff9e _ _ (Falls-one _ _ (omega arith))
    (FallsBy-case c 0xff9f _ _ (Falls-one _ _ (omega arith)) (All-nil _))

syllable_by : (c : ℕ) (b : Bool) → 0xac00 ≤ c → c ≤ 0xd7a3 → (((c - 0xac00) % 28) == 0) ≡ b
    → Falls c (cond b ((0x1100 + (c - 0xac00) / 588) ∷ (0x1161 + (c - 0xac00) % 588 / 28) ∷ []) ((c - (c - 0xac00) % 28) ∷ (0x11a7 + (c - 0xac00) % 28) ∷ []))
syllable_by c true low high e = Falls-two c _ _ (omega arith) (omega arith)
syllable_by c false low high e =
    let apart : (c - 0xac00) % 28 ≢ 0 = grind (arith, nat_tests) in
    Falls-two c _ _ (omega arith) (omega arith)

syllable-falls : (c : ℕ) → is_syllable c ≡ true → Falls c (syllable_step c)
unfolding syllable_step
syllable-falls c e =
    syllable_by c (((c - 0xac00) % 28) == 0) (let t = e in grind (arith, nat_tests)) (let t = e in grind (arith, nat_tests)) refl

step_by-falls : (c : ℕ) (b none : Bool) → is_syllable c ≡ b → FallsBy c (cond b (Some (syllable_step c)) (cond none (Some []) (singled_out c)))
step_by-falls c true none e = syllable-falls c e
step_by-falls c false true e = All-nil _
step_by-falls c false false e = singled_out-falls c

step-falls : (c : ℕ) → FallsBy c (built_in_step c)
unfolding built_in_step
step-falls c = step_by-falls c (is_syllable c) (is_jamo c || (c == 0xfffd)) refl

mapped-falls : (c : ℕ) (ds : List ℕ) → Falls c ds → Falls c (else_mapped ds [])
mapped-falls c [] h = h
mapped-falls c (d ∷ ds) h = h

any-falls : (p o : Option (List ℕ)) (b : Bool) (c : ℕ) → FallsBy c p → FallsBy c o
    → Falls c (unwrap_or p (else_mapped (cond b (unwrap_or o []) []) (cond b [] [])))
any-falls (Some ds) o b c h k = h
any-falls None o true c h k = mapped-falls c (unwrap_or o []) k
any-falls None o false c h k = All-nil _

pub built_in_falls : (c d : ℕ) → Contains (any_step [] c) d → d < c
built_in_falls c d h = All-contains (λ x. x < c) (any_step [] c) d (any-falls (built_in_compatibility_step c) (built_in_step c) (is_built_in c) c (compatibility-falls c) (step-falls c)) h
