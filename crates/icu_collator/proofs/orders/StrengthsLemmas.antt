-- A higher strength keeps an answer that isn't Equal, where the case level is off.
use Rattle.std.proofs.Common.{◌≡◌, ℕ, Bool, true, false, List, [], ◌∷◌, refl, ap, arith, filter_map}
use Rattle.std.specs.Prelude.{◌<◌, ◌≢◌}
use Rattle.std.proofs.lemmas.Bool.Decides.{nat_tests}
use Rattle.std.specs.Ordering.{ordering_then}
use Rattle.std.specs.declared.cmp.Ordering.{Ordering}
use Rattle.std.specs.declared.cmp.Ordering.TheVariants.{Less, Equal, Greater}
use Rattle.icu_collator_types.specs.declared.elements.Element.{Element}
use Rattle.icu_collator_types.specs.declared.options.Strength.{Strength}
use Rattle.icu_collator_types.specs.declared.options.Strength.TheVariants.{Secondary, Tertiary, Quaternary, Identical}
use Rattle.icu_collator_types.specs.declared.options.CaseLevel.TheVariants.{Off}
use Rattle.icu_collator_types.specs.declared.options.ResolvedCollatorOptions.{ResolvedCollatorOptions}
use Rattle.icu_collator_types.specs.Options.{is_at_least, has_case_level, strength_rank}
use Rattle.icu_collator_core.specs.Collation.{Collation}
use Rattle.icu_collator.specs.Shifted.{counted_behind}
use Rattle.icu_collator.specs.Strengths.{at_strength}
use Rattle.icu_collator.specs.Levels.{Levels, levels_of, elements_of_text, levels_of_text, tertiary_at}
use Rattle.icu_collator.specs.Order.{levels_order, where_in_force, collation_order}

-- which elements count is the same at every strength
counted_same : (collation : Collation) (options : ResolvedCollatorOptions) (s t : Strength) (b : Bool) (es : List Element)
    → counted_behind collation (at_strength options s) b es ≡ counted_behind collation (at_strength options t) b es
unfolding counted_behind
counted_same collation options s t b [] = refl
counted_same collation options s t b (e ∷ es) =
    cc (counted_same collation options s t true es, counted_same collation options s t false es)

-- if what is after a difference keeps its answer, so does the whole
behind_kept : (o x y : Ordering) → (x ≢ Equal → y ≡ x) → ordering_then o x ≢ Equal → ordering_then o y ≡ ordering_then o x
behind_kept Less x y h n = refl
behind_kept Equal x y h n = h n
behind_kept Greater x y h n = refl

-- a level that is in force below and above, or has nothing in force after it below
level_kept : (low high : Bool) (o x y : Ordering) → (low ≡ true → high ≡ true) → (low ≡ false → x ≡ Equal) → (x ≢ Equal → y ≡ x)
    → ordering_then (where_in_force low o) x ≢ Equal
    → ordering_then (where_in_force high o) y ≡ ordering_then (where_in_force low o) x
level_kept true true o x y f e h n = behind_kept o x y h n
level_kept true false o x y f e h n = cc (f refl)
level_kept false high o x y f e h n = absurd (n (e refl))

-- the last level
last_kept : (low high : Bool) (o : Ordering) → (low ≡ true → high ≡ true) → where_in_force low o ≢ Equal → where_in_force high o ≡ where_in_force low o
last_kept true true o f n = refl
last_kept true false o f n = cc (f refl)
last_kept false high o f n = absurd (n refl)

-- a strength that looks at a level is left by none that is higher
looks_kept : (level low high : Strength) → is_at_least high low ≡ true → is_at_least low level ≡ true → is_at_least high level ≡ true
looks_kept level low high h g = grind (arith, nat_tests)

-- where a level isn't looked at, none after it is
none_behind : (s t low : Strength) → strength_rank s < strength_rank t → is_at_least low s ≡ false → is_at_least low t ≡ false
none_behind s t low h g = grind (arith, nat_tests)

-- levels that are alike apart from case
record AreAlike (a b : Levels) : Type 0 where
  primaries : a.primaries ≡ b.primaries
  secondaries : a.secondaries ≡ b.secondaries
  tertiaries : a.tertiaries ≡ b.tertiaries
  quaternaries : a.quaternaries ≡ b.quaternaries
  characters : a.characters ≡ b.characters

levels_alike : (collation : Collation) (options : ResolvedCollatorOptions) (s t : Strength) (text : List ℕ)
    → AreAlike (levels_of_text collation (at_strength options s) text) (levels_of_text collation (at_strength options t) text)
unfolding levels_of
levels_alike collation options s t text =
    let e = counted_same collation options s t false (elements_of_text collation options text)
    in record {
      primaries = cc e;
      secondaries = cc e;
      tertiaries = ap (filter_map (tertiary_at options)) e;
      quaternaries = cc e;
      characters = refl;
    }

-- the answer of levels compared in turn, by the answers at each: at the first, and at those that are in force
abbrev in_turn : Ordering → Bool → Ordering → Bool → Ordering → Bool → Ordering → Bool → Ordering → Bool → Ordering → Ordering
in_turn p has_s s has_c c has_t t has_q q has_i i =
    ordering_then p (ordering_then (where_in_force has_s s) (ordering_then (where_in_force has_c c)
    (ordering_then (where_in_force has_t t) (ordering_then (where_in_force has_q q) (where_in_force has_i i)))))

in_turn_kept : (low high : Strength) (k : Bool) (p s c d t q i : Ordering) → k ≡ false → is_at_least high low ≡ true
    → in_turn p (is_at_least low Secondary) s k c (is_at_least low Tertiary) t (is_at_least low Quaternary) q (is_at_least low Identical) i ≢ Equal
    → in_turn p (is_at_least high Secondary) s k d (is_at_least high Tertiary) t (is_at_least high Quaternary) q (is_at_least high Identical) i
    ≡ in_turn p (is_at_least low Secondary) s k c (is_at_least low Tertiary) t (is_at_least low Quaternary) q (is_at_least low Identical) i
in_turn_kept low high true p s c d t q i off h n = cc
in_turn_kept low high false p s c d t q i off h n =
    let below : (a b : Strength) → strength_rank a < strength_rank b → is_at_least low a ≡ false → is_at_least low b ≡ false = λ a b. none_behind a b low
    in behind_kept p _ _ (level_kept _ _ s _ _ (looks_kept Secondary low high h)
    (λ e. cc (below Secondary Tertiary (omega arith) e, below Secondary Quaternary (omega arith) e, below Secondary Identical (omega arith) e))
    (level_kept _ _ t _ _ (looks_kept Tertiary low high h)
    (λ e. cc (below Tertiary Quaternary (omega arith) e, below Tertiary Identical (omega arith) e))
    (level_kept _ _ q _ _ (looks_kept Quaternary low high h)
    (λ e. cc (below Quaternary Identical (omega arith) e))
    (last_kept _ _ i (looks_kept Identical low high h))))) n

levels_kept : (options : ResolvedCollatorOptions) (low high : Strength) (a b a' b' : Levels) → AreAlike a a' → AreAlike b b'
    → has_case_level options.case_level ≡ false → is_at_least high low ≡ true
    → levels_order (at_strength options low) a b ≢ Equal
    → levels_order (at_strength options high) a' b' ≡ levels_order (at_strength options low) a b
unfolding levels_order
levels_kept options low high a b a' b' l r off h n =
    rw (← l.primaries, ← r.primaries, ← l.secondaries, ← r.secondaries, ← l.tertiaries, ← r.tertiaries, ← l.quaternaries, ← r.quaternaries, ← l.characters, ← r.characters)
    (in_turn_kept low high _ _ _ _ _ _ _ _ off h n)

-- an answer that isn't Equal stays at a higher strength, where the case level is off
pub raised_order : (collation : Collation) (options : ResolvedCollatorOptions) (low high : Strength) (a b : List ℕ)
    → options.case_level ≡ Off → is_at_least high low ≡ true
    → collation_order collation (at_strength options low) a b ≢ Equal
    → collation_order collation (at_strength options high) a b ≡ collation_order collation (at_strength options low) a b
raised_order collation options low high a b off h n =
    levels_kept options low high _ _ _ _ (levels_alike collation options low high a) (levels_alike collation options low high b)
    (ap has_case_level off) h n
