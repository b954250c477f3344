-- Levels of elements after common ones: where the elements count apart from those and secondaries aren't read backward,
-- they compare as they do without the common ones.
use Rattle.std.proofs.Common.{◌≡◌, ℕ, Bool, false, ◌==◌, List, [], ◌∷◌, ◌++◌, refl, ap, ◌∙◌, Option, filter_map}
use Rattle.std.proofs.lemmas.Bool.{and_right}
use Rattle.std.proofs.lemmas.List.Elements.{filter_map-append}
use Rattle.std.specs.declared.cmp.Ordering.{Ordering}
use Rattle.std.specs.declared.cmp.Ordering.TheVariants.{Less, Greater}
use Rattle.std.specs.Ordering.{ordering_then}
use Rattle.icu_collator_types.specs.declared.elements.Element.{Element}
use Rattle.icu_collator_types.specs.declared.options.ResolvedCollatorOptions.{ResolvedCollatorOptions}
use Rattle.icu_collator_types.specs.declared.options.Strength.TheVariants.{Secondary, Tertiary, Quaternary, Identical}
use Rattle.icu_collator_types.specs.Options.{has_case_level, is_at_least, is_shifted}
use Rattle.icu_collator_core.specs.Collation.{Collation}
use Rattle.icu_collator.specs.CommonBoundaries.{CountApart}
use Rattle.icu_collator.specs.Levels.{levels_of, primary_at, secondary_at, case_at, tertiary_at, quaternary_at, secondaries_of}
use Rattle.icu_collator.specs.Order.{list_order, levels_order, where_in_force, secondary_rank, quaternary_rank, character_rank}
use Rattle.icu_collator.specs.Shifted.{Counted, counted, counted_behind, is_variable}
use Rattle.icu_collator.proofs.keys.CodesLemmas.{ranks_equal}
use Rattle.icu_collator.proofs.numbers.NumberLevelLemmas.{behind_after, counted_append}

-- a common front changes no answer
pub ranks_behind : {W : Type 0} (rank : W → ℕ) (us xs ys : List W) → list_order rank (us ++ xs) (us ++ ys) ≡ list_order rank xs ys
ranks_behind rank [] xs ys = refl
ranks_behind rank (u ∷ us) xs ys = ranks_equal rank u (us ++ xs) (us ++ ys) ∙ ranks_behind rank us xs ys

-- a list is less than one that goes on
pub ranks_end : {W : Type 0} (rank : W → ℕ) (us : List W) (x : W) (xs : List W) → list_order rank us (us ++ x ∷ xs) ≡ Less
ranks_end rank [] x xs = refl
ranks_end rank (u ∷ us) x xs = ranks_equal rank u us (us ++ x ∷ xs) ∙ ranks_end rank us x xs

pub ranks_on : {W : Type 0} (rank : W → ℕ) (us : List W) (x : W) (xs : List W) → list_order rank (us ++ x ∷ xs) us ≡ Greater
ranks_on rank [] x xs = refl
ranks_on rank (u ∷ us) x xs = ranks_equal rank u (us ++ x ∷ xs) us ∙ ranks_on rank us x xs

-- what elements give at one level after common ones
level_behind : {W : Type 0} (rank : W → ℕ) (weight : Counted → Option W) (us xs ys : List Counted)
    → list_order rank (filter_map weight (us ++ xs)) (filter_map weight (us ++ ys)) ≡ list_order rank (filter_map weight xs) (filter_map weight ys)
level_behind rank weight us xs ys =
    ap (λ w. list_order rank w (filter_map weight (us ++ ys))) (filter_map-append weight us xs)
    ∙ ap (λ w. list_order rank (filter_map weight us ++ filter_map weight xs) w) (filter_map-append weight us ys)
    ∙ ranks_behind rank (filter_map weight us) (filter_map weight xs) (filter_map weight ys)

module _ (collation : Collation) (options : ResolvedCollatorOptions) where
  -- where nothing is shifted, all do
  none_behind : is_shifted options.alternate_handling ≡ false → (es : List Element) → behind_after collation options false es ≡ false
  unfolding behind_after
  none_behind plain [] = refl
  none_behind plain (e ∷ es) =
      let fixed : is_variable collation options e ≡ false = rw plain refl in rw fixed (none_behind plain es)

  pub unshifted_apart : is_shifted options.alternate_handling ≡ false → (fs : List Element) → CountApart collation options fs
  unshifted_apart plain fs es =
      counted_append collation options false es fs
      ∙ ap (λ (b : Bool). counted_behind collation options false es ++ counted_behind collation options b fs) (none_behind plain es)

  -- else those do that begin with a primary weight
  primary_anew : (b : Bool) (e : Element) (fs : List Element) → (e.primary == 0) ≡ false
      → counted_behind collation options b (e ∷ fs) ≡ counted_behind collation options false (e ∷ fs)
  unfolding counted_behind
  primary_anew b e fs filled = rw (and_right b (e.primary == 0) filled) refl

  pub primary_apart : (e : Element) (fs : List Element) → (e.primary == 0) ≡ false → CountApart collation options (e ∷ fs)
  primary_apart e fs filled es =
      counted_append collation options false es (e ∷ fs)
      ∙ ap (λ (cs : List Counted). counted_behind collation options false es ++ cs) (primary_anew (behind_after collation options false es) e fs filled)

-- where the six levels compare alike, texts do
abbrev in_turn : ResolvedCollatorOptions → Ordering → Ordering → Ordering → Ordering → Ordering → Ordering → Ordering
in_turn options p s c t q u =
    ordering_then p
    (ordering_then (where_in_force (is_at_least options.strength Secondary) s)
    (ordering_then (where_in_force (has_case_level options.case_level) c)
    (ordering_then (where_in_force (is_at_least options.strength Tertiary) t)
    (ordering_then (where_in_force (is_at_least options.strength Quaternary) q)
    (where_in_force (is_at_least options.strength Identical) u)))))

in_turn_same : (options : ResolvedCollatorOptions) (p s c t q u p' s' c' t' q' u' : Ordering)
    → p ≡ p' → s ≡ s' → c ≡ c' → t ≡ t' → q ≡ q' → u ≡ u' → in_turn options p s c t q u ≡ in_turn options p' s' c' t' q' u'
in_turn_same options p s c t q u p' s' c' t' q' u' e f g h i j = rw (e, f, g, h, i, j) refl

module _ (collation : Collation) (options : ResolvedCollatorOptions) (forward : collation.backward ≡ false) where
  secondaries_forward : (es : List Counted) → secondaries_of collation es ≡ filter_map secondary_at es
  secondaries_forward es = rw forward refl

  -- levels after those of common elements and characters
  pub levels_behind : (es fs gs : List Element) (us xs ys : List ℕ) → CountApart collation options fs → CountApart collation options gs
      → levels_order options (levels_of collation options (es ++ fs) (us ++ xs)) (levels_of collation options (es ++ gs) (us ++ ys))
      ≡ levels_order options (levels_of collation options fs xs) (levels_of collation options gs ys)
  unfolding levels_order levels_of
  levels_behind es fs gs us xs ys one other =
      let front = counted collation options es
      in let first = counted collation options fs
      in let second = counted collation options gs
      in rw (one es, other es)
      (rw (secondaries_forward (front ++ first), secondaries_forward (front ++ second), secondaries_forward first, secondaries_forward second)
      (in_turn_same options _ _ _ _ _ _ _ _ _ _ _ _
      (level_behind (λ w. w) (primary_at collation) front first second)
      (level_behind secondary_rank secondary_at front first second)
      (level_behind (λ w. w) (case_at options) front first second)
      (level_behind (λ w. w) (tertiary_at options) front first second)
      (level_behind quaternary_rank (quaternary_at collation) front first second)
      (ranks_behind character_rank us xs ys)))
