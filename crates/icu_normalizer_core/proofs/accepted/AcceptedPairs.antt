-- The composed pairs of accepted tables keep the promises of canonical data.
use Rattle.std.proofs.Common.{◌≡◌, ℕ, suc, ◌<◌, ◌≤◌, ◌⊎◌, inl, inr, ⊎_elim, ◌==◌, ◌&&◌, List, [], ◌∷◌, length, slice_index, false, Option, Some, None, refl, sym, ◌∙◌, arith, subst}
use Rattle.std.specs.Option.{IfSome}
use Rattle.std.specs.Char.{IsScalar}
use lib.Utf8.{low_scalar}
use Rattle.std.proofs.lemmas.Bool.{and_parts, cases_Bool, cases_lt, cond-true, cond-false, eqb-true}
use Rattle.std.proofs.lemmas.Option.{none-some, same_Some}
use Rattle.icu_normalizer_core.specs.BuiltIn.{is_within, singled_out, syllable_of, built_in_step}
use Rattle.icu_normalizer_core.specs.Canonical.{IsComposing, IsCanonical, composed}
use Rattle.icu_normalizer_core.specs.CanonicalLists.{CanonicalLists, listed_pair, canonical_of, pair_first, pair_second, pair_composed}
use Rattle.icu_normalizer_core.specs.CanonicalFaults.{IsAccepted, IsBadPair}
use Rattle.icu_normalizer_core.proofs.accepted.AcceptedForms.{accepted_pairs, eq_stands}
use Rattle.icu_normalizer_core.proofs.accepted.AcceptedTables.{list_stands, cases_step, free_single, decomposing}
use Rattle.icu_normalizer_core.proofs.accepted.TableMeanings.{step_built_in, pair_syllable, pair_listed}
use Rattle.icu_normalizer_core.proofs.built.BuiltInFacts.{syllable_pair, syllable_scalar, syllable_unsingled}

-- where the entry stands that gives what two characters compose to
pub record IsEntry (pairs : List ℕ) (a b c : ℕ) : Type 0 where
  pub index : ℕ
  pub inside : index < length pairs
  pub first : pair_first (slice_index pairs index) ≡ a
  pub second : pair_second (slice_index pairs index) ≡ b
  pub composes : pair_composed (slice_index pairs index) ≡ c

pub listed_entry : (pairs : List ℕ) (a b c : ℕ) → listed_pair pairs a b ≡ Some c → IsEntry pairs a b c
unfolding listed_pair
listed_entry [] a b c e = absurd (none-some c e)
listed_entry (pair ∷ rest) a b c e =
    ⊎_elim
    (λ t.
    let both = and_parts (pair_first pair == a) (pair_second pair == b) t in
    record {
      index = 0;
      inside = omega arith;
      first = eqb-true (pair_first pair) a both.0;
      second = eqb-true (pair_second pair) b both.1;
      composes = same_Some (pair_composed pair) c (sym (cond-true _ (Some (pair_composed pair)) (listed_pair rest a b) t) ∙ e);
    })
    (λ f.
    let later = listed_entry rest a b c (sym (cond-false _ (Some (pair_composed pair)) (listed_pair rest a b) f) ∙ e) in
    record {
      index = suc later.index;
      inside = let within = later.inside in omega arith;
      first = later.first;
      second = later.second;
      composes = later.composes;
    })
    (cases_Bool ((pair_first pair == a) && (pair_second pair == b)))

-- two optional characters
pub cases_option : (o : Option ℕ) → (o ≡ None) ⊎ ((c : ℕ) × (o ≡ Some c))
cases_option None = inl refl
cases_option (Some c) = inr (c, refl)

module _ (lists : CanonicalLists) (a : IsAccepted lists) where
  -- what is known of an entry
  record IsGoodPair (x y z : ℕ) : Type 0 where
    scalar : IsScalar z
    free : built_in_step z ≡ None
    step : (canonical_of lists).step z ≡ x ∷ y ∷ []
    high : 0x300 ≤ y
    letter : is_within 0x1161 0x11ff y ≡ false

  good_entry : (i : ℕ) → i < length lists.pairs
      → IsGoodPair (pair_first (slice_index lists.pairs i)) (pair_second (slice_index lists.pairs i)) (pair_composed (slice_index lists.pairs i))
  good_entry i h =
      let pair : ℕ = slice_index lists.pairs i in
      let scalar : IsScalar (pair_composed pair) = (accepted_pairs lists a).composed i h in
      let good : IsBadPair lists pair → ⊥ = λ bad. a.composing (pair_composed pair) scalar (inr (inl (i, h, (refl, bad)))) in
      record {
        scalar = scalar;
        free = ⊎_elim (λ none. none) (λ some. absurd (good (inl (λ free. none-some some.0 (sym free ∙ some.1))))) (cases_step (built_in_step (pair_composed pair)));
        step = list_stands ((canonical_of lists).step (pair_composed pair)) (pair_first pair ∷ pair_second pair ∷ []) (λ ne. good (inr (inl ne)));
        high = ⊎_elim (λ lt. absurd (good (inr (inr (inl lt))))) (λ ge. ge) (cases_lt (pair_second pair) 0x300);
        letter = ⊎_elim (λ t. absurd (good (inr (inr (inr t))))) (λ f. f) (cases_Bool (is_within 0x1161 0x11ff (pair_second pair)));
      }

  good_at : (x y z : ℕ) → IsEntry lists.pairs x y z → IsGoodPair x y z
  good_at x y z e =
      subst (λ (n : ℕ). IsGoodPair x y n) e.composes
      (subst (λ (n : ℕ). IsGoodPair x n (pair_composed (slice_index lists.pairs e.index))) e.second
      (subst (λ (n : ℕ). IsGoodPair n (pair_second (slice_index lists.pairs e.index)) (pair_composed (slice_index lists.pairs e.index))) e.first
      (good_entry e.index e.inside)))

  listed_good : (x y z : ℕ) → (canonical_of lists).pair x y ≡ Some z → syllable_of x y ≡ None → IsGoodPair x y z
  listed_good x y z e none = good_at x y z (listed_entry lists.pairs x y z (sym (pair_listed lists x y none) ∙ e))

  -- what holds of syllables' pairs and of the listed ones
  each_pair : (Q : ℕ → ℕ → ℕ → Type 0) → ((x y z : ℕ) → syllable_of x y ≡ Some z → Q x y z) → ((x y z : ℕ) → IsGoodPair x y z → Q x y z)
      → (x y z : ℕ) → (canonical_of lists).pair x y ≡ Some z → Q x y z
  each_pair Q syllables listed x y z e =
      ⊎_elim
      (λ none. listed x y z (listed_good x y z e none))
      (λ some.
      let same : some.0 ≡ z = same_Some some.0 z (sym (pair_syllable lists x y some.0 some.1) ∙ e) in
      subst (λ (n : ℕ). Q x y n) same (syllables x y some.0 some.1))
      (cases_option (syllable_of x y))

  syllables_agree : (x y : ℕ) (o : Option ℕ) → syllable_of x y ≡ o → IfSome o (λ c. (canonical_of lists).pair x y ≡ Some c)
  syllables_agree x y (Some c) e = pair_syllable lists x y c e
  syllables_agree x y None e = tt

  pub composing : IsComposing (canonical_of lists)
  composing = record {
    syllables = λ x y. syllables_agree x y (syllable_of x y) refl;
    mapped = each_pair (λ x y z. (canonical_of lists).step z ≡ x ∷ y ∷ []) (λ x y z e. step_built_in lists z (x ∷ y ∷ []) (syllable_pair x y z e).step) (λ x y z g. g.step);
    scalars = each_pair (λ x y z. IsScalar z) (λ x y z e. syllable_scalar z (syllable_pair x y z e).syllable) (λ x y z g. g.scalar);
    uncomposed = each_pair (λ x y z. singled_out z ≡ None) (λ x y z e. syllable_unsingled z (syllable_pair x y z e).syllable) (λ x y z g. free_single z g.free);
    seconds = each_pair (λ x y z. 0x300 ≤ y) (λ x y z e. (syllable_pair x y z e).second) (λ x y z g. g.high);
    letters = λ x y z e none. (listed_good x y z e none).letter;
    starters = λ c low. eq_stands ((canonical_of lists).class c) 0 (λ ne. a.built_ins c (low_scalar c (omega arith)) (inr (inr (inr (inl (low, ne))))));
    own = λ c low. list_stands (composed (canonical_of lists) (c ∷ [])) (c ∷ []) (λ ne. a.composing c (low_scalar c (omega arith)) (inr (inr (low, ne))));
    unmapped = λ c low. list_stands ((canonical_of lists).step c) [] (λ ne. a.built_ins c (low_scalar c (omega arith)) (inr (inr (inr (inr (inl (low, ne)))))));
  }

  pub canonical : IsCanonical (canonical_of lists)
  canonical = record { decomposing = decomposing lists a; composing = composing }

  -- what a listed pair composes to has no built-in mapping
  pub listed_free : (x y z : ℕ) → (canonical_of lists).pair x y ≡ Some z → syllable_of x y ≡ None → built_in_step z ≡ None
  listed_free x y z e none = (listed_good x y z e none).free
