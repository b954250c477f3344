-- Values noted for keys: whether one key has one value.
use Rattle.std.proofs.Common.{◌≡◌, ◌≢◌, ℕ, ◌<◌, ◌≤◌, ◌+◌, ◌⊎◌, inl, inr, List, length, Option, Some, None, get_or, set, replicate, true, false, refl, sym, ◌∙◌, ap, arith, get_or-set_same, get_or-set_other}
use Rattle.std.proofs.lemmas.Bool.{cases_eq, cases_lt, eqb-false, false≢true}
use Rattle.std.specs.Prelude.{◌==◌, MatchOption}
use Rattle.std.proofs.lemmas.Option.{none-some, same_Some, slice_get_past, unwrap_or-slice_get}
use Rattle.std.proofs.lemmas.List.{get_or-replicate, length-replicate}
use Rattle.std.specs.Option.{unwrap_or}
use Rattle.icu_collator_core.specs.ReorderingTests.{AreValuesNoted, IsFunctional}

none_at : (count k : ℕ) → (k < count) ⊎ (count ≤ k) → ◌≡◌ {A = Option ℕ} (get_or (replicate count None) k None) None
none_at count k (inl lt) = get_or-replicate count k None None lt
none_at count k (inr ge) =
    let long : ◌≡◌ {A = ℕ} (length (replicate {A = Option ℕ} count None)) count = length-replicate count None
    in let past : length (replicate {A = Option ℕ} count None) ≤ k = omega (arith, ge, long)
    in sym (unwrap_or-slice_get (replicate count None) k None) ∙ ap (λ o. unwrap_or o None) (slice_get_past (replicate count None) k past)

-- none are noted at first
pub none_noted : (key value : ℕ → ℕ) (count : ℕ) → AreValuesNoted key value 0 (replicate count None)
none_noted key value count = record {
  each = λ i lt. absurd (omega (arith, lt));
  only = λ k v is. absurd (none-some v (sym (none_at count k (cases_lt k count)) ∙ is));
}

-- the next one is noted, where its key had no value, or the same
pub next_noted : (key value : ℕ → ℕ) (n : ℕ) (noted : List (Option ℕ)) → AreValuesNoted key value n noted → key n < length noted
    → ((v : ℕ) → get_or noted (key n) None ≡ Some v → v ≡ value n)
    → AreValuesNoted key value (n + 1) (set noted (key n) (Some (value n)))
next_noted key value n noted were inside same = record { each = λ i lt. each i lt (cases_eq i n); only = λ k v is. only k v is (cases_eq k (key n)) }
  where
    written : get_or (set noted (key n) (Some (value n))) (key n) None ≡ Some (value n)
    written = get_or-set_same noted (key n) (Some (value n)) None inside

    kept : (k : ℕ) → k ≢ key n → get_or (set noted (key n) (Some (value n))) k None ≡ get_or noted k None
    kept k differs = get_or-set_other noted (key n) k (Some (value n)) None differs

    at_key : (k : ℕ) → k ≡ key n → get_or (set noted (key n) (Some (value n))) k None ≡ Some (value n)
    at_key k e = ap (λ x. get_or (set noted (key n) (Some (value n))) x None) e ∙ written

    earlier : (i : ℕ) → i < n → (key i ≡ key n) ⊎ (key i ≢ key n) → get_or (set noted (key n) (Some (value n))) (key i) None ≡ Some (value i)
    earlier i lt (inl e) =
        at_key (key i) e ∙ ap Some (sym (same (value i) (ap (λ x. get_or noted x None) (sym e) ∙ were.each i lt)))
    earlier i lt (inr e) = kept (key i) e ∙ were.each i lt

    each : (i : ℕ) → i < n + 1 → (i ≡ n) ⊎ (i ≢ n) → get_or (set noted (key n) (Some (value n))) (key i) None ≡ Some (value i)
    each i lt (inl e) = at_key (key i) (ap key e) ∙ ap (λ x. Some (value x)) (sym e)
    each i lt (inr e) = earlier i (omega (arith, lt, e)) (cases_eq (key i) (key n))

    only : (k v : ℕ) → get_or (set noted (key n) (Some (value n))) k None ≡ Some v → (k ≡ key n) ⊎ (k ≢ key n)
        → (i : ℕ) × (i < n + 1) × (key i ≡ k) × (value i ≡ v)
    only k v is (inl e) = (n, omega arith, sym e, same_Some (value n) v (sym (at_key k e) ∙ is))
    only k v is (inr e) = let before = were.only k v (sym (kept k e) ∙ is) in (before.0, omega (arith, before.1), before.2, before.3)

-- two values of one key are noted
pub noted_apart : (key value : ℕ → ℕ) (n count v : ℕ) (noted : List (Option ℕ)) → AreValuesNoted key value n noted → n < count
    → get_or noted (key n) None ≡ Some v → v ≢ value n → IsFunctional key value count → ⊥
noted_apart key value n count v noted were lt is differs functional =
    let before = were.only (key n) v is
    in differs (sym before.3 ∙ functional before.0 n (omega (arith, before.1, lt)) lt before.2)

-- where all are noted, one key has one value
pub all_noted : (key value : ℕ → ℕ) (count : ℕ) (noted : List (Option ℕ)) → AreValuesNoted key value count noted → IsFunctional key value count
all_noted key value count noted were i j lti ltj same =
    same_Some (value i) (value j) (sym (were.each i lti) ∙ ap (λ k. get_or noted k None) same ∙ were.each j ltj)

-- a value that isn't the one noted shows the same
pub noted_refused : (key value : ℕ → ℕ) (n count k v : ℕ) (noted : List (Option ℕ)) → AreValuesNoted key value n noted → n < count
    → k ≡ key n → v ≡ value n → MatchOption (get_or noted k None) (false ≡ true) (λ other. false ≡ (other == v))
    → IsFunctional key value count → ⊥
noted_refused key value n count k v noted were lt hk hv told functional = at (get_or noted k None) refl told
  where
    at : (o : Option ℕ) → get_or noted k None ≡ o → MatchOption o (false ≡ true) (λ other. false ≡ (other == v)) → ⊥
    at None e h = false≢true h
    at (Some other) e h =
        noted_apart key value n count other noted were lt (ap (λ x. get_or noted x None) (sym hk) ∙ e)
        (λ same. eqb-false other v (sym h) (same ∙ sym hv)) functional
