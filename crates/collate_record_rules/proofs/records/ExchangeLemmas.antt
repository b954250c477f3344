-- Pairs of leads that change places: each lead gets another, or keeps its place.
use Rattle.std.proofs.Common.{◌≡◌, ℕ, Bool, true, false, cond, not, ◌==◌, ◌&&◌, ◌||◌, List, [], ◌∷◌, map, Option, Some, None, refl, sym, ap, ◌∙◌, subst}
use Rattle.std.specs.Option.{unwrap_or}
use Rattle.std.specs.List.{Contains, list_all, list_any}
use Rattle.std.proofs.lemmas.Bool.{and_parts, eqb-true, eq-eqb, false≢true, not-true, or_left, or_right}
use Rattle.std.proofs.lemmas.List.Folds.{list_all-map}
use Rattle.icu_collator_core.specs.SettingRules.{are_alike, are_among, are_distinct, is_exchange, keep_compressible}
use Rattle.icu_collator_core.specs.WeightRules.{is_letter_lead}
use Rattle.icu_collator_core.proofs.apart.GrowthLemmas.{first_in, later_in}
use Rattle.collate_rules.specs.KeptSettings.{ExchangesLeads}
use Rattle.collate_rules.specs.Meaning.{first_found, place_among}
use Rattle.collate_rules.proofs.given.GivenListLemmas.{list_all_tells}

-- ---- The lead that pairs give

abbrev placed : List (ℕ × ℕ) → ℕ → Option ℕ
placed [] lead = None
placed (p ∷ ps) lead = cond (p.0 == lead) (Some p.1) (placed ps lead)

found_or : (b : Bool) (v : ℕ) (later after : Option ℕ) → later ≡ after
    → elim (cond b (Some v) None) as (λ _. Option ℕ) [ Some y ↦ Some y | None ↦ later ] ≡ cond b (Some v) after
found_or true v later after e = refl
found_or false v later after e = e

placed_is : (ps : List (ℕ × ℕ)) (lead : ℕ) → first_found (λ pair. cond (pair.0 == lead) (Some pair.1) None) ps ≡ placed ps lead
placed_is [] lead = refl
placed_is (p ∷ ps) lead = found_or (p.0 == lead) p.1 _ _ (placed_is ps lead)

-- what holds of a lead that is given and of one that is kept holds of the lead in place
place_by : (ps : List (ℕ × ℕ)) (lead : ℕ) (P : ℕ → Type 0) → ((to : ℕ) → placed ps lead ≡ Some to → P to) → (placed ps lead ≡ None → P lead)
    → P (place_among ps lead)
place_by ps lead P given kept = subst P (sym (ap (λ (o : Option ℕ). unwrap_or o lead) (placed_is ps lead))) (by (placed ps lead) refl)
  where
    by : (o : Option ℕ) → placed ps lead ≡ o → P (unwrap_or o lead)
    by (Some to) e = given to e
    by None e = kept e

-- a lead that is given stands in a pair
in_pair : (ps : List (ℕ × ℕ)) (lead to : ℕ) → placed ps lead ≡ Some to → Contains ps (lead, to)
in_pair [] lead to h = absurd (cc)
in_pair (p ∷ ps) lead to h = by (p.0 == lead) refl h (in_pair ps lead to)
  where
    by : (b : Bool) → (p.0 == lead) ≡ b → cond b (Some p.1) (placed ps lead) ≡ Some to
        → (placed ps lead ≡ Some to → Contains ps (lead, to)) → Contains (p ∷ ps) (lead, to)
    by true e k later =
        let same : p.1 ≡ to = cc in
        subst (λ (l : ℕ). Contains (p ∷ ps) (l, to)) (eqb-true p.0 lead e) (subst (λ (t : ℕ). Contains (p ∷ ps) (p.0, t)) same (first_in p ps))
    by false e k later = later_in p (lead, to) ps (later k)

abbrev leads : List (ℕ × ℕ) → List ℕ
leads ps = map (λ pair. pair.0) ps

abbrev others : List (ℕ × ℕ) → List ℕ
others ps = map (λ pair. pair.1) ps

-- one that stands on the left is given another
left_placed : (ps : List (ℕ × ℕ)) (lead : ℕ) → list_any (λ y. y == lead) (leads ps) ≡ true → placed ps lead ≡ None → ⊥
left_placed [] lead h none = false≢true h
left_placed (p ∷ ps) lead h none = by (p.0 == lead) h none (left_placed ps lead)
  where
    by : (b : Bool) → (b || list_any (λ y. y == lead) (leads ps)) ≡ true → cond b (Some p.1) (placed ps lead) ≡ None
        → (list_any (λ y. y == lead) (leads ps) ≡ true → placed ps lead ≡ None → ⊥) → ⊥
    by true g n later = cc
    by false g n later = later g n

-- one that is given stands on the right
right_given : (ps : List (ℕ × ℕ)) (lead to : ℕ) → placed ps lead ≡ Some to → list_any (λ y. y == to) (others ps) ≡ true
right_given [] lead to h = absurd (cc)
right_given (p ∷ ps) lead to h = by (p.0 == lead) h (right_given ps lead to)
  where
    by : (b : Bool) → cond b (Some p.1) (placed ps lead) ≡ Some to → (placed ps lead ≡ Some to → list_any (λ y. y == to) (others ps) ≡ true)
        → list_any (λ y. y == to) (others (p ∷ ps)) ≡ true
    by true k later = or_left (p.1 == to) (list_any (λ y. y == to) (others ps)) (eq-eqb p.1 to (cc))
    by false k later = or_right (p.1 == to) (list_any (λ y. y == to) (others ps)) (later k)

-- where no number stands twice on the right, one is given for one lead
given_once : (ps : List (ℕ × ℕ)) (a b to : ℕ) → are_distinct (others ps) ≡ true → placed ps a ≡ Some to → placed ps b ≡ Some to → a ≡ b
given_once [] a b to d h k = absurd (cc)
given_once (p ∷ ps) a b to d h k = by (p.0 == a) (p.0 == b) refl refl h k (given_once ps a b to)
  where
    apart : (not (list_any (λ y. y == p.1) (others ps)) ≡ true) × (are_distinct (others ps) ≡ true)
    apart = and_parts _ (are_distinct (others ps)) d

    alone : (c : ℕ) → p.1 ≡ to → placed ps c ≡ Some to → ⊥
    alone c e g =
        let there : list_any (λ y. y == p.1) (others ps) ≡ true = right_given ps c p.1 (g ∙ ap Some (sym e)) in
        false≢true (sym (not-true (list_any (λ y. y == p.1) (others ps)) apart.0) ∙ there)

    by : (s t : Bool) → (p.0 == a) ≡ s → (p.0 == b) ≡ t → cond s (Some p.1) (placed ps a) ≡ Some to → cond t (Some p.1) (placed ps b) ≡ Some to
        → (are_distinct (others ps) ≡ true → placed ps a ≡ Some to → placed ps b ≡ Some to → a ≡ b) → a ≡ b
    by true true e f g l later = sym (eqb-true p.0 a e) ∙ eqb-true p.0 b f
    by true false e f g l later = absurd (alone b (cc) l)
    by false true e f g l later = absurd (alone a (cc) g)
    by false false e f g l later = later apart.1 g l

-- ---- An exchange

alike_from : (x y : Bool) → cond x y (not y) ≡ true → y ≡ x
alike_from true y h = h
alike_from false y h = not-true y h

-- what a test of all on one side tells of a pair
left_passes : (test : ℕ → Bool) (ps : List (ℕ × ℕ)) (a b : ℕ) → list_all test (leads ps) ≡ true → Contains ps (a, b) → test a ≡ true
left_passes test ps a b h c = list_all_tells (λ pair. test pair.0) ps (sym (list_all-map test (λ pair. pair.0) ps) ∙ h) (a, b) c

right_passes : (test : ℕ → Bool) (ps : List (ℕ × ℕ)) (a b : ℕ) → list_all test (others ps) ≡ true → Contains ps (a, b) → test b ≡ true
right_passes test ps a b h c = list_all_tells (λ pair. test pair.1) ps (sym (list_all-map test (λ pair. pair.1) ps) ∙ h) (a, b) c

record IsExchange (ps : List (ℕ × ℕ)) : Type 0 where
  pub left : list_all is_letter_lead (leads ps) ≡ true
  pub right : list_all is_letter_lead (others ps) ≡ true
  pub distinct : are_distinct (others ps) ≡ true
  pub among : are_among (leads ps) (others ps) ≡ true

six : (a b c d e f : Bool) → (a && b && c && d && e && f) ≡ true
    → (a ≡ true) × (b ≡ true) × (d ≡ true) × (e ≡ true)
six true true true true true true h = (refl, refl, refl, refl)
six false b c d e f h = absurd (false≢true h)
six true false c d e f h = absurd (false≢true h)
six true true false d e f h = absurd (false≢true h)
six true true true false e f h = absurd (false≢true h)
six true true true true false f h = absurd (false≢true h)
six true true true true true false h = absurd (false≢true h)

exchange_parts : (ps : List (ℕ × ℕ)) → is_exchange ps ≡ true → IsExchange ps
exchange_parts ps h =
    let parts = six (list_all is_letter_lead (leads ps)) (list_all is_letter_lead (others ps)) (are_distinct (leads ps)) (are_distinct (others ps))
    (are_among (leads ps) (others ps)) (are_among (others ps) (leads ps)) h in
    record { left = parts.0; right = parts.1; distinct = parts.2; among = parts.3 }

module _ (f : ℕ → Bool) (ps : List (ℕ × ℕ)) (exchange : IsExchange ps) (keep : keep_compressible f ps ≡ true) where
  -- what is given is given another in turn
  given_placed : (a x : ℕ) → placed ps a ≡ Some x → placed ps x ≡ None → ⊥
  given_placed a x h = left_placed ps x (right_passes (λ y. list_any (λ z. z == y) (leads ps)) ps a x exchange.among (in_pair ps a x h))

  apart : (a b : ℕ) → place_among ps a ≡ place_among ps b → a ≡ b
  apart a b =
      place_by ps a (λ x. x ≡ place_among ps b → a ≡ b)
      (λ x h. place_by ps b (λ y. x ≡ y → a ≡ b)
      (λ y k e. given_once ps a b x exchange.distinct h (k ∙ ap Some (sym e)))
      (λ k e. absurd (given_placed a x h (subst (λ (c : ℕ). placed ps c ≡ None) (sym e) k))))
      (λ h. place_by ps b (λ y. a ≡ y → a ≡ b)
      (λ y k e. absurd (given_placed b y k (subst (λ (c : ℕ). placed ps c ≡ None) e h)))
      (λ k e. e))

  exchanges_of : ExchangesLeads f (place_among ps)
  exchanges_of = record {
    outside = λ lead h. place_by ps lead (λ x. x ≡ lead)
        (λ x k. absurd (false≢true (sym h ∙ left_passes is_letter_lead ps lead x exchange.left (in_pair ps lead x k)))) (λ k. refl);
    inside = λ lead h. place_by ps lead (λ x. is_letter_lead x ≡ true)
        (λ x k. right_passes is_letter_lead ps lead x exchange.right (in_pair ps lead x k)) (λ k. h);
    one_to_one = apart;
    alike = λ lead. place_by ps lead (λ x. f x ≡ f lead)
        (λ x k. alike_from (f lead) (f x) (list_all_tells (λ pair. are_alike f pair.0 pair.1) ps keep (lead, x) (in_pair ps lead x k))) (λ k. refl);
  }

pub exchanges : (f : ℕ → Bool) (ps : List (ℕ × ℕ)) → is_exchange ps ≡ true → keep_compressible f ps ≡ true → ExchangesLeads f (place_among ps)
exchanges f ps h keep = exchanges_of f ps (exchange_parts ps h) keep
