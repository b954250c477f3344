-- Different numbers: a set of them, and how many there are.
use Rattle.std.proofs.Common.{◌≡◌, ℕ, ◌+◌, Bool, true, false, cond, ◌||◌, not, eqb, List, [], ◌∷◌, ◌++◌, length, refl, sym, ap, ◌∙◌, arith, if◌then◌else◌, map, subst}
use Rattle.std.specs.Ordering.{nat_cmp}
use Rattle.std.specs.BTreeSet.{BTreeSet, contains, btree_set_len, Updates}
use Rattle.std.specs.BTreeMap.{is_at}
use Rattle.std.specs.List.{list_any}
use Rattle.std.proofs.lemmas.List.{map-append}
use Rattle.std.proofs.lemmas.List.Folds.{list_any-append}
use Rattle.std.proofs.lemmas.Bool.Decides.{nat_tests}
use Rattle.std.proofs.Math.Bool.{or-false, or-true}
use Rattle.std.specs.Cmp.{nat_eq_equiv}
use Rattle.std.proofs.lemmas.Bool.{eqb-true}
use Rattle.collate_rules.specs.Rules.{different}
use Rattle.collate_rules.specs.Limits.{Holds}

-- whether a list has a number, with one number more at its end
pub any_push : (n c : ℕ) (cs : List ℕ) → list_any (λ d. eqb n d) (cs ++ c ∷ []) ≡ (list_any (λ d. eqb n d) cs || eqb n c)
any_push n c cs = list_any-append (λ d. eqb n d) cs (c ∷ []) ∙ ap (λ (b : Bool). list_any (λ d. eqb n d) cs || b) (or-false (eqb n c))

joined : (a b : Bool) (n m : ℕ) → m ≡ cond a n (1 + n) → cond b m (1 + m) ≡ cond a (cond b n (1 + n)) (1 + cond b n (1 + n))
joined true true n m e = e
joined true false n m e = ap (λ k. 1 + k) e
joined false true n m e = e
joined false false n m e = ap (λ k. 1 + k) e

different-head : (c x : ℕ) (xs : List ℕ) (t : Bool) → eqb c x ≡ t → different (xs ++ c ∷ []) ≡ cond (list_any (λ d. eqb c d) xs) (different xs) (1 + different xs) → different (x ∷ (xs ++ c ∷ [])) ≡ cond (t || list_any (λ d. eqb c d) xs) (different (x ∷ xs)) (1 + different (x ∷ xs))
unfolding different
different-head c x xs true e h =
    let same : c ≡ x = eqb-true c x e in
    let found : list_any (λ d. eqb x d) (xs ++ c ∷ []) ≡ true =
    any_push x c xs ∙ ap (λ (b : Bool). list_any (λ d. eqb x d) xs || b) (nat_eq_equiv.symm x c ∙ e) ∙ or-true _ in
    ap (λ (b : Bool). cond b (different (xs ++ c ∷ [])) (1 + different (xs ++ c ∷ []))) found
    ∙ h
    ∙ ap (λ (y : ℕ). cond (list_any (λ d. eqb y d) xs) (different xs) (1 + different xs)) same
different-head c x xs false e h =
    ap (λ (b : Bool). cond b (different (xs ++ c ∷ [])) (1 + different (xs ++ c ∷ [])))
    (any_push x c xs ∙ ap (λ (b : Bool). list_any (λ d. eqb x d) xs || b) (nat_eq_equiv.symm x c ∙ e) ∙ or-false _)
    ∙ joined (list_any (λ d. eqb c d) xs) (list_any (λ d. eqb x d) xs) (different xs) (different (xs ++ c ∷ [])) h

-- one number more at the end of a list
pub different-push : (c : ℕ) (cs : List ℕ) → different (cs ++ c ∷ []) ≡ cond (list_any (λ d. eqb c d) cs) (different cs) (1 + different cs)
unfolding different
different-push c [] = refl
different-push c (x ∷ xs) = different-head c x xs (eqb c x) refl (different-push c xs)

-- one number more in a set
is_at_same : (c n : ℕ) → is_at (nat_cmp c) n ≡ eqb n c
is_at_same c n = grind (arith, nat_tests)

cond_or : (a b : Bool) → cond a true b ≡ (b || a)
cond_or true b = sym (or-true b)
cond_or false b = sym (or-false b)

counted : (b : Bool) (n m k : ℕ) → n ≡ k → m ≡ n + (if not b then 1 else 0) → m ≡ cond b k (1 + k)
counted true n m k e h = omega arith
counted false n m k e h = omega arith

pub holds_more : (names after : BTreeSet ℕ) (c : ℕ) (added : Bool) (list : List ℕ) → Holds names list → added ≡ not (contains nat_cmp names c) → Updates nat_cmp names after c true → btree_set_len after ≡ btree_set_len names + (if added then 1 else 0) → Holds after (list ++ c ∷ [])
holds_more names after c added list has is_new updates len = record {
  same = λ n. updates.0 n
      ∙ ap (λ (b : Bool). cond b true (contains nat_cmp names n)) (is_at_same c n)
      ∙ cond_or (eqb n c) (contains nat_cmp names n)
      ∙ ap (λ (b : Bool). b || eqb n c) (has.same n)
      ∙ sym (any_push n c list);
  count = counted (list_any (λ d. eqb c d) list) _ _ (different list) has.count (len ∙ ap (λ (b : Bool). btree_set_len names + (if b then 1 else 0)) (is_new ∙ ap not (has.same c)))
      ∙ sym (different-push c list);
}

-- a set of none
pub holds_none : (names : BTreeSet ℕ) → names.keys ≡ [] → Holds names []
unfolding different
holds_none names empty = record {
  same = λ n. ap (λ (ks : List ℕ). contains nat_cmp (record { keys = ks }) n) empty;
  count = ap length empty;
}

-- a set of what is taken from numbers, with one number more
pub holds_taken_more : (f : ℕ → ℕ) (names after : BTreeSet ℕ) (c : ℕ) (added : Bool) (list : List ℕ) → Holds names (map f list) → added ≡ not (contains nat_cmp names (f c)) → Updates nat_cmp names after (f c) true → btree_set_len after ≡ btree_set_len names + (if added then 1 else 0) → Holds after (map f (list ++ c ∷ []))
holds_taken_more f names after c added list has is_new updates len =
    subst (Holds after) (sym (map-append f list (c ∷ []))) (holds_more names after (f c) added (map f list) has is_new updates len)
