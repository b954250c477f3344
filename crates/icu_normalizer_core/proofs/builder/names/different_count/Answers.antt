use Rattle.std.proofs.Common.{◌≡◌, ℕ, Bool, cond, ◌||◌, List, [], ◌∷◌, nat_eq, length, refl, ap, ◌∙◌, arith}
use Rattle.std.specs.Ordering.{eq_by_cmp, nat_cmp}
use Rattle.std.specs.Set.{is_member, unique_keys}
use Rattle.std.proofs.lemmas.Bool.Decides.{nat_tests}
use Rattle.std.proofs.lemmas.Cmp.{nat_cmp_total}
use Rattle.std.proofs.lemmas.Map.Views.{btree_set_len-from_list}
use Rattle.icu_normalizer_core.proofs.builder.names.different_count.Goals as goal

tests_alike : (a b : ℕ) → eq_by_cmp nat_cmp a b ≡ nat_eq a b
tests_alike a b = grind (arith, nat_tests)

member_alike : (xs : List ℕ) (q : ℕ) → is_member (eq_by_cmp nat_cmp) xs q ≡ is_member nat_eq xs q
member_alike [] q = refl
member_alike (x ∷ xs) q =
    ap (λ (b : Bool). b || is_member (eq_by_cmp nat_cmp) xs q) (tests_alike q x) ∙ ap (λ (b : Bool). nat_eq q x || b) (member_alike xs q)

uniques_alike : (xs : List ℕ) → unique_keys (eq_by_cmp nat_cmp) xs ≡ unique_keys nat_eq xs
uniques_alike [] = refl
uniques_alike (x ∷ xs) =
    ap (λ (b : Bool). cond b (unique_keys (eq_by_cmp nat_cmp) xs) (x ∷ unique_keys (eq_by_cmp nat_cmp) xs)) (member_alike xs x)
    ∙ ap (λ (ys : List ℕ). cond (is_member nat_eq xs x) ys (x ∷ ys)) (uniques_alike xs)

pub returns : goal.returns
returns c =
    c.len.ensures.len ∙ btree_set_len-from_list nat_cmp_total c.args.numbers.now c.in_ok-different.different c.in_ok-different.ensures
    ∙ ap (λ (ys : List ℕ). length ys) (uniques_alike c.args.numbers.now)
