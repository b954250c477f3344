-- Least offenders of kinds that are the same, or of either of two.
use Rattle.std.proofs.Common.{◌≡◌, ℕ, ◌<◌, ◌≤◌, ◌⊎◌, inl, inr, ⊎_elim, Bool, true, false, cond, ltb, Option, Some, None, refl, arith}
use Rattle.std.specs.Option.{MatchOption}
use Rattle.std.specs.Char.{IsScalar}
use Rattle.std.proofs.lemmas.Bool.Decides.{nat_tests}
use Rattle.icu_normalizer_core.specs.CanonicalFaults.{NoneOffends, IsLeastOffender}
use Rattle.icu_normalizer_core.specs.PairTests.{least}

-- the least of those that offend, if there is one
abbrev pub IsLeastIn : (ℕ → Type 0) → Option ℕ → Type 0
IsLeastIn Offends r = MatchOption r (NoneOffends Offends) (IsLeastOffender Offends)

-- two kinds with the same offenders
pub least_same : (P Q : ℕ → Type 0) → ((c : ℕ) → IsScalar c → P c → Q c) → ((c : ℕ) → IsScalar c → Q c → P c) → (r : Option ℕ) → IsLeastIn P r → IsLeastIn Q r
least_same P Q to from None none = λ c s q. none c s (from c s q)
least_same P Q to from (Some c) w = (w.0, to c w.0 w.1, λ d s lt q. w.2 d s lt (from d s q))

-- one character alone
pub least_single : (z : ℕ) → IsScalar z → IsLeastIn (λ (c : ℕ). c ≡ z) (Some z)
least_single z s = (s, refl, λ d t lt e. absurd (omega arith))

at_low : (P Q : ℕ → Type 0) (x y : ℕ) (b : Bool) → ltb y x ≡ b → IsLeastOffender P x → IsLeastOffender Q y → IsLeastIn (λ (c : ℕ). P c ⊎ Q c) (cond b (Some y) (Some x))
at_low P Q x y true e v w =
    let lt : y < x = grind (arith, nat_tests) in
    (w.0, inr w.1, λ d s h o. ⊎_elim (λ p. v.2 d s (omega arith) p) (λ q. w.2 d s h q) o)
at_low P Q x y false e v w =
    let le : x ≤ y = grind (arith, nat_tests) in
    (v.0, inl v.1, λ d s h o. ⊎_elim (λ p. v.2 d s h p) (λ q. w.2 d s (omega arith) q) o)

-- the lower of the least of two kinds is the least of either kind
pub least_either : (P Q : ℕ → Type 0) (a b : Option ℕ) → IsLeastIn P a → IsLeastIn Q b → IsLeastIn (λ (c : ℕ). P c ⊎ Q c) (least a b)
least_either P Q None None v w = λ c s o. ⊎_elim (λ p. v c s p) (λ q. w c s q) o
least_either P Q None (Some y) v w = (w.0, inr w.1, λ d s lt o. ⊎_elim (λ p. v d s p) (λ q. w.2 d s lt q) o)
least_either P Q (Some x) None v w = (v.0, inl v.1, λ d s lt o. ⊎_elim (λ p. v.2 d s lt p) (λ q. w d s q) o)
least_either P Q (Some x) (Some y) v w = at_low P Q x y (ltb y x) refl v w
