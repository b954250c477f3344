-- Tests one after another: what the answer of the last says of all, where those before it said yes or no.
use Rattle.std.proofs.Common.{◌≡◌, ◌↔◌, ℕ, ◌<◌, ◌≤◌, Bool, true, false, ◌&&◌, ◌||◌, Option, Some, None, refl, ◌∙◌, sym, subst, arith, ◌⊎◌, inr, ⊎_elim}
use Rattle.std.specs.Bool.{IsTrue}
use Rattle.std.specs.Char.{IsScalar}
use Rattle.std.specs.Option.{MatchOption}
use Rattle.std.proofs.lemmas.Bool.{false≢true, cases_lt}

-- ---- After a yes

pub after_fact : {P Q : Type 0} (answer : Bool) → P → (IsTrue answer ↔ Q) → IsTrue answer ↔ (P × Q)
after_fact answer p h = (λ t. (p, h.0 t), λ w. h.1 w.1)

pub after_yes : {P Q : Type 0} (first answer : Bool) → first ≡ true → (IsTrue first ↔ P) → (IsTrue answer ↔ Q) → IsTrue answer ↔ (P × Q)
after_yes first answer e h k = after_fact answer (h.0 e) k

pub after_test : {Q : Type 0} (test answer : Bool) → test ≡ true → (IsTrue answer ↔ Q) → IsTrue answer ↔ (IsTrue test × Q)
after_test test answer e h = after_fact answer e h

pub after_test_and_yes : {P Q : Type 0} (test first answer : Bool) → test ≡ true → first ≡ true → (IsTrue first ↔ P) → (IsTrue answer ↔ Q)
    → IsTrue answer ↔ (IsTrue test × P × Q)
after_test_and_yes test first answer e f h k = (λ t. (e, h.0 f, k.0 t), λ w. k.1 w.2)

pub both : (a b : Bool) → a ≡ true → b ≡ true → (a && b) ≡ true
both true b x y = y
both false b x y = x

pub after_tests : {Q : Type 0} (a b answer : Bool) → a ≡ true → b ≡ true → (IsTrue answer ↔ Q) → IsTrue answer ↔ (IsTrue (a && b) × Q)
after_tests a b answer x y h = after_fact answer (both a b x y) h

-- what is asked only where a test says yes
pub where_asked : {Q : Type 0} (test answer : Bool) → test ≡ true → (IsTrue answer ↔ Q) → IsTrue answer ↔ (IsTrue test → Q)
where_asked test answer e h = (λ t _. h.0 t, λ f. h.1 (f e))

-- ---- After a no

pub after_no : {P Q : Type 0} (first answer : Bool) → first ≡ false → (IsTrue first ↔ P) → (IsTrue answer ↔ Q) → IsTrue answer ↔ (P ⊎ Q)
after_no first answer e h k = (λ t. inr (k.0 t), λ s. ⊎_elim (λ p. absurd (false≢true (sym e ∙ h.1 p))) k.1 s)

pub of_test : (test : Bool) → IsTrue test ↔ IsTrue test
of_test test = (λ t. t, λ t. t)

pub neither : (a b : Bool) → a ≡ false → b ≡ false → (a || b) ≡ false
neither true b x y = x
neither false b x y = y

pub refuted : {P : Type 0} → (P → ⊥) → IsTrue false ↔ P
refuted false_of = (λ e. absurd (false≢true e), λ p. absurd (false_of p))

pub shown : {P : Type 0} → P → IsTrue true ↔ P
shown p = (λ _. p, λ _. refl)

-- a no says that it isn't so
pub no_is : {P : Type 0} (test : Bool) → test ≡ false → (IsTrue test ↔ P) → P → ⊥
no_is test e h p = false≢true (sym e ∙ h.1 p)

-- ---- Characters in order

-- what holds of the characters below a code, of its own, and of those up to a later one, holds of all below that
pub below_later : (P : ℕ → Type 0) (code later : ℕ) → ((d : ℕ) → IsScalar d → d < code → P d) → (IsScalar code → P code)
    → ((d : ℕ) → code < d → d < later → P d) → (d : ℕ) → IsScalar d → d < later → P d
below_later P code later before here between d scalar less =
    ⊎_elim
    (λ (lower : d < code). before d scalar lower)
    (λ (upper : code ≤ d). ⊎_elim
    (λ (above : code < d). between d above less)
    (λ (within : d ≤ code).
    let same : code ≡ d = omega (arith, within, upper) in
    subst P same (here (subst IsScalar (sym same) scalar)))
    (cases_lt code d))
    (cases_lt d code)

pub found_none : (P : Type 0) (Q : ℕ → Type 0) (found : Option ℕ) → found ≡ None → MatchOption found P Q → P
found_none P Q found e h = subst (λ found. MatchOption found P Q) e h

pub found_some : (P : Type 0) (Q : ℕ → Type 0) (found : Option ℕ) (c : ℕ) → found ≡ Some c → MatchOption found P Q → Q c
found_some P Q found c e h = subst (λ found. MatchOption found P Q) e h
