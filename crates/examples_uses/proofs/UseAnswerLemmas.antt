-- answers that were made from results
use Rattle.std.proofs.Common.{◌≡◌, ◌↔◌, ◌∙◌, ℕ, Bool, List, Option, Some, None, refl, sym, subst}
use Rattle.std.specs.Prelude.{Result, Ok, Err, IfOk, IfSome, IsTrue}
use Rattle.std.specs.Ordering.{is_eq}
use Rattle.std.specs.Result.{result_ok}
use Rattle.std.specs.declared.cmp.Ordering.{Ordering}
use Rattle.std.specs.declared.cmp.Ordering.TheVariants.{Less, Equal, Greater}

-- where `ok` gives a value, the result has it
pub ok_gives : {T E : Type 0} (result : Result T E) (value : T) → Some value ≡ result_ok result → result ≡ Ok value
ok_gives (Ok other) value is = cc
ok_gives (Err error) value is = cc

-- what is true at all is true of an answer
pub of_any : {T : Type 0} (P : Type 0) (answer : Option T) → P → IfSome answer (λ _. P)
of_any P (Some value) holds = holds
of_any P None holds = tt

-- what follows from what is said of a result is true of what `ok` gives
pub of_ok : {T E : Type 0} (P Q : T → Type 0) (result : Result T E) (answer : Option T) → answer ≡ result_ok result → IfOk result P → ((value : T) → P value → Q value) → IfSome answer Q
of_ok {T = T} P Q (Ok value) answer is holds follows = subst (λ (o : Option T). IfSome o Q) (sym is) (follows value holds)
of_ok {T = T} P Q (Err error) answer is holds follows = subst (λ (o : Option T). IfSome o Q) (sym is) tt

-- what follows from what is said of an answer
pub of_some : {T : Type 0} (P Q : T → Type 0) (answer : Option T) → IfSome answer P → ((value : T) → P value → Q value) → IfSome answer Q
of_some P Q (Some value) holds follows = follows value holds
of_some P Q None holds follows = tt

-- what is said of a result is true of the value that `ok` gave
pub of_given : {T E : Type 0} (P : T → Type 0) (result : Result T E) (value : T) → Some value ≡ result_ok result → IfOk result P → P value
of_given {T = T} {E = E} P result value is holds = subst (λ (r : Result T E). IfOk r P) (ok_gives result value is) holds

-- what is said of an answer by two lists is said by lists that are the same
pub of_same : {T : Type 0} (P : List ℕ → List ℕ → T → Type 0) (answer : Option T) (a b x y : List ℕ) → a ≡ x → b ≡ y
    → IfSome answer (P a b) → IfSome answer (P x y)
of_same P answer a b x y first second holds =
    subst (λ (l : List ℕ). IfSome answer (P l y)) first (subst (λ (r : List ℕ). IfSome answer (P a r)) second holds)

-- what is asked of an order
equal_is : (order : Ordering) → IsTrue (is_eq order) ↔ (order ≡ Equal)
equal_is Less = (λ is. cc, λ is. cc)
equal_is Equal = (λ is. refl, λ is. refl)
equal_is Greater = (λ is. cc, λ is. cc)

-- an order that is asked for equality tells what its equality says
pub tells_equal : (order said : Ordering) (are : Bool) (Same : Type 0) → are ≡ is_eq order → order ≡ said → ((said ≡ Equal) ↔ Same)
    → (IsTrue are ↔ Same)
tells_equal order said are Same asked is law = (
  λ holds. law.0 (sym is ∙ (equal_is order).0 (sym asked ∙ holds)),
  λ holds. asked ∙ (equal_is order).1 (is ∙ law.1 holds),
)
