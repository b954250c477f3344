-- Elements are equal exactly if their weights are.
use Rattle.std.proofs.Common.{◌≡◌, ℕ, ◌∙◌, ap, subst, arith, true}
use Rattle.std.specs.Bool.{Decides}
use Rattle.std.specs.Prelude.{◌&&◌, ◌==◌}
use Rattle.std.proofs.lemmas.Bool.{and_parts, eqb-true}
use Rattle.std.proofs.lemmas.Bool.Decides.{nat_tests}
use Rattle.icu_collator_types.specs.declared.elements.Element.{Element}
use Rattle.icu_collator_types.specs.contracts.elements.ElementPartialEq.TheImpl.{eq-value}

itself : (x : Element) → ((x.primary == x.primary) && ((x.secondary == x.secondary) && ((x.case == x.case) && ((x.tertiary == x.tertiary) && (x.quaternary == x.quaternary))))) ≡ true
itself x = grind (arith, nat_tests)

-- what `==` of two elements says
pub weights_decide : (x y : Element) → Decides (eq-value.it x y) (x ≡ y)
weights_decide x y = (
  λ is.
      let primary = and_parts (x.primary == y.primary) ((x.secondary == y.secondary) && ((x.case == y.case) && ((x.tertiary == y.tertiary) && (x.quaternary == y.quaternary)))) is
      in let secondary = and_parts (x.secondary == y.secondary) ((x.case == y.case) && ((x.tertiary == y.tertiary) && (x.quaternary == y.quaternary))) primary.1
      in let case = and_parts (x.case == y.case) ((x.tertiary == y.tertiary) && (x.quaternary == y.quaternary)) secondary.1
      in let last = and_parts (x.tertiary == y.tertiary) (x.quaternary == y.quaternary) case.1
      in let made : ℕ → ℕ → ℕ → ℕ → ℕ → Element = λ p s c t q. record { primary = p; secondary = s; case = c; tertiary = t; quaternary = q }
      in ap (λ n. made n x.secondary x.case x.tertiary x.quaternary) (eqb-true x.primary y.primary primary.0)
      ∙ ap (λ n. made y.primary n x.case x.tertiary x.quaternary) (eqb-true x.secondary y.secondary secondary.0)
      ∙ ap (λ n. made y.primary y.secondary n x.tertiary x.quaternary) (eqb-true x.case y.case case.0)
      ∙ ap (λ n. made y.primary y.secondary y.case n x.quaternary) (eqb-true x.tertiary y.tertiary last.0)
      ∙ ap (λ n. made y.primary y.secondary y.case y.tertiary n) (eqb-true x.quaternary y.quaternary last.1),
  λ same. subst (λ (z : Element). eq-value.it x z ≡ true) same (itself x),
)
