-- What is given, if something is.
use Rattle.std.proofs.Common.{◌≡◌, Bool, true, false, Option, Some, None, refl, subst}
use Rattle.std.specs.Prelude.{if◌then◌else◌, option_and_then}
use Rattle.collate_lines.specs.Grammar.{checked}

abbrev pub Gives : {R : Type 0} → (R → Type 0) → Option R → Type 0
Gives {R} P given = (r : R) → given ≡ Some r → P r

module _ {R : Type 0} (P : R → Type 0) where
  pub gives_none : Gives P None
  gives_none r e = cc

  pub gives_some : (x : R) → P x → Gives P (Some x)
  gives_some x h r e = let same : x ≡ r = cc in subst P same h

  pub gives_either : (b : Bool) (x y : Option R) → (b ≡ true → Gives P x) → Gives P y → Gives P (if b then x else y)
  gives_either true x y h k = h refl
  gives_either false x y h k = k

  pub gives_bound : {A : Type 0} (given : Option A) (f : A → Option R) → ((a : A) → given ≡ Some a → Gives P (f a))
      → Gives P (option_and_then f given)
  gives_bound None f h = gives_none
  gives_bound (Some a) f h = h a refl

  pub gives_checked : (b : Bool) (x : R) → (b ≡ true → P x) → Gives P (checked b x)
  gives_checked true x h = gives_some x (h refl)
  gives_checked false x h = gives_none
