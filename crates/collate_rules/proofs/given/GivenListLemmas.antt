-- Tests of all items of a list.
use Rattle.std.proofs.Common.{◌≡◌, ◌↔◌, ⊎_elim, Bool, true, false, List, [], ◌∷◌, ◌++◌, refl, sym, subst}
use Rattle.std.specs.List.{Contains, list_all}
use Rattle.std.proofs.lemmas.Bool.{and_from, and_parts, false_from_ne_true, false≢true}
use Rattle.std.proofs.lemmas.List.Elements.{Contains-append_left}
use Rattle.icu_collator_types.specs.declared.elements.Element.{Element}
use Rattle.icu_collator_core.specs.WeightRules.{are_apart_elements}
use Rattle.icu_collator_core.proofs.apart.GrowthLemmas.{first_in, first_or_later, later_in, none_in}
use Rattle.collate_rules.specs.GivenWeights.{are_all_apart}

module _ {X : Type 0} (passes : X → Bool) where
  pub list_all_tells : (xs : List X) → list_all passes xs ≡ true → (x : X) → Contains xs x → passes x ≡ true
  list_all_tells [] h x c = absurd (none_in x c)
  list_all_tells (y ∷ ys) h x c =
      let both = and_parts (passes y) (list_all passes ys) h in
      ⊎_elim (λ e. subst (λ z. passes z ≡ true) e both.0) (λ l. list_all_tells ys both.1 x l) (first_or_later y x ys c)

  pub list_all_from : (xs : List X) → ((x : X) → Contains xs x → passes x ≡ true) → list_all passes xs ≡ true
  list_all_from [] all = refl
  list_all_from (y ∷ ys) all =
      and_from (passes y) (list_all passes ys) (all y (first_in y ys)) (list_all_from ys (λ x c. all x (later_in y x ys c)))

-- what a weaker test says of the beginning of a list
pub list_all_front : {X : Type 0} (passes weaker : X → Bool) → ((x : X) → passes x ≡ true → weaker x ≡ true)
    → (xs ys : List X) → list_all passes (xs ++ ys) ≡ true → list_all weaker xs ≡ true
list_all_front passes weaker less xs ys h =
    list_all_from weaker xs (λ x c. less x (list_all_tells passes (xs ++ ys) h x (Contains-append_left xs ys x c)))

-- elements that keep apart

pub apart_tells : (es : List Element) → are_all_apart es ≡ true → (d e : Element) → Contains es d → Contains es e
    → are_apart_elements d e ≡ true
apart_tells es h d e c k =
    list_all_tells (are_apart_elements d) es (list_all_tells (λ f. list_all (are_apart_elements f) es) es h d c) e k

pub apart_from : (es : List Element) → ((d e : Element) → Contains es d → Contains es e → are_apart_elements d e ≡ true)
    → are_all_apart es ≡ true
apart_from es apart =
    list_all_from (λ f. list_all (are_apart_elements f) es) es
    (λ d c. list_all_from (are_apart_elements d) es (λ e k. apart d e c k))

pub apart_front : (es fs : List Element) → are_all_apart (es ++ fs) ≡ true → are_all_apart es ≡ true
apart_front es fs h =
    apart_from es (λ d e c k. apart_tells (es ++ fs) h d e (Contains-append_left es fs d c) (Contains-append_left es fs e k))

-- two tests that tell one fact give one answer
pub same_answer : (a b : Bool) → (a ≡ true → b ≡ true) → (b ≡ true → a ≡ true) → a ≡ b
same_answer true b f g = sym (f refl)
same_answer false b f g = sym (false_from_ne_true b (λ e. false≢true (g e)))

pub apart_told : (es : List Element) (told : Bool)
    → (told ≡ true) ↔ ((d e : Element) → Contains es d → Contains es e → are_apart_elements d e ≡ true) → told ≡ are_all_apart es
apart_told es told tells =
    same_answer told (are_all_apart es) (λ t. apart_from es (tells.0 t)) (λ h. tells.1 (λ d e c k. apart_tells es h d e c k))
