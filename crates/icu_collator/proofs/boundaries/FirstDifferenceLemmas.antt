-- Two texts are read from their beginnings while they agree.
use Rattle.std.proofs.Common.{◌≡◌, ℕ, ◌+◌, ◌≤◌, List, [], ◌∷◌, ◌++◌, length, Option, Some, None, refl, sym, ◌∙◌, ap, arith, append_assoc, length-append}
use Rattle.std.specs.Prelude.{◌≢◌}
use Rattle.icu_normalizer_core.specs.Iter.{Spells}
use Rattle.icu_normalizer_core.proofs.decomposed_lists.IterLemmas.{Spells-end, Spells-next}
use Rattle.icu_collator.specs.Fronts.{PartAt}

module _ {I J : Type 0} (left_steps : I → Option ℕ → I → Type 0) (right_steps : J → Option ℕ → J → Type 0) where
  -- both texts were read up to here, and agree so far
  pub record AgreeSoFar (a b : List ℕ) (common : ℕ) (left : I) (right : J) : Type 0 where
    pub front : List ℕ
    pub left_rest : List ℕ
    pub right_rest : List ℕ
    pub left_is : a ≡ front ++ left_rest
    pub right_is : b ≡ front ++ right_rest
    pub left_spells : Spells left_steps left left_rest
    pub right_spells : Spells right_steps right right_rest
    pub count : common ≤ length front

  pub agree_first : (a b : List ℕ) (left : I) (right : J) → Spells left_steps left a → Spells right_steps right b → AgreeSoFar a b 0 left right
  agree_first a b left right h g =
      record {
        front = [];
        left_rest = a;
        right_rest = b;
        left_is = refl;
        right_is = refl;
        left_spells = h;
        right_spells = g;
        count = omega arith;
      }

  -- one character more of each
  pub agree_more : (a b : List ℕ) (common next : ℕ) (left left' : I) (right right' : J) (c d : ℕ) → AgreeSoFar a b common left right
      → left_steps left (Some c) left' → right_steps right (Some d) right' → c ≡ d → next ≤ common + 1
      → AgreeSoFar a b next left' right'
  agree_more a b common next left left' right right' c d so s t e n =
      let one = Spells-next left_steps left left' c so.left_rest s so.left_spells
      in let other = Spells-next right_steps right right' d so.right_rest t so.right_spells
      in let count = so.count
      in record {
        front = so.front ++ c ∷ [];
        left_rest = one.0;
        right_rest = other.0;
        left_is = so.left_is ∙ ap (λ (w : List ℕ). so.front ++ w) one.1 ∙ sym (append_assoc so.front (c ∷ []) one.0);
        right_is =
            so.right_is ∙ ap (λ (w : List ℕ). so.front ++ w) (other.1 ∙ ap (λ (x : ℕ). x ∷ other.0) (sym e)) ∙ sym (append_assoc so.front (c ∷ []) other.0);
        left_spells = one.2;
        right_spells = other.2;
        count = omega (arith, length-append so.front (c ∷ []));
      }

  -- they differ
  pub part_there : (a b : List ℕ) (common : ℕ) (left left' : I) (right right' : J) (c d : ℕ) → AgreeSoFar a b common left right
      → left_steps left (Some c) left' → right_steps right (Some d) right' → c ≢ d → PartAt a b common (Some c) (Some d)
  part_there a b common left left' right right' c d so s t e =
      let one = Spells-next left_steps left left' c so.left_rest s so.left_spells
      in let other = Spells-next right_steps right right' d so.right_rest t so.right_spells
      in record {
        front = so.front;
        left_rest = so.left_rest;
        right_rest = so.right_rest;
        left_is = so.left_is;
        right_is = so.right_is;
        left_begins = (one.0, one.1);
        right_begins = (other.0, other.1);
        count = so.count;
        differ = λ same. absurd (e (cc same));
      }

  -- the right one ends
  pub part_right_end : (a b : List ℕ) (common : ℕ) (left left' : I) (right right' : J) (c : ℕ) → AgreeSoFar a b common left right
      → left_steps left (Some c) left' → right_steps right None right' → PartAt a b common (Some c) None
  part_right_end a b common left left' right right' c so s t =
      let one = Spells-next left_steps left left' c so.left_rest s so.left_spells
      in record {
        front = so.front;
        left_rest = so.left_rest;
        right_rest = so.right_rest;
        left_is = so.left_is;
        right_is = so.right_is;
        left_begins = (one.0, one.1);
        right_begins = Spells-end right_steps right right' so.right_rest t so.right_spells;
        count = so.count;
        differ = λ same. cc;
      }

  -- the left one ends
  pub part_left_end : (a b : List ℕ) (common : ℕ) (left left' : I) (right right' : J) (next : Option ℕ) → AgreeSoFar a b common left right
      → left_steps left None left' → right_steps right next right' → PartAt a b common None next
  part_left_end a b common left left' right right' (Some d) so s t =
      let other = Spells-next right_steps right right' d so.right_rest t so.right_spells
      in record {
        front = so.front;
        left_rest = so.left_rest;
        right_rest = so.right_rest;
        left_is = so.left_is;
        right_is = so.right_is;
        left_begins = Spells-end left_steps left left' so.left_rest s so.left_spells;
        right_begins = (other.0, other.1);
        count = so.count;
        differ = λ same. refl;
      }
  part_left_end a b common left left' right right' None so s t =
      record {
        front = so.front;
        left_rest = so.left_rest;
        right_rest = so.right_rest;
        left_is = so.left_is;
        right_is = so.right_is;
        left_begins = Spells-end left_steps left left' so.left_rest s so.left_spells;
        right_begins = Spells-end right_steps right right' so.right_rest t so.right_spells;
        count = so.count;
        differ = λ same. refl;
      }
