-- the least of one value more
use Rattle.std.proofs.Common.{◌≡◌, ℕ, ◌+◌, ◌<◌, ◌≤◌, Bool, true, false, Option, Some, None, List, ⊎_elim, get_or, refl, sym, ap, ◌∙◌, subst, arith, true≢false}
use Rattle.std.specs.Cmp.{IsTotalOrder}
use Rattle.std.specs.declared.cmp.Ordering.{Ordering}
use Rattle.std.proofs.lemmas.Bool.{cases_eq, cases_lt}
use Rattle.std.proofs.lemmas.Cmp.{tied_itself}
use Rattle.collate_lists.specs.Names.{is_greater}
use Rattle.collate_lists.proofs.NamesLemmas.{above_chain, upto_chain}
use Rattle.collate_merge.specs.Least.{FindsLeast, IsLeast}

module _ {X : Type 0} (is_done : X → Bool) (R : X → X → Ordering) (o : IsTotalOrder R) (xs : List X) (end : ℕ) where
  -- one that is done changes nothing
  pub done_more : (least : Option ℕ) → ((d : X) → is_done (get_or xs end d) ≡ true) → FindsLeast is_done R xs end least → FindsLeast is_done R xs (end + 1) least
  done_more None done h = λ k d l. ⊎_elim (λ (same : k ≡ end). ap (λ (n : ℕ). is_done (get_or xs n d)) same ∙ done d) (λ other. h k d (omega arith)) (cases_eq k end)
  done_more (Some least) done h = record {
    within = omega (arith, h.within);
    here = h.here;
    before = h.before;
    behind = λ k d low l left.
        ⊎_elim
        (λ (same : k ≡ end). absurd (true≢false (sym (done d) ∙ sym (ap (λ (n : ℕ). is_done (get_or xs n d)) same) ∙ left)))
        (λ other. h.behind k d low (omega arith) left)
        (cases_eq k end);
  }

  itself : (x : X) → is_greater (R x x) ≡ false
  itself x = ap is_greater (tied_itself o x)

  -- the first that isn't done is the least
  pub first_least : ((d : X) → is_done (get_or xs end d) ≡ false) → FindsLeast is_done R xs end None → IsLeast is_done R xs (end + 1) end
  first_least here none = record {
    within = omega arith;
    here = here;
    before = λ k d l left. absurd (true≢false (sym (none k d l) ∙ left));
    behind = λ k d low l left.
        let same : end ≡ k = omega arith in
        subst (λ (n : ℕ). is_greater (R (get_or xs end d) (get_or xs n d)) ≡ false) same (itself (get_or xs end d));
  }

  -- one that isn't below the least
  pub least_stays : (least : ℕ) → ((d : X) → is_greater (R (get_or xs least d) (get_or xs end d)) ≡ false) → IsLeast is_done R xs end least → IsLeast is_done R xs (end + 1) least
  least_stays least up h = record {
    within = omega (arith, h.within);
    here = h.here;
    before = h.before;
    behind = λ k d low l left.
        ⊎_elim
        (λ (same : k ≡ end). ap (λ (n : ℕ). is_greater (R (get_or xs least d) (get_or xs n d))) same ∙ up d)
        (λ other. h.behind k d low (omega arith) left)
        (cases_eq k end);
  }

  above_later : (y z n : X) → is_greater (R y n) ≡ true → is_greater (R y z) ≡ false → is_greater (R z n) ≡ true
  above_later y z n h k =
      elim (is_greater (R z n)) as (λ b. is_greater (R z n) ≡ b → b ≡ true) [ true ↦ λ e. refl | false ↦ λ e. absurd (true≢false (sym h ∙ upto_chain R o y z n k e)) ] refl

  -- one that is below it
  pub least_changes : (least : ℕ) → ((d : X) → is_done (get_or xs end d) ≡ false) → ((d : X) → is_greater (R (get_or xs least d) (get_or xs end d)) ≡ true)
      → IsLeast is_done R xs end least → IsLeast is_done R xs (end + 1) end
  least_changes least here down h = record {
    within = omega arith;
    here = here;
    before = λ k d l left.
        ⊎_elim
        (λ (low : k < least). above_chain R o (get_or xs k d) (get_or xs least d) (get_or xs end d) (h.before k d low left) (down d))
        (λ (high : least ≤ k). above_later (get_or xs least d) (get_or xs k d) (get_or xs end d) (down d) (h.behind k d high l left))
        (cases_lt k least);
    behind = λ k d low l left.
        let same : end ≡ k = omega arith in
        subst (λ (n : ℕ). is_greater (R (get_or xs end d) (get_or xs n d)) ≡ false) same (itself (get_or xs end d));
  }
