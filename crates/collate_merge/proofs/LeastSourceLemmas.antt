-- the least source of one more
use Rattle.std.proofs.Common.{◌≡◌, ℕ, ◌+◌, ◌<◌, Bool, true, false, Option, Some, None, List, get_or, length, sym, ap, ◌∙◌, subst, arith}
use Rattle.std.proofs.lemmas.List.{get_or_default}
use Rattle.collate_keyed_lines.specs.KeyedLines.{turned}
use Rattle.collate_keyed_lines.specs.declared.direction.Direction.{Direction}
use Rattle.collate_lists.specs.Names.{is_greater}
use Rattle.collate_merge.specs.KeyOrder.{byte_order}
use Rattle.collate_merge.specs.Least.{FindsLeast, IsLeast}
use Rattle.collate_merge.specs.Sources.{source_order}
use Rattle.collate_merge.specs.declared.sources.Source.{Source}
use Rattle.collate_merge.proofs.KeyLemmas.{sources_total}
use Rattle.collate_merge.proofs.LeastLemmas.{first_least, least_changes, least_stays}

module _ {R : Type 0} (direction : Direction) (xs : List (Source R)) (index : ℕ) (within : index < length xs) (least : Option ℕ)
    (before : FindsLeast (λ (s : Source R). s.is_done) (source_order direction) xs index least)
    (b : Source R) (left : (get_or xs index b).is_done ≡ false) where
  found : (o : Option ℕ) → least ≡ o → FindsLeast (λ (s : Source R). s.is_done) (source_order direction) xs index o
  found o is = subst (λ (p : Option ℕ). FindsLeast (λ (s : Source R). s.is_done) (source_order direction) xs index p) is before

  here : (d : Source R) → (get_or xs index d).is_done ≡ false
  here d = ap (λ (s : Source R). s.is_done) (get_or_default xs index d b within) ∙ left

  -- none before it has a line
  pub none_before : least ≡ None → IsLeast (λ (s : Source R). s.is_done) (source_order direction) xs (index + 1) index
  none_before is = first_least (λ (s : Source R). s.is_done) (source_order direction) (sources_total direction) xs index here (found None is)

  module _ (other : ℕ) (is : least ≡ Some other) (a c : Source R) (low high : List ℕ) (low_is : low ≡ (get_or xs other a).key.items) (high_is : high ≡ (get_or xs index c).key.items)
      (answer : Bool) (told : answer ≡ is_greater (turned direction byte_order low high)) where
    compared : (d : Source R) → answer ≡ is_greater (source_order direction (get_or xs other d) (get_or xs index d))
    compared d =
        let below : other < index = (found (Some other) is).within in
        told
        ∙ ap (λ (k : List ℕ). is_greater (turned direction byte_order k high)) (low_is ∙ ap (λ (s : Source R). s.key.items) (get_or_default xs other a d (omega (arith, below, within))))
        ∙ ap (λ (k : List ℕ). is_greater (turned direction byte_order (get_or xs other d).key.items k)) (high_is ∙ ap (λ (s : Source R). s.key.items) (get_or_default xs index c d within))

    -- it is below the least of those before
    pub some_above : answer ≡ true → IsLeast (λ (s : Source R). s.is_done) (source_order direction) xs (index + 1) index
    some_above is_so = least_changes (λ (s : Source R). s.is_done) (source_order direction) (sources_total direction) xs index other here (λ d. sym (compared d) ∙ is_so) (found (Some other) is)

    -- it isn't
    pub some_upto : answer ≡ false → IsLeast (λ (s : Source R). s.is_done) (source_order direction) xs (index + 1) other
    some_upto is_not = least_stays (λ (s : Source R). s.is_done) (source_order direction) (sources_total direction) xs index other (λ d. sym (compared d) ∙ is_not) (found (Some other) is)
