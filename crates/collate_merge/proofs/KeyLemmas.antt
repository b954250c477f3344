-- keys tell how lines compare
use Rattle.std.proofs.Common.{◌≡◌, ℕ, List, refl, ap, ◌∙◌}
use Rattle.std.specs.Cmp.{IsTotalOrder}
use Rattle.std.proofs.lemmas.Cmp.{nat_list_cmp_total, on_total}
use Rattle.collate_merge.specs.LineParts.{part_of}
use Rattle.collate_keyed_lines.specs.KeyedLines.{KeyedLine, key_order, turned}
use Rattle.collate_keyed_lines.specs.declared.direction.Direction.{Direction}
use Rattle.collate_keyed_lines.specs.declared.direction.Direction.TheVariants.{Ascending, Descending}
use Rattle.collate_keyed_lines.proofs.SlotLemmas.{turned_total}
use Rattle.collate_rules.specs.Accepted.{AreAccepted}
use Rattle.collate_sort.proofs.LineLemmas.{line_order_total, lines_compare}
use Rattle.collate_merge.specs.KeyOrder.{byte_order}
use Rattle.collate_merge.specs.Merges.{Merge, line_by, order_in}
use Rattle.collate_merge.specs.Sources.{key_in, source_order}
use Rattle.collate_merge.specs.declared.sources.Source.{Source}

pub order_total : (m : Merge) → IsTotalOrder (order_in m)
order_total m = on_total (line_by m.part) (line_order_total m.rule)

pub sources_total : {R : Type 0} (d : Direction) → IsTotalOrder (source_order {R = R} d)
sources_total {R} d = on_total (λ (s : Source R). s.key.items) (turned_total byte_order nat_list_cmp_total d)

same_keys : (d : Direction) (a b : KeyedLine) → turned d byte_order a.key b.key ≡ turned d key_order a b
same_keys Ascending a b = refl
same_keys Descending a b = refl

module _ (m : Merge) (accepted : AreAccepted m.rule.records.lines) where
  keyed : List ℕ → KeyedLine
  keyed line = record { line = line; text = part_of m.part line; key = key_in m line }

  keys_compare : (a b : List ℕ) → turned m.rule.direction byte_order (key_in m a) (key_in m b) ≡ order_in m a b
  unfolding keyed
  keys_compare a b = same_keys m.rule.direction (keyed a) (keyed b) ∙ lines_compare m.rule accepted (keyed a) (keyed b) refl refl

  -- lines compare as their keys do
  pub keys_tell : (d : Direction) (a b k l : List ℕ) → d ≡ m.rule.direction → k ≡ key_in m a → l ≡ key_in m b → turned d byte_order k l ≡ order_in m a b
  keys_tell d a b k l same of_a of_b =
      ap (λ (e : Direction). turned e byte_order k l) same
      ∙ ap (λ (j : List ℕ). turned m.rule.direction byte_order j l) of_a
      ∙ ap (λ (j : List ℕ). turned m.rule.direction byte_order (key_in m a) j) of_b
      ∙ keys_compare a b
