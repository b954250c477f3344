use Rattle.std.proofs.Common.{ℕ, subst, ◌≡◌, map, List, All}
use Rattle.collate_records.specs.Changes.{place_of}
use Rattle.collate_lines.specs.Record.{said}
use Rattle.collate_records.proofs.comparing.ChangeLemmas.{placed_alike}
use Rattle.collate_records.proofs.changes.reorder_alike.Goals as goal

pub returns-then-are_placed_alike : goal.returns-then-are_placed_alike
returns-then-are_placed_alike c =
    let a = map said c.args.a.now in let b = map said c.args.b.now
    in let Are : List (ℕ × ℕ) → Type 0 = λ pairs. All (λ pair. place_of a pair.0 ≡ place_of b pair.0) pairs
    in let of_a = subst Are c.reordered.ensures (c.are_placed_alike.ensures.0 c.if-are_placed_alike.true)
    in (
      λ is. placed_alike a b of_a (subst Are c.reordered-then-are_placed_alike.ensures (c.are_placed_alike-then-are_placed_alike.ensures.0 is)),
      λ same. c.are_placed_alike-then-are_placed_alike.ensures.1 (λ k d lt. same _),
    )
