use Rattle.std.proofs.Common.{ℕ, subst, ◌≡◌, map, List, sym, true, All}
use Rattle.collate_rules.specs.Meaning.{is_compressible_in}
use Rattle.collate_lines.specs.Record.{said}
use Rattle.collate_records.proofs.comparing.ChangeLemmas.{compressible_alike, set_compressible}
use Rattle.collate_records.proofs.changes.compress_alike.Goals as goal

pub returns-then-are_compressible : goal.returns-then-are_compressible
returns-then-are_compressible c =
    let a = map said c.args.a.now in let b = map said c.args.b.now
    in let there = subst (λ (leads : List ℕ). All (λ lead. is_compressible_in b lead ≡ true) leads) c.compressed.ensures (c.are_compressible.ensures.0 c.if-are_compressible.true)
    in let of_b : List ℕ → Type 0 = λ leads. All (λ lead. is_compressible_in a lead ≡ true) leads
    in (
      λ is. compressible_alike a b there (subst of_b c.compressed-then-are_compressible.ensures (c.are_compressible-then-are_compressible.ensures.0 is)),
      λ same. c.are_compressible-then-are_compressible.ensures.1 (subst of_b (sym c.compressed-then-are_compressible.ensures) (set_compressible b a (λ lead. sym (same lead)))),
    )
