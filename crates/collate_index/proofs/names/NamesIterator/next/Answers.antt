use Rattle.std.proofs.Common.{arith, ℕ, ◌+◌, List, drop, subst}
use Rattle.std.specs.Iterator.{YieldsFirstRef}
use Rattle.collate_index.specs.Catalogue.{sorted_names}
use Rattle.collate_index.proofs.search.SearchListingLemmas.{first_left}
use Rattle.collate_index.proofs.names.NamesIterator.next.Goals as goal

pub returns-clause-steps : goal.returns-clause-steps
returns-clause-steps c =
    subst (λ (left : List (List ℕ)). YieldsFirstRef (λ (rest : List (List ℕ)). rest) left c.get-name.result (drop (c.self.inside.next + 1) (sorted_names c.self.inside.index.now))) c.self.view_is
    (first_left (sorted_names c.self.inside.index.now) c.self.inside.next c.get-name.result (omega (arith, c.len.ensures.sorted)) c.get-name.ensures)
