use Rattle.std.proofs.Common.{◌≡◌, ℕ, List, not, ap, ◌∙◌}
use Rattle.std.specs.Prelude.{bytes_eq}
use Rattle.std.proofs.lemmas.List.Elements.{All-filter, All-same}
use Rattle.collate_name_list.specs.StoredNames.{StoredName, names_of, without}
use Rattle.collate_index.specs.Catalogue.{Catalogue, meaning_in, without_name}
use Rattle.collate_index.specs.Index.{catalogue_of}
use Rattle.collate_index.specs.Keys.{IsKeyed}
use Rattle.collate_index.proofs.search.IndexLemmas.{kept_names, names_without}
use Rattle.collate_index.proofs.index.Index.remove.Goals as goal

pub invariant_of-self : goal.invariant_of-self
invariant_of-self c =
    kept_names c.self.inside c.self.invariant c.remove.new.self
    (All-same (IsKeyed (meaning_in (catalogue_of c.self.inside))) c.remove.new.self (without c.args.name.now c.self.inside.names) c.remove.ensures.removed
    (All-filter (λ (stored : StoredName). not (bytes_eq stored.name c.args.name.now)) (IsKeyed (meaning_in (catalogue_of c.self.inside))) c.self.inside.names c.self.invariant.keyed))

pub returns-clause-removed : goal.returns-clause-removed
returns-clause-removed c =
    let arrivals : names_of c.remove.new.self ≡ _ = ap names_of c.remove.ensures.removed ∙ names_without c.args.name.now c.self.inside.names in
    ap (λ (names : List (List ℕ)). record (catalogue_of c.self.inside) { arrivals = names }) arrivals
    ∙ ap (λ (s : Catalogue). without_name c.args.name.now s) c.self.view_is
