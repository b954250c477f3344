use Rattle.std.proofs.Common.{sym, subst}
use Rattle.collate_index.specs.Catalogue.{Catalogue, meaning_in}
use Rattle.collate_index.specs.Keys.{IsKeyOf}
use Rattle.collate_index.specs.Index.{catalogue_of}
use Rattle.collate_index.proofs.search.IndexLemmas.{kept_names, keyed_added}
use Rattle.collate_index.proofs.index.Index.add.Goals as goal

pub invariant_of-self : goal.invariant_of-self
invariant_of-self c =
    kept_names c.self.inside c.self.invariant c.add.new.self
    (keyed_added (meaning_in (catalogue_of c.self.inside)) c.add.result c.self.inside.names c.add.new.self
    (record { key = c.in_ok-key.key; name = c.args.name.now }) c.add.ensures.added c.add.ensures.unchanged
    (subst (λ (s : Catalogue). IsKeyOf (meaning_in s) c.args.name.now c.in_ok-key.key) (sym c.self.view_is) c.in_ok-key.ensures)
    c.self.invariant.keyed)
