use Rattle.std.proofs.Common.{ap, ◌∙◌}
use Rattle.icu_collator.specs.KeyBytes.{key_of_text}
use Rattle.icu_collator.specs.Order.{collation_order}
use Rattle.collate_rules.specs.Meaning.{collation_of}
use Rattle.collate_index.specs.Catalogue.{Catalogue, options_in}
use Rattle.collate_index.specs.Index.{catalogue_of}
use Rattle.collate_index.proofs.making.LentLemmas.{lent_keys, lent_orders}
use Rattle.collate_index.proofs.index.Index.collator.Goals as goal

pub returns-clause-keys : goal.returns-clause-keys
returns-clause-keys c = λ text scalars.
    lent_keys (catalogue_of c.self.inside) c.self.inside.collator c.self.invariant.accepted c.self.invariant.collator
    c.as_borrowed.result c.as_borrowed.ensures.source c.as_borrowed.ensures.options text scalars
    ∙ ap (λ (s : Catalogue). key_of_text (collation_of s.records) (options_in s) text) c.self.view_is

pub returns-clause-orders : goal.returns-clause-orders
returns-clause-orders c = λ x y scalars others.
    lent_orders (catalogue_of c.self.inside) c.self.inside.collator c.self.invariant.accepted c.self.invariant.collator
    c.as_borrowed.result c.as_borrowed.ensures.source c.as_borrowed.ensures.options x y scalars others
    ∙ ap (λ (s : Catalogue). collation_order (collation_of s.records) (options_in s) x y) c.self.view_is
