use Rattle.std.proofs.Common.{◌≡◌, ◌++◌, ◌∷◌, ◌/◌, ◌%◌, ◌^◌, length, map, rules, ap, ◌∙◌}
use Rattle.collate_words.specs.ContextKeys.{pair_of}
use Rattle.collate_words.proofs.written.WritingLemmas.{context_appended}
use Rattle.collate_words.proofs.pools.Pools.write_context.Goals as goal

pub returns-clause-says : goal.returns-clause-says
returns-clause-says c =
    let at_end : c.len-index.result ≡ length c.self.inside.contexts.items = search rules in
    context_appended c.self.inside.contexts.items c.append_context.new.contexts.items c.len-index.result
    c.args.default c.in_ok-units.units.items
    (map pair_of c.args.keys.items) at_end
    (c.in_ok-append_context.ensures.units
    ∙ ap (λ units. c.self.inside.contexts.items ++
    (c.args.default / 2 ^ 16 ∷ c.args.default % 2 ^ 16 ∷ units)) c.as_slice.ensures.value)
    c.in_ok-units.ensures.keys
