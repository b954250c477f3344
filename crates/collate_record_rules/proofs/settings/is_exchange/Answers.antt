use Rattle.std.proofs.Common.{ℕ, List, map, ◌∙◌, ap}
use Rattle.collate_rules.specs.SettingLines.{are_exchanged}
use Rattle.collate_record_rules.proofs.settings.is_exchange.Goals as goal

pub returns : goal.returns
returns c =
    c.are_exchanged.ensures
    ∙ ap (λ (leads : List ℕ). are_exchanged leads c.deref-2.result.now) (c.deref.ensures.value ∙ c.in_ok-leads.ensures)
    ∙ ap (λ (others : List ℕ). are_exchanged (map (λ (pair : ℕ × ℕ). pair.0) c.args.pairs.now) others) (c.deref-2.ensures.value ∙ c.in_ok-others.ensures)
