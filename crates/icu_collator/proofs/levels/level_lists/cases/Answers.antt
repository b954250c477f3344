use Rattle.std.proofs.Common.{◌≡◌, rules, sym, subst, List, ℕ, ◌≤◌}
use Rattle.std.specs.List.{All}
use Rattle.icu_collator.specs.LevelLists.{cases_by, counted_list}
use Rattle.icu_collator.specs.Levels.{case_at}
use Rattle.icu_collator.proofs.lists.BoundLemmas.{cases_small}
use Rattle.icu_collator.proofs.levels.level_lists.cases.Goals as goal

pub returns : goal.returns
returns c =
    let end = c.args.variable_end
    in let cases : c.in_ok-list.list.items ≡ cases_by c.args.options.now (counted_list end c.args.elements.now) =
    c.in_ok-list.ensures.list (case_at c.args.options.now) (λ e w h. search rules)
    in record {
      cases = cases;
      bound = λ widths. subst (λ (ws : List ℕ). All (λ case. case ≤ 2) ws) (sym cases) (cases_small c.args.options.now end c.args.elements.now widths);
    }
