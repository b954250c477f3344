use Rattle.std.proofs.Common.{◌≡◌, Bool, not, ap, rules, subst, sym, ◌∙◌}
use Rattle.std.specs.Prelude.{IsTrue, ◌↔◌}
use Rattle.collate_rules.specs.Meaning.{digit_in, first_found, range_in}
use Rattle.collate_records.specs.Changes.{IsSaidAlike}
use Rattle.collate_records.specs.Differences.{TwoFiles}
use Rattle.collate_records.proofs.comparing.DifferenceLemmas.{said_alike}
use Rattle.collate_records.proofs.differences.Differences.are_said_alike.Goals as goal

pub returns : goal.returns
returns c =
    let a = c.self.inside.before.now.lines in
    let b = c.self.inside.after.now.lines in
    let range : first_found (range_in c.args.c) a ≡ first_found (range_in c.args.c) b =
    ap (first_found (range_in c.args.c)) (sym c.self.invariant.before) ∙ sym c.range_of.ensures
    ∙ c.are_same_ranges.ensures.0 c.if-not-are_same_ranges.false ∙ c.range_of-2.ensures ∙ ap (first_found (range_in c.args.c)) c.self.invariant.after in
    let value : c.digit_of.result ≡ c.digit_of-2.result = search rules in
    let digit : first_found (digit_in c.args.c) a ≡ first_found (digit_in c.args.c) b =
    ap (first_found (digit_in c.args.c)) (sym c.self.invariant.before) ∙ sym c.digit_of.ensures ∙ value ∙ c.digit_of-2.ensures
    ∙ ap (first_found (digit_in c.args.c)) c.self.invariant.after in
    subst (λ (files : TwoFiles). IsTrue (not c.contains.result) ↔ IsSaidAlike files.before files.after c.args.c) c.self.view_is
    (subst (λ (is : Bool). IsTrue (not is) ↔ IsSaidAlike a b c.args.c) (sym c.contains.ensures)
    (said_alike a b c.self.inside.differing c.args.c range digit c.self.invariant.differing))
