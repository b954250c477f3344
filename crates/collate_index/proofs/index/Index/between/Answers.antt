use Rattle.std.proofs.Common.{◌≡◌, ◌<◌, ◌≤◌, length, true, false, slice_range, arith, sym, ap, ◌∙◌, ⊎_elim}
use Rattle.std.proofs.lemmas.Bool.{cases_lt}
use Rattle.collate_lists.specs.Search.{IsRankOf}
use Rattle.collate_lists.proofs.NameSearchLemmas.{between_none, between_part}
use Rattle.collate_name_list.specs.StoredNames.{sorted}
use Rattle.collate_index.specs.Catalogue.{order_of, sorted_names}
use Rattle.collate_index.proofs.search.IndexLemmas.{length_listed, placed}
use Rattle.collate_index.proofs.index.Index.between.Goals as goal

pub returns-clause-bound : goal.returns-clause-bound
returns-clause-bound c = (
  c.range_between.ensures.range,
  omega (arith, c.range_between.ensures.bound, c.rank-end.ensures.bound, length_listed c.self.inside c.self.invariant c.args.self.now c.self.view_is),
)

pub returns-clause-names : goal.returns-clause-names
returns-clause-names c =
    let many : length (sorted c.self.inside.names) ≡ length (sorted_names c.args.self.now) = length_listed c.self.inside c.self.invariant c.args.self.now c.self.view_is in
    let first : IsRankOf (λ other. order_of c.args.self.now other c.args.first.now) false (sorted_names c.args.self.now) c.rank-start.result =
    placed c.self.inside c.self.invariant c.args.self.now c.self.view_is c.args.first.now c.in_ok-lowest.lowest c.in_ok-lowest.ensures false c.rank-start.result c.rank-start.ensures.bound c.rank-start.ensures.rank in
    let past : IsRankOf (λ other. order_of c.args.self.now other c.args.last.now) true (sorted_names c.args.self.now) c.rank-end.result =
    placed c.self.inside c.self.invariant c.args.self.now c.self.view_is c.args.last.now c.in_ok-highest.highest c.in_ok-highest.ensures true c.rank-end.result c.rank-end.ensures.bound c.rank-end.ensures.rank in
    ⊎_elim
    (λ (open' : c.rank-start.result < c.rank-end.result).
    c.range_between.ensures.same (sorted_names c.args.self.now) (omega arith)
    ∙ between_part (λ other. order_of c.args.self.now other c.args.first.now) (λ other. order_of c.args.self.now other c.args.last.now)
    (sorted_names c.args.self.now) c.rank-start.result c.rank-end.result first past (omega arith) (omega (arith, c.rank-end.ensures.bound, many)))
    (λ (turned : c.rank-end.result ≤ c.rank-start.result).
    let end : c.range_between.result.end ≡ 0 = c.range_between.ensures.turned turned in
    let start : c.range_between.result.start ≡ 0 = omega (arith, c.range_between.ensures.range, end) in
    ap (λ e. slice_range (sorted_names c.args.self.now) c.range_between.result.start e) end
    ∙ ap (λ b. slice_range (sorted_names c.args.self.now) b 0) start
    ∙ sym (between_none (λ other. order_of c.args.self.now other c.args.first.now) (λ other. order_of c.args.self.now other c.args.last.now)
    (sorted_names c.args.self.now) c.rank-start.result c.rank-end.result first past turned))
    (cases_lt c.rank-start.result c.rank-end.result)
