use Rattle.std.proofs.Common.{◌≡◌, ℕ, ◌<◌, ◌^◌, length, true, false, arith, sym, ◌∙◌, subst}
use Rattle.collate_lists.specs.Search.{IsRankOf}
use Rattle.collate_lists.proofs.NameSearchLemmas.{equal_part}
use Rattle.collate_name_list.specs.StoredNames.{sorted}
use Rattle.collate_index.specs.Catalogue.{order_of, sorted_names}
use Rattle.collate_index.proofs.search.IndexLemmas.{length_listed, placed}
use Rattle.collate_index.proofs.index.Index.found.Goals as goal

pub returns-clause-bound : goal.returns-clause-bound
returns-clause-bound c = (
  c.range_between-names.ensures.range,
  omega (arith, c.range_between-names.ensures.bound, c.range-start.ensures.bound, length_listed c.self.inside c.self.invariant c.args.self.now c.self.view_is),
)

pub returns-clause-names : goal.returns-clause-names
returns-clause-names c =
    let start : ℕ = c.range-start.result.0 in
    let end : ℕ = c.range-start.result.1 in
    let many : length (sorted c.self.inside.names) ≡ length (sorted_names c.args.self.now) = length_listed c.self.inside c.self.invariant c.args.self.now c.self.view_is in
    let first : IsRankOf (λ other. order_of c.args.self.now other c.args.name.now) false (sorted_names c.args.self.now) start =
    placed c.self.inside c.self.invariant c.args.self.now c.self.view_is c.args.name.now c.args.key.now c.requires false start (omega (arith, c.range-start.ensures.ordered, c.range-start.ensures.bound)) c.range-start.ensures.start in
    let past : IsRankOf (λ other. order_of c.args.self.now other c.args.name.now) true (sorted_names c.args.self.now) end =
    placed c.self.inside c.self.invariant c.args.self.now c.self.view_is c.args.name.now c.args.key.now c.requires true end c.range-start.ensures.bound c.range-start.ensures.end in
    c.range_between-names.ensures.same (sorted_names c.args.self.now) c.range-start.ensures.ordered
    ∙ equal_part (λ other. order_of c.args.self.now other c.args.name.now) (sorted_names c.args.self.now) start end c.range-start.ensures.ordered
    (omega (arith, c.range-start.ensures.bound, many)) first past

pub returns-clause-few : goal.returns-clause-few
returns-clause-few c digits h =
    let less : length (sorted c.self.inside.names) < 2 ^ digits =
    subst (λ n. n < 2 ^ digits) (sym (length_listed c.self.inside c.self.invariant c.args.self.now c.self.view_is)) h in
    omega (arith, c.range-start.ensures.few digits less)

pub returns-clause-some : goal.returns-clause-some
returns-clause-some c h =
    c.range-start.ensures.some (subst (λ n. 0 < n) (sym (length_listed c.self.inside c.self.invariant c.args.self.now c.self.view_is)) h)
