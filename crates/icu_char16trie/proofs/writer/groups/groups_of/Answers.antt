use Rattle.std.proofs.Common.{◌<◌, ◌^◌, arith, subst, rules}
use Rattle.icu_char16trie.specs.UnitPairs.{rests, parts, StartsWith, FirstEnds}
use Rattle.std.specs.Option.{MatchOption}
use Rattle.icu_char16trie.proofs.Pairs.GroupLemmas.{so_far_step, groups_wider}
use Rattle.icu_char16trie.proofs.writer.groups.groups_of.Goals as goal

pub returns-clause-groups : goal.returns-clause-groups
returns-clause-groups c =
    groups_wider 0 c.loop-start.invariant.1.bound 0 0x10000 (parts c.args.depth c.loop-start.groups.items) (omega arith) c.loop-start.invariant.1.fits c.loop-start.invariant.1.rising

pub loop-start-preserved : goal.loop-start-preserved
loop-start-preserved c =
    let bound = c.group_length-count.ensures.bound in
    let left = c.split_at.ensures.back_len in
    let starts : StartsWith c.unwrap-unit.result (rests c.args.depth c.split_at.result.1.now) =
    subst (λ found. MatchOption found (FirstEnds (rests c.args.depth c.split_at.result.1.now)) (λ unit. StartsWith unit (rests c.args.depth c.split_at.result.1.now))) c.unwrap-unit.ensures c.first_unit.ensures in
    let fits : c.unwrap-unit.result < 2 ^ 16 = search rules in (
      omega (arith, bound, left),
      so_far_step c.args.depth c.loop-start.start c.group_length-count.result c.args.pairs.now c.split_at.result.1.now c.loop-start.groups.items c.push.new.self.items
          (record { unit = c.unwrap-unit.result; pairs = c.split_at-in-loop-start.result.0 }) c.split_at.ensures.back ((c.in_ok-push.ensures).items) c.loop-start.invariant.1
          starts fits c.split_at-in-loop-start.ensures.front c.group_length-count.ensures.same c.group_length-count.ensures.other,
    )
