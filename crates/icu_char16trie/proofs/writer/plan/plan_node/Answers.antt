use Rattle.std.proofs.Common.{◌∷◌, [], ap, ◌∙◌, sym, subst}
use Rattle.icu_char16trie.specs.UnitPairs.{HaveUnits, rests}
use Rattle.icu_char16trie.proofs.Writing.LayoutLemmas.{rests_one, longer_all, longer_rest}
use Rattle.icu_char16trie.proofs.Writing.TaskLemmas.{final_adds, same_number}
use Rattle.icu_char16trie.proofs.writer.plan.plan_node.Goals as goal

pub plan_following-requires-clause-longer : goal.plan_following-requires-clause-longer
plan_following-requires-clause-longer c = longer_all (rests c.args.depth c.args.pairs.now) c.in_default.ensures.pairs c.requires.sorted

pub returns-then-pairs-eq1-clause-adds : goal.returns-then-pairs-eq1-clause-adds
returns-then-pairs-eq1-clause-adds c =
    final_adds c.cast_unsigned-number.result c.in-Some.value c.args.tasks.now c.put.new.self (rests c.args.depth c.args.pairs.now) c.in_ok-put.ensures (same_number c.in-Some.value c.cast_unsigned-number.result c.cast_unsigned-number.ensures c.in-Some.ensures.value)
    (c.in-Some.ensures.pairs ∙ ap (λ rest. ([], c.in-Some.value) ∷ rest) (rests_one c.args.depth c.args.pairs.now c.if-pairs-eq1.true))

pub plan_following-requires-2-clause-longer : goal.plan_following-requires-2-clause-longer
plan_following-requires-2-clause-longer c = subst (λ pairs. HaveUnits (rests c.args.depth pairs)) (sym c.split_at.ensures.back) (longer_rest c.args.depth c.args.pairs.now c.requires.sorted)
