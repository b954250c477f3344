use Rattle.std.proofs.Common.{length}
use Rattle.icu_char16trie.proofs.writer.plan.+plan_branch.Given as goal

abbrev pub decreases-plan_branch : goal.decreases-plan_branch
decreases-plan_branch l = length l.groups.now
