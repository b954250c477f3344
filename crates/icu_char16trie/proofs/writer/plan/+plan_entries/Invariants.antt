use Rattle.std.proofs.Common.{length}
use Rattle.icu_char16trie.proofs.writer.plan.+plan_entries.Given as goal

abbrev pub decreases-plan_entries : goal.decreases-plan_entries
decreases-plan_entries l = length l.groups.now
