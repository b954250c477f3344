use Rattle.icu_char16trie.proofs.Writing.TaskLemmas.{node_finishes}
use Rattle.icu_char16trie.proofs.writer.layout.write_task.Goals as goal

pub returns-in-Node-clause-adds : goal.returns-in-Node-clause-adds
returns-in-Node-clause-adds c =
    node_finishes c.plan_node.result c.args.task c.in-Node.pairs c.in-Node.depth c.args.tasks.now c.plan_node.new.tasks c.args.marks.now c.args.out.now c.in-Node.is c.plan_node.ensures.adds
