use Rattle.std.proofs.Common.{◌≡◌, true, rules}
use Rattle.std.specs.Prelude.{is_none}
use Rattle.collate_records.proofs.comparing.NotedElementLemmas.{elements_put, nothing_copied}
use Rattle.collate_records.proofs.noted_file.put_elements.Goals as goal

pub returns-in_ok-insert : goal.returns-in_ok-insert
returns-in_ok-insert c =
    let none : is_none c.get.result ≡ true = search rules in
    elements_put c.args.noted.now c.insert.new.self (c.args.prefix, c.args.text) c.args.elements
    (nothing_copied c.get.result _ c.get.ensures.value none) c.in_ok-insert.ensures.updates.0
