use Rattle.std.proofs.Common.{ap, ◌∙◌}
use Rattle.toml.specs.View.{members_view}
use Rattle.icu_codepointtrie.proofs.tables.TomlTableLemmas.{members_view-insert}
use Rattle.icu_codepointtrie.proofs.toml_text.write.put.Goals as goal

pub returns-in-Ok : goal.returns-in-Ok
returns-in-Ok c = ap members_view c.in-Ok.ensures.entries ∙ members_view-insert c.args.table.now.entries c.in_ok-key.key c.args.value ∙ rw c.in_ok-key.ensures.ok
