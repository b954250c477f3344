use Rattle.std.proofs.Common.{◌∙◌}
use Rattle.collate_lines.proofs.reading.KeyLemmas.{key_found}
use Rattle.collate_rules.proofs.records.RecordedTextLemmas.{lone_found, other_found}
use Rattle.collate_rules.proofs.texts.Texts.contains.Goals as goal

pub returns-in-Some : goal.returns-in-Some
returns-in-Some c = c.contains.ensures ∙ lone_found c.args.self.now c.args.prefix.now c.args.text.now c.in-Some.c c.in-Some.ensures

pub returns-in_ok-key-in-None : goal.returns-in_ok-key-in-None
returns-in_ok-key-in-None c =
    c.contains-in-None.ensures
    ∙ key_found c.args.self.now.beside c.in_ok-key-in-None.key c.args.prefix.now c.args.text.now c.in_ok-key-in-None.ensures.0 c.in_ok-key-in-None.ensures.1
    ∙ other_found c.args.self.now c.args.prefix.now c.args.text.now c.in-None.ensures
