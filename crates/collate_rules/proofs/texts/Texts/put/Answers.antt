use Rattle.collate_rules.proofs.records.RecordedTextLemmas.{lone_put, other_put}
use Rattle.collate_rules.proofs.texts.Texts.put.Goals as goal

pub returns-in_ok-put-in-Some : goal.returns-in_ok-put-in-Some
returns-in_ok-put-in-Some c =
    lone_put c.args.self.now c.put.new.noted c.args.prefix.now c.args.text.now c.in-Some.c c.in-Some.ensures c.in_ok-put-in-Some.ensures

pub returns-in_ok-put_key-in-None : goal.returns-in_ok-put_key-in-None
returns-in_ok-put_key-in-None c =
    other_put c.args.self.now c.put_key.new.keys c.args.prefix.now c.args.text.now c.in-None.ensures c.in_ok-put_key-in-None.ensures
