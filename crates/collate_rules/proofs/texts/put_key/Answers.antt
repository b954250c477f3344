use Rattle.collate_lines.proofs.reading.KeyLemmas.{key_put}
use Rattle.collate_rules.proofs.texts.put_key.Goals as goal

pub returns : goal.returns
returns c =
    key_put c.args.keys.now c.insert.new.self c.in_ok-key.key c.args.prefix.now c.args.text.now c.in_ok-key.ensures.0 c.in_ok-key.ensures.1
    c.in_ok-insert.ensures.keys
