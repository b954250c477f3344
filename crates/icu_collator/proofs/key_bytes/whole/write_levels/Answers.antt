use Rattle.std.proofs.Common.{◌++◌, ◌∙◌, ap}
use Rattle.icu_collator.specs.Collators.{source_collation}
use Rattle.icu_collator.specs.LevelLists.{counted_list}
use Rattle.icu_collator.proofs.key_writing.KeyWrittenLemmas.{key_counted, six_pieces}
use Rattle.icu_collator.proofs.key_bytes.whole.write_levels.Goals as goal

pub returns : goal.returns
returns c = λ es are.
    let collation = source_collation c.args.checked.now in
    let options = c.args.options.now in
    let items = counted_list c.args.variable_end c.args.elements.now in
    six_pieces c.args.key.now.items _ _ _ _ _ _ c.write_primaries.new.key.items c.add_secondaries.new.key.items c.add_cases.new.key.items
    c.add_tertiaries.new.key.items c.add_quaternaries.new.key.items c.add_characters.new.key.items
    c.in_ok-write_primaries.ensures c.in_ok-add_secondaries.ensures c.in_ok-add_cases.ensures c.in_ok-add_tertiaries.ensures c.in_ok-add_quaternaries.ensures
    c.in_ok-add_characters.ensures
    ∙ ap (λ l. c.args.key.now.items ++ l) (key_counted collation options es items c.args.characters.now are)
