use Rattle.std.proofs.Common.{◌∙◌, ap}
use Rattle.icu_collator.specs.Collators.{source_collation}
use Rattle.icu_collator.specs.LevelLists.{counted_list}
use Rattle.icu_collator.specs.Shifted.{counted}
use Rattle.icu_collator.proofs.key_bytes.text_keys.write_kept_key.Goals as goal

pub write_counted_key-requires-clause-elements : goal.write_counted_key-requires-clause-elements
write_counted_key-requires-clause-elements g c =
    let collation = source_collation c.args.checked.now in
    ap (counted_list c.args.variable_end) c.deref.ensures ∙ c.in_ok-counted.ensures collation c.args.options.now c.requires.end
    ∙ ap (counted collation c.args.options.now) c.requires.elements
