use Rattle.std.proofs.Common.{◌++◌, ◌∙◌, List, ℕ, ap}
use Rattle.icu_collator.specs.Collators.{source_collation}
use Rattle.icu_collator.specs.KeyBytes.{key_bytes}
use Rattle.icu_collator.specs.Levels.{levels_of}
use Rattle.icu_collator.proofs.key_bytes.text_keys.write_exact_key.Goals as goal

pub returns : goal.returns
returns g c = λ es are.
    let collation = source_collation c.args.checked.now in
    let options = c.args.options.now in
    c.in_ok-write_whole_key.ensures es are
    ∙ ap (λ (l : List ℕ). c.args.key.now.items ++ key_bytes collation options (levels_of collation options es l)) (c.deref.ensures ∙ c.in_ok-characters.ensures)
