use Rattle.std.proofs.Common.{◌≡◌, None, get_or, sym, arith}
use Rattle.toml.specs.View.{view}
use Rattle.icu_codepointtrie.specs.TomlTables.{value_in}
use Rattle.icu_codepointtrie.proofs.tables.TomlTableLemmas.{values_in-none, values_in-more}
use Rattle.icu_codepointtrie.proofs.toml_text.read.values_of.Goals as goal

-- an item without a value leaves the whole array without values
pub returns-in_default : goal.returns-in_default
returns-in_default g c =
    let here : value_in g.T.TrieValue.of_number (view (get_or c.args.array.now c.loop-value.value-index c.value-item.result)) ≡ None = rw (← c.value-item.is) (sym c.in_default.ensures) in
    sym (values_in-none g.T.TrieValue.of_number c.args.array.now c.loop-value.value-index c.value-item.result (omega arith) here)

pub loop-value-preserved : goal.loop-value-preserved
loop-value-preserved g c =
    let here = rw c.value-item.is at (sym c.in-Some.ensures) in
    rw c.in_ok-push.ensures.items (values_in-more g.T.TrieValue.of_number c.args.array.now c.loop-value.value-index c.value-item.result c.loop-value.values.items c.in-Some.value (omega arith) c.loop-value.invariant here)
