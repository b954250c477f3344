use Rattle.std.proofs.Common.{◌≡◌, ◌<◌, ◌^◌, Some, pos, sym, ap, ◌∙◌, arith, rules}
use Rattle.std.specs.List.{slice_get}
use Rattle.std.proofs.lemmas.List.{take_all}
use Rattle.toml.specs.Data.{integer}
use Rattle.toml.specs.View.{view}
use Rattle.icu_codepointtrie.proofs.tables.TomlTableLemmas.{integers_of-more, values_in-found, value_in-number}
use Rattle.icu_codepointtrie.proofs.toml_text.write.integers_of.Goals as goal

pub loop-slot-preserved : goal.loop-slot-preserved
loop-slot-preserved g c =
    let v = c.unwrap-value.result in
    let here : slice_get c.args.values.now c.loop-slot.slot ≡ Some v = sym c.get.ensures.item ∙ c.unwrap-value.ensures in
    let is_value = rw c.unwrap-value.ensures at c.get.ensures.value in
    let small : c.to_u32.result < 2 ^ 32 = omega arith in
    let seen : view c.from.result ≡ integer (pos c.to_u32.result) = search (rules, c.from.ensures) in
    let means = value_in-number g.T.TrieValue.of_number (view c.from.result) c.to_u32.result v seen small (rw c.to_u32.ensures (g.met.T.TrieValue.round_trip v is_value)) in
    record {
      integers = rw c.in_ok-push.ensures.items (integers_of-more g.T.TrieValue.number c.args.values.now c.loop-slot.slot v c.loop-slot.array.items c.from.result here (seen ∙ ap (λ n. integer (pos n)) c.to_u32.ensures) c.loop-slot.invariant.integers);
      reads_back = rw c.in_ok-push.ensures.items (values_in-found g.T.TrieValue.of_number c.args.values.now c.loop-slot.slot v c.loop-slot.array.items c.from.result here means c.loop-slot.invariant.reads_back);
    }

pub returns-clause-integers : goal.returns-clause-integers
returns-clause-integers g c =
    let whole = take_all c.loop-slot.slot c.args.values.now (omega arith) in
    rw whole at c.loop-slot.invariant.integers

pub returns-clause-reads_back : goal.returns-clause-reads_back
returns-clause-reads_back g c =
    let whole = take_all c.loop-slot.slot c.args.values.now (omega arith) in
    rw whole at c.loop-slot.invariant.reads_back
