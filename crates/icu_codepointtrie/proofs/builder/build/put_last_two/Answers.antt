use Rattle.std.proofs.Common.{◌++◌, ◌∷◌, [], List, sym, ap, ◌∙◌, append_assoc, arith}
use Rattle.std.proofs.lemmas.List.{get_or-map}
use Rattle.icu_codepointtrie.proofs.builder.build.put_last_two.Goals as goal

pub returns : goal.returns
returns g c =
    let number = g.T.TrieValue.number in
    let last = c.index-values-1114111.result in (
      last,
      ap number c.index-values-1114111.is ∙ sym (get_or-map number c.args.values.now 0x10_FFFF last 0 (omega arith)),
      c.in_ok-push-2.ensures.items ∙ ap (λ (xs : List g.row.T.Denot). xs ++ c.args.error ∷ []) c.in_ok-push.ensures.items ∙ append_assoc c.args.cells.now.items (last ∷ []) (c.args.error ∷ []),
    )
