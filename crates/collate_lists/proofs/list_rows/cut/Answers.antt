use Rattle.std.proofs.Common.{◌≡◌, ◌+◌, ◌-◌, ◌≤◌, ◌++◌, length, take, drop, ap, ◌∙◌, arith, length-drop}
use Rattle.std.specs.Prelude.{is_ok, vec_len, vec_capacity}
use Rattle.std.proofs.lemmas.List.{take_rest}
use Rattle.collate_lists.proofs.Rows.{done_is}
use Rattle.collate_lists.proofs.list_rows.cut.Goals as goal

pub returns-clause-upper : goal.returns-clause-upper
returns-clause-upper c =
    let list = c.deref.result.now in
    let empty = c.args.empty in
    let part = take (length list - 256) (drop 256 list) in
    let rest : part ≡ drop 256 c.args.list.now.items = take_rest list 256 ∙ ap (λ xs. drop 256 xs) c.deref.ensures.value in
    let fits : vec_len empty + length part ≤ vec_capacity empty = omega (arith, ap length rest, length-drop 256 c.args.list.now.items, ap length c.requires.empty) in
    done_is (is_ok c.extend_from_slice.result) (empty.items ++ part) empty.items c.extend_from_slice.new.self.items (c.extend_from_slice.ensures.succeeds fits) c.extend_from_slice.ensures.items
    ∙ ap (λ xs. xs ++ part) c.requires.empty
    ∙ rest
