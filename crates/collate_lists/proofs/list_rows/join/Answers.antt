use Rattle.std.proofs.Common.{◌≡◌, ◌+◌, ◌++◌, length, get_or, set, sym, ap, ◌∙◌, subst, arith}
use Rattle.std.specs.Prelude.{is_ok, remove}
use Rattle.collate_lists.specs.Lists.{joined, starts_of, AreRoomy}
use Rattle.collate_lists.proofs.Rows.{done_is, joined_fits, joined_values, joined_starts, joined_room}
use Rattle.collate_lists.proofs.list_rows.join.Goals as goal

pub returns-clause-values : goal.returns-clause-values
returns-clause-values c =
    let low = c.index_mut-list.result.now in
    let high = c.remove-upper.result in
    let is : low ≡ get_or (remove c.args.lists.now.items (c.args.part + 1)) c.args.part low = c.index_mut-list.ensures.value ∙ ap (λ ls. get_or ls c.args.part low) c.remove-upper.ensures.items in
    let fits = joined_fits c.args.lists.now.items c.args.part low high c.extend_from_slice.new.self c.requires.few.within is c.remove-upper.ensures.value c.requires.few.few c.requires.room in
    let part : length c.as_slice.result.now ≡ length high.items = ap length c.as_slice.ensures.value in
    let e : c.extend_from_slice.new.self.items ≡ low.items ++ high.items =
    done_is (is_ok c.extend_from_slice.result) (low.items ++ c.as_slice.result.now) low.items c.extend_from_slice.new.self.items (c.extend_from_slice.ensures.succeeds (omega (arith, fits, part))) c.extend_from_slice.ensures.items
    ∙ ap (λ xs. low.items ++ xs) c.as_slice.ensures.value in
    ap (λ ls. joined (set ls c.args.part c.extend_from_slice.new.self)) c.remove-upper.ensures.items ∙ joined_values c.args.lists.now.items c.args.part low high c.extend_from_slice.new.self c.requires.few.within is c.remove-upper.ensures.value c.requires.few.few c.requires.room e

pub returns-clause-starts : goal.returns-clause-starts
returns-clause-starts c =
    let low = c.index_mut-list.result.now in
    let high = c.remove-upper.result in
    let is : low ≡ get_or (remove c.args.lists.now.items (c.args.part + 1)) c.args.part low = c.index_mut-list.ensures.value ∙ ap (λ ls. get_or ls c.args.part low) c.remove-upper.ensures.items in
    let fits = joined_fits c.args.lists.now.items c.args.part low high c.extend_from_slice.new.self c.requires.few.within is c.remove-upper.ensures.value c.requires.few.few c.requires.room in
    let part : length c.as_slice.result.now ≡ length high.items = ap length c.as_slice.ensures.value in
    let e : c.extend_from_slice.new.self.items ≡ low.items ++ high.items =
    done_is (is_ok c.extend_from_slice.result) (low.items ++ c.as_slice.result.now) low.items c.extend_from_slice.new.self.items (c.extend_from_slice.ensures.succeeds (omega (arith, fits, part))) c.extend_from_slice.ensures.items
    ∙ ap (λ xs. low.items ++ xs) c.as_slice.ensures.value in
    ap (λ ls. starts_of (set ls c.args.part c.extend_from_slice.new.self)) c.remove-upper.ensures.items ∙ joined_starts c.args.lists.now.items c.args.part low high c.extend_from_slice.new.self c.requires.few.within is c.remove-upper.ensures.value c.requires.few.few c.requires.room e

pub returns-clause-room : goal.returns-clause-room
returns-clause-room c =
    let low = c.index_mut-list.result.now in
    let high = c.remove-upper.result in
    let is : low ≡ get_or (remove c.args.lists.now.items (c.args.part + 1)) c.args.part low = c.index_mut-list.ensures.value ∙ ap (λ ls. get_or ls c.args.part low) c.remove-upper.ensures.items in
    let fits = joined_fits c.args.lists.now.items c.args.part low high c.extend_from_slice.new.self c.requires.few.within is c.remove-upper.ensures.value c.requires.few.few c.requires.room in
    let part : length c.as_slice.result.now ≡ length high.items = ap length c.as_slice.ensures.value in
    let e : c.extend_from_slice.new.self.items ≡ low.items ++ high.items =
    done_is (is_ok c.extend_from_slice.result) (low.items ++ c.as_slice.result.now) low.items c.extend_from_slice.new.self.items (c.extend_from_slice.ensures.succeeds (omega (arith, fits, part))) c.extend_from_slice.ensures.items
    ∙ ap (λ xs. low.items ++ xs) c.as_slice.ensures.value in
    subst (λ ls. AreRoomy (set ls c.args.part c.extend_from_slice.new.self)) (sym c.remove-upper.ensures.items) (joined_room c.args.lists.now.items c.args.part low high c.extend_from_slice.new.self c.requires.few.within is c.remove-upper.ensures.value c.requires.few.few c.requires.room e c.extend_from_slice.ensures.capacity)
