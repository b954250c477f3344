use Rattle.std.proofs.Common.{◌≡◌, ◌∙◌, ◌+◌, ◌++◌, ◌∷◌, [], ◌<◌, List, Some, Bool, filter, length, slice_get, take, take_all, ap, arith, sym}
use Rattle.std.proofs.lemmas.List.Elements.{filter_more}
use Rattle.std.proofs.lemmas.Option.{get_or_from_slice_get}
use Rattle.collate_lists.specs.declared.windows.FrontedSlot.{FrontedSlot}
use Rattle.collate_name_list.specs.Keys.{is_at_kept}
use Rattle.collate_name_list.proofs.FrontedLemmas.{shown_at}
use Rattle.collate_name_list.proofs.keys.kept_slots.Goals as goal

pub ranks-init : goal.ranks-init
ranks-init c = record { kept = c.new-ranked.ensures; shown = c.around-window.ensures.shown }

pub ranks-preserved : goal.ranks-preserved
ranks-preserved c =
    let ps : List FrontedSlot = c.args.by_key.now in
    let p : FrontedSlot → Bool = is_at_kept c.args.keys.now in
    let rank = c.ranks.rank in
    let placed : FrontedSlot = c.slot_in-placed.result in
    let within : rank < length ps = omega (arith, c.ranks-test.true, c.len-rank-end.ensures) in
    let there : slice_get ps rank ≡ Some placed =
    shown_at ps c.window_around-window.result.slots.now c.window_around-window.result.start rank placed c.window_around-window.ensures.shown c.window_around-window.ensures.from c.slot_in-placed.ensures in
    record {
      kept =
          c.in_ok-keep.ensures
          ∙ ap (λ (qs : List FrontedSlot). qs ++ filter p (placed ∷ [])) c.ranks.invariant.kept
          ∙ sym (filter_more p ps rank placed within ∙ ap (λ (q : FrontedSlot). filter p (take rank ps) ++ filter p (q ∷ [])) (get_or_from_slice_get ps rank placed placed there));
      shown = c.window_around-window.ensures.shown;
    }

pub returns : goal.returns
returns c =
    c.ranks.invariant.kept
    ∙ ap (filter (is_at_kept c.args.keys.now)) (take_all c.ranks.rank c.args.by_key.now (omega (arith, c.ranks-test.false, c.len-rank-end.ensures)))
