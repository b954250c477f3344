use Rattle.std.proofs.Common.{◌≡◌, ℕ, ◌+◌, ◌<◌, Option, List, [], ◌∷◌, ◌++◌, filter_map, length, take, get_or, refl, sym, ap, ◌∙◌}
use Rattle.std.specs.List.{cons_option, list_all}
use Rattle.std.proofs.lemmas.List.{append-nil, take_all}
use Rattle.std.proofs.lemmas.List.Elements.{filter_map-append}
use Rattle.icu_collator.specs.LevelLists.{counted_by, counted_list}
use Rattle.icu_collator.specs.Shifted.{Counted}
use Rattle.icu_collator.proofs.lists.ListGivenLemmas.{counted_more, more_pass}
use Rattle.icu_collator.proofs.levels.level_lists.listed.Goals.{in-Some+in_ok-push, in_default}
use Rattle.icu_collator.proofs.levels.level_lists.listed.Goals as goal

-- what they give
given_more : {Y : Type 0} (at : Counted → Option Y) (end : ℕ) (xs : List ℕ) (i x : ℕ) (y : Option Y) → i < length xs → x ≡ get_or xs i x → y ≡ at (counted_by end x)
    → filter_map at (counted_list end (take (i + 1) xs)) ≡ filter_map at (counted_list end (take i xs)) ++ cons_option y []
given_more at end xs i x y within is e =
    rw (e, counted_more end xs i x within is) (filter_map-append at (counted_list end (take i xs)) (counted_by end x ∷ []))

pub loop-element-preserved : goal.loop-element-preserved
loop-element-preserved g c =
    let end = c.args.variable_end in
    let xs = c.args.elements.now in
    let i = c.loop-element.element-index in
    let x = c.element-item.result in
    record {
      list = λ at says.
          let before = c.loop-element.invariant.list at says
          in let more = given_more at end xs i x c.given.result c.loop-element-test.true c.element-item.is (says _ _ c.given.ensures ∙ ap at c.counted_element.ensures)
          in elim c.match-given.branch [
            | in-Some+in_ok-push w ↦ rw (w.list-is, w.in_ok-push.ensures.ok, before, more, w.in-Some.is) refl
            | in_default w ↦ rw (w.list-is, before, more, w.in_default.is) (sym (append-nil _))
          ];
      each = λ test says.
          let before = c.loop-element.invariant.each test says
          in elim c.match-given.branch [
            | in-Some+in_ok-push w ↦ rw w.list-is (more_pass test _ _ _ w.in_ok-push.ensures.ok before (rw w.in-Some.is at (says _ _ c.given.ensures)))
            | in_default w ↦ rw w.list-is before
          ];
      holds = λ holds says.
          more_pass holds (counted_list end (take i xs)) _ (counted_by end x) (counted_more end xs i x c.loop-element-test.true c.element-item.is)
          (c.loop-element.invariant.holds holds says) (sym (ap holds c.counted_element.ensures) ∙ says _ _ c.given.ensures);
    }

pub returns-clause-list : goal.returns-clause-list
returns-clause-list g c = λ at says.
    c.loop-element.invariant.list at says
    ∙ ap (λ items. filter_map at (counted_list c.args.variable_end items)) (take_all c.loop-element.element-index c.args.elements.now c.loop-element-test.false)

pub returns-clause-holds : goal.returns-clause-holds
returns-clause-holds g c = λ holds says.
    sym (ap (λ items. list_all holds (counted_list c.args.variable_end items)) (take_all c.loop-element.element-index c.args.elements.now c.loop-element-test.false))
    ∙ c.loop-element.invariant.holds holds says
