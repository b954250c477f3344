use Rattle.std.proofs.Common.{[], ◌∷◌, ◌++◌, append_assoc, ap, sym, ◌∙◌, rules}
use Rattle.icu_normalizer_core.specs.BorrowedMeaning.{borrowed_meaning}
use Rattle.icu_collator_core.proofs.readings.DecomposingLemmas.{both_appended, none_appended}
use Rattle.icu_collator_core.proofs.reading.decomposing.push_full_list.Goals as goal

pub loop-d-init : goal.loop-d-init
loop-d-init c =
    record {
      appended = none_appended (borrowed_meaning c.args.canonical).class c.args.list.now.items c.args.ready c.requires;
      left = search rules;
    }

pub loop-d-preserved : goal.loop-d-preserved
loop-d-preserved c =
    let before = c.loop-d.yielded in
    let d = c.in-Some.d in
    record {
      appended = both_appended (borrowed_meaning c.args.canonical).class _ _ before _ _ (d ∷ []) _ _ c.loop-d.invariant.appended c.in_ok-next.ensures;
      left = append_assoc before (d ∷ []) c.next.new.self ∙ ap (λ l. before ++ l) (sym c.in-Some.ensures.steps) ∙ c.loop-d.invariant.left;
    }
