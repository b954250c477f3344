use Rattle.std.proofs.Common.{◌≡◌, ◌∷◌, [], sym, subst}
use Rattle.std.specs.Option.{unwrap_or}
use Rattle.icu_collator_core.specs.Defaults.{default_elements}
use Rattle.icu_collator_core.specs.ElementLists.{AddsElements}
use Rattle.icu_collator_core.specs.JoinedTexts.{IsWordOfText}
use Rattle.icu_collator_core.specs.TableMeaning.{pools_of}
use Rattle.icu_collator_core.proofs.reading.mark_runs.push_joined.Goals as goal

pub returns-in_ok-push_spelled-in-Some-clause-pushed : goal.returns-in_ok-push_spelled-in-Some-clause-pushed
returns-in_ok-push_spelled-in-Some-clause-pushed c = λ canonical weights here behind said of is ended spelled.
    let d = c.args.c in
    let pools = pools_of c.args.entry.source.now in
    let taken = c.joined_word.ensures.left canonical weights d here behind said of is ended spelled in
    let word = subst (λ o. IsWordOfText weights pools d (d ∷ taken.joined) o) c.in-Some.is taken.said in
    record {
      joined = taken.joined;
      between = taken.between;
      left = taken.left;
      same = taken.same;
      elements =
          subst (λ o. AddsElements c.args.ready.now.items (unwrap_or o (default_elements weights d)) c.push_spelled.new.elements.items) (sym word)
          (c.in_ok-push_spelled-in-Some.ensures.said weights said);
    }

pub returns-in_ok-push_alone-in-None-clause-pushed : goal.returns-in_ok-push_alone-in-None-clause-pushed
returns-in_ok-push_alone-in-None-clause-pushed c = λ canonical weights here behind said of is ended spelled.
    let d = c.args.c in
    let pools = pools_of c.args.entry.source.now in
    let taken = c.joined_word.ensures.left canonical weights d here behind said of is ended spelled in
    let word : d ∷ taken.joined ≡ d ∷ [] = subst (λ o. IsWordOfText weights pools d (d ∷ taken.joined) o) c.in-None.is taken.said in
    record {
      joined = taken.joined;
      between = taken.between;
      left = taken.left;
      same = taken.same;
      elements =
          subst (λ t. AddsElements c.args.ready.now.items (unwrap_or (weights.recorded [] t) (default_elements weights d)) c.push_alone.new.elements.items) (sym word)
          (c.in_ok-push_alone-in-None.ensures.said weights said);
    }
