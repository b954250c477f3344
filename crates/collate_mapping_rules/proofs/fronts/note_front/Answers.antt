use Rattle.std.proofs.Common.{refl}
use Rattle.std.proofs.lemmas.Result.{on_ok_weaker}
use Rattle.collate_mapping_rules.proofs.lists.FrontLemmas.{front_noted, front_of_step}
use Rattle.collate_mapping_rules.proofs.fronts.note_front.Goals as goal

pub returns-in-Some : goal.returns-in-Some
returns-in-Some c = λ full fronts none some.
    on_ok_weaker c.put_front.result
    (front_noted full c.args.fronts.now c.put_front.new.fronts c.args.c c.in-Some.front fronts
    (front_of_step full c.args.c c.args.given.now c.in-Some.front (λ e. c.in-Some.ensures.alone e c.in-Some.front refl) (λ e. c.in-Some.ensures.joined e full fronts c.in-Some.front refl) none some))
    c.put_front.ensures
