use Rattle.std.proofs.Common.{sym, ◌∙◌, ◌%◌, ◌/◌, ◌^◌}
use Rattle.std.proofs.lemmas.Bool.{eq-eqb, ne_eqb}
use Rattle.icu_collator_core.proofs.weights.PrimaryRestLemmas.{one_left, three_left, two_left}
use Rattle.icu_collator_core.proofs.weight_rules.element_rules.is_sound_rest.Goals as goal

pub returns-then-fourth-ne0 : goal.returns-then-fourth-ne0
returns-then-fourth-ne0 c =
    c.are_three_inner.ensures ∙ sym (three_left c.args.primary (ne_eqb (c.args.primary % 256) 0 c.if-fourth-ne0.true))

pub returns-then-third-ne0 : goal.returns-then-third-ne0
returns-then-third-ne0 c =
    c.are_two_inner.ensures
    ∙ sym (two_left c.args.primary (eq-eqb (c.args.primary % 256) 0 c.if-fourth-ne0.false) (ne_eqb (c.args.primary / 2 ^ 8 % 256) 0 c.if-third-ne0.true))

pub returns : goal.returns
returns c =
    sym (one_left c.args.primary (eq-eqb (c.args.primary % 256) 0 c.if-fourth-ne0.false) (eq-eqb (c.args.primary / 2 ^ 8 % 256) 0 c.if-third-ne0.false))
