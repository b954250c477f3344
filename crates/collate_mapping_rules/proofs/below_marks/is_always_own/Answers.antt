use Rattle.std.proofs.Common.{ℕ, ◌-◌, sym, ap, ◌∙◌, arith, subst}
use Rattle.std.specs.Prelude.{◌&&◌, ltb}
use Rattle.collate_mapping_rules.proofs.mappings.LowChainLemmas.{IsFollowed, follow_start, follow_next, follow_end}
use Rattle.collate_mapping_rules.proofs.below_marks.is_always_own.Goals as goal

pub following-init : goal.following-init
following-init c = (0x110000, omega arith, follow_start c.args.parts.now.list.items c.args.c)

pub returns-in-Default : goal.returns-in-Default
returns-in-Default c = λ yes.
    follow_end c.args.parts.now.list.items c.args.c c.following.front c.following.invariant.0 c.following.next_class
    (sym c.class_of.ensures ∙ c.if-class_of-ne0.false) (sym c.in-Default.ensures) c.following.invariant.2

pub following-preserved : goal.following-preserved
following-preserved c =
    let n = c.following.invariant.0 in
    let within = c.following.invariant.1 in
    let followed = follow_next c.args.parts.now.list.items c.args.c c.following.front c.in-Expansion.first c.in-Expansion.second n c.following.next_class
    (λ e. absurd (omega arith)) (sym c.class_of.ensures ∙ c.if-class_of-ne0.false) (sym c.in-Expansion.ensures)
    (c.is_always_pair.ensures c.if-not-is_always_pair.false)
    (ap (λ (k : ℕ). ltb 0 c.following.next_class && ltb c.following.next_class k) (sym c.class_of-class.ensures) ∙ sym c.is_mark_below.ensures ∙ c.if-is_mark_below.false)
    c.following.invariant.2 in
    (n - 1, omega arith, subst (λ (k : ℕ). IsFollowed c.args.parts.now.list.items c.args.c c.in-Expansion.first (n - 1) k) (sym c.class_of-class.ensures) followed)
