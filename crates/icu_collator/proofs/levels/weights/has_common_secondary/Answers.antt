use Rattle.std.proofs.Common.{◌≡◌, ℕ, ◌/◌, ◌%◌, ◌^◌, ◌∙◌, Some, ap, arith, refl}
use Rattle.std.proofs.lemmas.Bool.{eqb-true}
use Rattle.std.specs.Prelude.{option_map}
use Rattle.icu_collator_core.specs.Pools.{element_of}
use Rattle.icu_collator.specs.LevelLists.{counted_of}
use Rattle.icu_collator.specs.Levels.{secondary_at}
use Rattle.icu_collator.specs.Order.{secondary_rank}
use Rattle.icu_collator.specs.Shifted.{whole}
use Rattle.icu_collator.proofs.levels.weights.has_common_secondary.Goals as goal

common_secondary : (bits secondary : ℕ) → secondary ≡ bits % 2 ^ 32 / 2 ^ 16 → secondary ≡ 0x500
    → option_map secondary_rank (secondary_at (whole (element_of bits))) ≡ Some 0x501
common_secondary bits secondary is common =
    let e : bits / 2 ^ 16 % 2 ^ 16 ≡ 0x500 = omega (arith, is, common) in
    rw e refl

pub returns-in-Whole : goal.returns-in-Whole
returns-in-Whole c = λ common.
    ap (λ e. option_map secondary_rank (secondary_at (counted_of e))) c.in-Whole.is
    ∙ common_secondary c.in-Whole.element c.secondary.result c.secondary.ensures (eqb-true _ _ common)
