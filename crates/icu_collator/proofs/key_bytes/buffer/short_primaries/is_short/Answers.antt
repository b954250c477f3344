use Rattle.std.proofs.Common.{◌≡◌, ◌≢◌, ℕ, ◌<◌, ◌+◌, ◌-◌, ◌*◌, ◌/◌, ◌%◌, ◌^◌, ◌∙◌, arith, bit_and, ltb, subst, sym, true}
use Rattle.std.proofs.lemmas.Bool.{ltb-true}
use Rattle.std.proofs.lemmas.Nat.{and_mask}
use Rattle.icu_collator.proofs.key_writing.WeightWrittenLemmas.{one_behind}
use Rattle.icu_collator.proofs.key_bytes.buffer.short_primaries.is_short.Goals as goal

module _ (p plain : ℕ) (small : p < 2 ^ 32) (narrow : plain < 2 ^ 16) (near : (p / 2 ^ 16 + (2 ^ 32 - (plain * 256 + 1))) % 2 ^ 32 < 255) where
  leads : plain ≡ p / 2 ^ 24
  leads = omega (arith, small, narrow, near)

  low : plain < 256
  low = omega (arith, small, leads)

  goes_on : bit_and p 0xffffff ≢ 0
  goes_on = λ e.
      let masked : p % 2 ^ 24 ≡ 0 = sym (and_mask p 24) ∙ e in
      omega (arith, small, narrow, near, masked)

-- where the difference is small, by the widened lead
small_difference : (p wide plain : ℕ) → wide ≡ plain → ltb ((p / 2 ^ 16 + (2 ^ 32 - (wide * 256 + 1))) % 2 ^ 32) 255 ≡ true
    → (p / 2 ^ 16 + (2 ^ 32 - (plain * 256 + 1))) % 2 ^ 32 < 255
small_difference p wide plain is near = subst (λ (w : ℕ). (p / 2 ^ 16 + (2 ^ 32 - (w * 256 + 1))) % 2 ^ 32 < 255) is (ltb-true _ _ near)

pub returns-clause-lead : goal.returns-clause-lead
returns-clause-lead c = λ near.
    leads c.args.primary c.args.lead c.ranges.primary.fits c.ranges.lead.fits (small_difference c.args.primary c.from.result c.args.lead c.from.ensures near)

pub returns-clause-low : goal.returns-clause-low
returns-clause-low c = λ near.
    low c.args.primary c.args.lead c.ranges.primary.fits c.ranges.lead.fits (small_difference c.args.primary c.from.result c.args.lead c.from.ensures near)

pub returns-clause-rest : goal.returns-clause-rest
returns-clause-rest c = λ near.
    one_behind c.args.primary
    (goes_on c.args.primary c.args.lead c.ranges.primary.fits c.ranges.lead.fits (small_difference c.args.primary c.from.result c.args.lead c.from.ensures near))
    c.if-primary-ne0.false
