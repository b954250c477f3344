use Rattle.std.proofs.Common.{◌≡◌, ◌+◌, ℕ, suc, subst, arith, rules}
use Rattle.icu_collator_core.specs.declared.unsafe_characters.context_texts.Side.TheVariants.{Behind}
use Rattle.icu_collator_core.specs.TableMeaning.{pools_of}
use Rattle.icu_collator_core.specs.UnsafeWords.{ContextGives, ContextMakesUnsafe}
use Rattle.icu_collator_core.specs.WeightLists.{Grows}
use Rattle.icu_collator_core.proofs.apart.GrowthLemmas.{UpTo, grown_same, grown_up_to_next, grown_up_to_none}
use Rattle.icu_collator_core.proofs.unsafety.MetLemmas.{all_indices}
use Rattle.icu_collator_core.proofs.unsafe_characters.context_texts.gather_all.Goals as goal

pub loop-index-init : goal.loop-index-init
loop-index-init c = grown_up_to_none (λ k (d : ℕ). ContextGives (pools_of c.args.source.now) (suc k) 0 c.args.word d) c.args.characters.now.items

pub loop-index-preserved : goal.loop-index-preserved
loop-index-preserved c =
    let pools = pools_of c.args.source.now in
    let index = c.loop-index.index in
    let before = c.loop-index.characters.items in
    let after = c.gather_last_of.new.characters.items in
    let next : index + 1 ≡ suc index = omega arith in
    grown_up_to_next (λ k (d : ℕ). ContextGives pools (suc k) 0 c.args.word d) index c.args.characters.now.items before after c.loop-index.invariant
    (subst (λ (n : ℕ). Grows (ContextGives pools n 0 c.args.word) before after) next c.in_ok-gather_last_of.ensures)

pub returns : goal.returns
returns c =
    let pools = pools_of c.args.source.now in
    let before = c.args.characters.now.items in
    let after = c.loop-index.characters.items in
    let seven : c.loop-index.index ≡ 7 = search rules in
    grown_same (UpTo (λ k (d : ℕ). ContextGives pools (suc k) 0 c.args.word d) 7) (ContextMakesUnsafe pools Behind c.args.word) before after
    (all_indices pools c.args.word)
    (subst (λ n. Grows (UpTo (λ k (d : ℕ). ContextGives pools (suc k) 0 c.args.word d) n) before after) seven c.loop-index.invariant)
