use Rattle.std.proofs.Common.{◌≡◌, subst, sym, ◌∙◌, arith}
use Rattle.std.proofs.lemmas.Bool.{true≢false}
use Rattle.icu_normalizer_core.specs.BorrowedMeaning.{borrowed_meaning}
use Rattle.icu_collator_core.specs.UnsafeWords.{IsUnsafeIn, MakesUnsafeIn}
use Rattle.icu_collator_core.specs.WeightLists.{Grows}
use Rattle.icu_collator_core.proofs.apart.GatheringLemmas.{all_codes}
use Rattle.icu_collator_core.proofs.apart.GrowthLemmas.{UpTo, grown_same, grown_up_to_later, grown_up_to_none}
use Rattle.icu_collator_core.proofs.unsafe_characters.walk.gather_in.Goals as goal

pub loop-code-init : goal.loop-code-init
loop-code-init c = record {
  bound = omega arith;
  grown = grown_up_to_none (MakesUnsafeIn (borrowed_meaning c.args.canonical) c.args.tables.now c.args.source.now) c.args.characters.now.items;
}

pub loop-code-preserved : goal.loop-code-preserved
loop-code-preserved c = record {
  bound = c.next_code-code.ensures.bound;
  grown = grown_up_to_later (MakesUnsafeIn (borrowed_meaning c.args.canonical) c.args.tables.now c.args.source.now) c.loop-code.code c.next_code-code.result
      c.next_code-code.ensures.onward
      (λ d one from to is. absurd (true≢false (sym is.1 ∙ c.next_code-code.ensures.none d from to)))
      c.args.characters.now.items c.loop-code.characters.items c.gather_at.new.characters.items c.loop-code.invariant.grown c.in_ok-gather_at.ensures;
}

pub returns : goal.returns
returns c =
    let MakesUnsafe = MakesUnsafeIn (borrowed_meaning c.args.canonical) c.args.tables.now c.args.source.now in
    let before = c.args.characters.now.items in
    let after = c.loop-code.characters.items in
    let end : c.loop-code.code ≡ 0x11_0000 = omega (arith, c.loop-code-test.false, c.loop-code.invariant.bound) in
    grown_same (UpTo MakesUnsafe 0x11_0000) (IsUnsafeIn (borrowed_meaning c.args.canonical) c.args.tables.now c.args.source.now) before after
    (all_codes MakesUnsafe (λ d one h. h.0))
    (subst (λ n. Grows (UpTo MakesUnsafe n) before after) end c.loop-code.invariant.grown)
