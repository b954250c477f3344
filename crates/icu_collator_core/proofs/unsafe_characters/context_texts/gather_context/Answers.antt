use Rattle.std.proofs.Common.{subst, sym}
use Rattle.icu_collator_core.specs.declared.unsafe_characters.context_texts.Side.TheVariants.{Before}
use Rattle.icu_collator_core.specs.TableMeaning.{pools_of}
use Rattle.icu_collator_core.specs.UnsafeWords.{ContextGives, ContextMakesUnsafe}
use Rattle.icu_collator_core.specs.WeightLists.{Grows}
use Rattle.icu_collator_core.proofs.apart.GrowthLemmas.{grown_same}
use Rattle.icu_collator_core.proofs.unsafety.MetLemmas.{any_text}
use Rattle.icu_collator_core.proofs.unsafe_characters.context_texts.gather_context.Goals as goal

pub returns-in_ok-gather_all-in-Behind : goal.returns-in_ok-gather_all-in-Behind
returns-in_ok-gather_all-in-Behind c =
    subst (λ side. Grows (ContextMakesUnsafe (pools_of c.args.source.now) side c.args.word) c.args.characters.now.items c.gather_all.new.characters.items)
    (sym c.in-Behind.is) c.in_ok-gather_all-in-Behind.ensures

pub returns-in_ok-gather_last_of-in-Before : goal.returns-in_ok-gather_last_of-in-Before
returns-in_ok-gather_last_of-in-Before c =
    let pools = pools_of c.args.source.now in
    let before = c.args.characters.now.items in
    let after = c.gather_last_of.new.characters.items in
    subst (λ side. Grows (ContextMakesUnsafe pools side c.args.word) before after) (sym c.in-Before.is)
    (grown_same (ContextGives pools 0 c.in-Before.c c.args.word) (ContextMakesUnsafe pools (Before c.in-Before.c) c.args.word) before after
    (any_text pools c.args.word c.in-Before.c) c.in_ok-gather_last_of-in-Before.ensures)
