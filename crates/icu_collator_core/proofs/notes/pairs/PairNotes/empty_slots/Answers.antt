use Rattle.std.proofs.Common.{All, List, inl, subst, sym}
use Rattle.std.proofs.lemmas.List.Elements.{All-nil, All-push}
use Rattle.icu_collator_core.specs.Pairs.{IsPairNote}
use Rattle.icu_collator_core.specs.declared.notes.pairs.PairNote.{PairNote}
use Rattle.icu_collator_core.proofs.notes.pairs.PairNotes.empty_slots.Goals as goal

pub loop-slot-init : goal.loop-slot-init
loop-slot-init c = λ source. subst (λ (notes : List PairNote). All (IsPairNote source) notes) (sym c.new-slots.ensures.items) (All-nil (IsPairNote source))

pub loop-slot-preserved : goal.loop-slot-preserved
loop-slot-preserved c = λ source.
    subst (λ (notes : List PairNote). All (IsPairNote source) notes) (sym c.in_ok-push.ensures.items)
    (All-push (IsPairNote source) c.loop-slot.slots.items c.args.none.now (c.loop-slot.invariant source) (inl c.requires))
