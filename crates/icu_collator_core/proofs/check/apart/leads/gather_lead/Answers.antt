use Rattle.std.proofs.Common.{◌≡◌, ◌/◌, ◌^◌, IsTrue, slice_index, subst, sym, ap, ◌∙◌}
use Rattle.icu_collator_types.specs.declared.elements.word_tags.Tag.TheVariants.{Offset}
use Rattle.icu_collator_types.specs.ElementWords.{has_tag}
use Rattle.icu_collator_core.specs.Pools.{index_of}
use Rattle.icu_collator_core.specs.WeightLists.{Grows}
use Rattle.icu_collator_core.proofs.apart.GrowthLemmas.{grown_where}
use Rattle.icu_collator_core.proofs.check.apart.leads.gather_lead.Goals as goal

pub returns : goal.returns
returns c =
    let ces = c.args.source.now.ces in
    let entry = c.entry_at-entry.ensures ∙ ap (slice_index ces) c.index_of.ensures.index in
    grown_where (IsTrue (has_tag Offset c.args.word)) (λ lead. lead ≡ slice_index ces (index_of c.args.word) / 2 ^ 56)
    c.args.leads.now.items c.gather_word.new.words.items (sym c.has_tag.ensures ∙ c.if-not-has_tag.false)
    (subst (λ bits. Grows (λ lead. lead ≡ bits / 2 ^ 56) c.args.leads.now.items c.gather_word.new.words.items) entry c.in_ok-gather_word.ensures)
