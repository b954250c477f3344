use Rattle.std.proofs.Common.{◌≡◌, ℕ, sym, ◌∙◌}
use Rattle.icu_collator_core.specs.TableMeaning.{pools_of}
use Rattle.icu_collator_core.specs.UnsafeWords.{ReadingGives}
use Rattle.icu_collator_core.specs.declared.check.walks.Reading.TheVariants.{Whole}
use Rattle.icu_collator_core.proofs.apart.GrowthLemmas.{grown_same}
use Rattle.icu_collator_core.proofs.unsafe_characters.context_texts.gather_met.Goals as goal

pub returns : goal.returns
returns c =
    let met = c.args.met in
    grown_same (λ (d : ℕ). d ≡ met.character) (ReadingGives (pools_of c.args.source.now) c.args.test.now.many (Whole met) c.args.word)
    c.args.characters.now.items c.gather_character.new.characters.items
    (λ d. (λ e. (sym c.has_elements.ensures ∙ c.if-not-has_elements.false, sym c.passes.ensures ∙ c.if-not-passes.false, e), λ w. w.2))
    c.in_ok-gather_character.ensures
