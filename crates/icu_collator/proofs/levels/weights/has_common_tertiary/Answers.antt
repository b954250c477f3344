use Rattle.std.proofs.Common.{◌≡◌, ◌∙◌, Some, ap, false, refl, sym}
use Rattle.std.proofs.lemmas.Bool.{eqb-true}
use Rattle.icu_collator_types.specs.Options.{has_case_bits}
use Rattle.icu_collator_types.specs.declared.elements.Element.{Element}
use Rattle.icu_collator_types.specs.declared.options.ResolvedCollatorOptions.{ResolvedCollatorOptions}
use Rattle.icu_collator_core.specs.Pools.{element_of}
use Rattle.icu_collator.specs.LevelLists.{counted_of}
use Rattle.icu_collator.specs.Levels.{tertiary_at}
use Rattle.icu_collator.specs.Shifted.{whole}
use Rattle.icu_collator.proofs.levels.weights.has_common_tertiary.Goals as goal

common_tertiary : (options : ResolvedCollatorOptions) (e : Element) → e.tertiary ≡ 0x500 → has_case_bits options ≡ false
    → tertiary_at options (whole e) ≡ Some 0x500
common_tertiary options e is none = rw (is, none) refl

pub returns-in-Whole : goal.returns-in-Whole
returns-in-Whole c = λ common options none.
    ap (λ e. tertiary_at options (counted_of e)) c.in-Whole.is
    ∙ common_tertiary options (element_of c.in-Whole.element) (sym c.tertiary_of.ensures ∙ eqb-true _ _ common ∙ c.from.ensures) none
