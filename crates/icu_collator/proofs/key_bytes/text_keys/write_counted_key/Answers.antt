use Rattle.std.proofs.Common.{◌∙◌, ◌≡◌, [], false, true, refl, subst, sym}
use mathlib.Core.Bool.{true≢false}
use Rattle.icu_normalizer_core.specs.Canonical.{IsCanonical, decomposed}
use Rattle.icu_normalizer_core.specs.CanonicalMeaning.{meaning}
use Rattle.icu_collator_types.specs.Options.{is_at_least}
use Rattle.icu_collator_types.specs.declared.options.Strength.TheVariants.{Identical}
use Rattle.icu_collator_core.proofs.meaning.AcceptedWeightLemmas.{accepted_weights}
use Rattle.icu_collator.specs.Collators.{source_collation}
use Rattle.icu_collator.specs.TextsRead.{IsReadOf}
use Rattle.icu_collator.proofs.key_writing.ReadKeyLemmas.{read_is_sound, read_key}
use Rattle.icu_collator.proofs.key_bytes.text_keys.write_counted_key.Goals as goal

pub write_exact_key-requires : goal.write_exact_key-requires
write_exact_key-requires g c =
    let source = c.args.checked.now in
    let collation = source_collation source in
    let text = g.T.Characters.characters c.args.text in
    let sound = accepted_weights (meaning source.canonical) source.tables c.keep_promise.ensures in
    let canonical : IsCanonical (meaning source.canonical) = subst (λ tables. IsCanonical (meaning tables)) c.canonical.ensures c.keep_promise-2.ensures in
    read_is_sound collation c.args.options.now text c.args.elements.now (decomposed collation.canonical text) c.args.variable_end
    (record { elements = c.requires.elements; characters = λ exact. refl }) canonical.decomposing sound c.requires.scalars

pub write_whole_key-requires : goal.write_whole_key-requires
write_whole_key-requires g c =
    let source = c.args.checked.now in
    let collation = source_collation source in
    let text = g.T.Characters.characters c.args.text in
    let sound = accepted_weights (meaning source.canonical) source.tables c.keep_promise.ensures in
    let canonical : IsCanonical (meaning source.canonical) = subst (λ tables. IsCanonical (meaning tables)) c.canonical.ensures c.keep_promise-2.ensures in
    read_is_sound collation c.args.options.now text c.args.elements.now (decomposed collation.canonical text) c.args.variable_end
    (record { elements = c.requires.elements; characters = λ exact. refl }) canonical.decomposing sound c.requires.scalars

pub returns-then-is_at_least : goal.returns-then-is_at_least
returns-then-is_at_least g c =
    let collation = source_collation c.args.checked.now in
    let text = g.T.Characters.characters c.args.text in
    read_key collation c.args.options.now text c.args.elements.now (decomposed collation.canonical text) c.args.variable_end
    (record { elements = c.requires.elements; characters = λ exact. refl })
    c.args.key.now.items c.write_exact_key.new.key.items c.requires.empty c.in_ok-write_exact_key.ensures

pub returns : goal.returns
returns g c =
    let collation = source_collation c.args.checked.now in
    let options = c.args.options.now in
    let text = g.T.Characters.characters c.args.text in
    let never : is_at_least options.strength Identical ≡ false = sym c.is_at_least.ensures ∙ c.if-is_at_least.false in
    let is : IsReadOf collation options text c.args.elements.now c.args.variable_end [] =
    record { elements = c.requires.elements; characters = λ exact. absurd (true≢false (sym exact ∙ never)) } in
    read_key collation options text c.args.elements.now [] c.args.variable_end is
    c.args.key.now.items c.write_whole_key.new.key.items c.requires.empty c.in_ok-write_whole_key.ensures
