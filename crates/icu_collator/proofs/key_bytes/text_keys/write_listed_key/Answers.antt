use Rattle.std.proofs.Common.{◌∙◌, ℕ, List, ap, subst, sym}
use Rattle.std.specs.List.{list_all}
use Rattle.icu_normalizer_core.specs.Canonical.{IsCanonical}
use Rattle.icu_normalizer_core.specs.CanonicalMeaning.{meaning}
use Rattle.icu_collator_core.proofs.meaning.AcceptedWeightLemmas.{accepted_weights}
use Rattle.icu_collator.specs.Collators.{source_collation}
use Rattle.icu_collator.specs.LevelLists.{counted_list, has_sound_case}
use Rattle.icu_collator.specs.TextsRead.{IsReadOf}
use Rattle.icu_collator.proofs.key_writing.ReadKeyLemmas.{read_is_sound, read_key}
use Rattle.icu_collator.proofs.key_bytes.text_keys.write_listed_key.Goals as goal

pub write_whole_key-requires : goal.write_whole_key-requires
write_whole_key-requires g c =
    let source = c.args.checked.now in
    let text = g.T.Characters.characters c.args.text in
    let is = c.in_ok-read.ensures text c.chars.ensures.spelled in
    let sound = accepted_weights (meaning source.canonical) source.tables c.keep_promise.ensures in
    let canonical : IsCanonical (meaning source.canonical) = subst (λ tables. IsCanonical (meaning tables)) c.canonical.ensures c.keep_promise-2.ensures in
    ap (λ items. list_all has_sound_case (counted_list c.in_ok-read.read.variable_end items)) c.deref.ensures
    ∙ read_is_sound (source_collation source) c.args.options.now text _ _ _ is canonical.decomposing sound c.chars.ensures.scalars

pub returns : goal.returns
returns g c =
    let text = g.T.Characters.characters c.args.text in
    let is = c.in_ok-read.ensures text c.chars.ensures.spelled in
    read_key (source_collation c.args.checked.now) c.args.options.now text c.deref.result.now c.deref-2.result.now c.in_ok-read.read.variable_end
    (subst (λ (l : List ℕ). IsReadOf (source_collation c.args.checked.now) c.args.options.now text l c.in_ok-read.read.variable_end c.deref-2.result.now) (sym c.deref.ensures)
    (subst (λ (l : List ℕ). IsReadOf (source_collation c.args.checked.now) c.args.options.now text c.in_ok-read.read.elements.items c.in_ok-read.read.variable_end l) (sym c.deref-2.ensures) is))
    c.args.key.now.items c.write_whole_key.new.key.items c.requires c.in_ok-write_whole_key.ensures
