use Rattle.std.proofs.Common.{◌≡◌, ◌<◌, ◌≤◌, ℕ, true, arith, get_or, inl, inr, length, rules, subst}
use Rattle.std.proofs.lemmas.Bool.{cases_lt}
use Rattle.std.proofs.lemmas.List.{get_or_read}
use Rattle.icu_collator_core.specs.AlikeLists.{IsToldAt}
use Rattle.icu_collator_core.specs.ReadSources.{weights_by}
use Rattle.icu_collator_core.proofs.lookups.MatchLemmas.{scalars_front}
use Rattle.icu_collator_core.proofs.readings.ToldListLemmas.{told_alone}
use Rattle.icu_collator_core.proofs.reading.prefixes.is_told_alone.Goals as goal

pub loop-index-preserved : goal.loop-index-preserved
loop-index-preserved c = λ numeric k less.
    let weights = weights_by numeric c.args.sound.now in
    let list = c.args.list.now in
    let index = c.loop-index.index in
    let x = c.index-list-index.result in
    let inside : index < length list = search rules in
    let told : c.is_told.result ≡ true = search rules in
    elim (cases_lt k index) [
      | inl below ↦ c.loop-index.invariant numeric k below
      | inr above ↦
          let same : index ≡ k = omega (arith, less, above) in
          subst (λ (j : ℕ). IsToldAt weights list j (get_or list j 0)) same
          (subst (λ (d : ℕ). IsToldAt weights list index d) (get_or_read list index x inside c.index-list-index.is 0)
          (c.is_told.ensures told weights x (c.checked_word.ensures numeric) (scalars_front index list c.requires)))
    ]

pub returns : goal.returns
returns c = λ _ numeric.
    told_alone (weights_by numeric c.args.sound.now) c.args.list.now
    (λ k less. c.loop-index.invariant numeric k (let end : length c.args.list.now ≤ c.loop-index.index = search rules in omega (arith, less, end)))
