use Rattle.std.proofs.Common.{ℕ, ◌-◌, ◌^◌, ◌≤◌, List, inl, inr, ⊎_elim, refl, sym, subst, ◌∙◌, arith}
use Rattle.std.specs.Prelude.{sum_by}
use Rattle.std.specs.List.{All}
use Rattle.std.specs.Char.{IsScalar}
use Rattle.icu_normalizer_core.specs.declared.builder.mappings.Mappings.{Mappings}
use Rattle.icu_normalizer_core.specs.CanonicalMaps.{CanonicalMaps}
use Rattle.icu_normalizer_core.specs.CanonicalMeaning.{lists_of, meaning}
use Rattle.icu_normalizer_core.specs.CompatibilityFaults.{AreAcceptedWords, IsFirstWordFault}
use Rattle.icu_normalizer_core.specs.CompatibilityMaps.{AllMaps}
use Rattle.icu_normalizer_core.specs.CompatibilityMeaning.{nfkd_lists}
use Rattle.icu_normalizer_core.specs.Settled.{IsAmong}
use Rattle.icu_normalizer_core.specs.SettledMappings.{IsSound, full_room, named_with, steps_in}
use Rattle.icu_normalizer_core.specs.Words.{WordLists}
use Rattle.icu_normalizer_core.proofs.building.CompatibilityTableLemmas.{accepted_over, word_fault_refutes}
use Rattle.icu_normalizer_core.proofs.building.CompatibilityRoomLemmas.{room_breaks}
use Rattle.icu_normalizer_core.proofs.building.CompatibilityRuleLemmas.{bad_left_breaks, built_means, built_words_accepted}
use Rattle.icu_normalizer_core.proofs.building.UnnamedWordLemmas.{kept_on_starters, others_among, others_right}
use Rattle.icu_normalizer_core.proofs.builder.compatibility_tables.compatibility_tables.Goals as goal

pub returns-then-not-kept-clause-refused : goal.returns-then-not-kept-clause-refused
returns-then-not-kept-clause-refused c =
    let maps : AllMaps = record { canonical = record { classes = c.args.classes.now; mappings = c.args.mappings.now }; compatibilities = c.args.given.now } in
    inr (
      refl,
      λ rules.
          c.in_ok-kept.ensures.broken c.if-not-kept.true (record {
            one_mapping = rules.1.rules.one_mapping;
            apart = rules.1.rules.apart;
            starters = kept_on_starters maps (meaning c.args.tables.now) c.requires.means c.requires.given (rules.0.rules, rules.1.rules);
          }),
    )

pub returns-in-Err-clause-refused : goal.returns-in-Err-clause-refused
returns-in-Err-clause-refused c =
    ⊎_elim (λ memory. inl memory) (λ w. inr (
      w.0,
      λ rules.
          ⊎_elim (λ many. let few = rules.1.few in omega (arith, few, many)) (λ wide. wide (record { wide = rules.1.room.wide; narrow = rules.1.room.narrow })) w.1,
    ))
    c.in-Err.ensures.refused

pub word_tables-requires-clause-scalars : goal.word_tables-requires-clause-scalars
word_tables-requires-clause-scalars c = subst (All IsScalar) (sym c.as_slice.ensures.value) c.in-Ok.ensures.scalars

pub word_tables-requires-clause-others : goal.word_tables-requires-clause-others
word_tables-requires-clause-others c =
    let over : Mappings = record { tables = c.args.tables; given = c.args.given } in
    let sound : IsSound over = record { accepted = c.requires.accepted; given = c.requires.given; starters = (c.in_ok-kept.ensures.kept c.if-not-kept.false).starters } in
    others_among (steps_in over) (meaning c.args.tables.now).class (named_with c.args.classes.now c.args.mappings.now c.args.given.now) c.as_slice.result.now
    (λ x h. subst (λ (xs : List ℕ). IsAmong xs x) (sym c.as_slice.ensures.value) (c.in-Ok.ensures.named x h))
    (others_right c.args.classes.now c.args.mappings.now over sound c.requires.means)

pub returns-in-Err-word_tables-clause-refused : goal.returns-in-Err-word_tables-clause-refused
returns-in-Err-word_tables-clause-refused c =
    let over : Mappings = record { tables = c.args.tables; given = c.args.given } in
    let sound : IsSound over = record { accepted = c.requires.accepted; given = c.requires.given; starters = (c.in_ok-kept.ensures.kept c.if-not-kept.false).starters } in
    let canonical : CanonicalMaps = record { classes = c.args.classes.now; mappings = c.args.mappings.now } in
    ⊎_elim
    (λ memory. inl memory)
    (λ w. inr (
      w.0,
      λ rules.
          ⊎_elim
          (λ bad. bad_left_breaks canonical over sound c.requires.means bad (rules.0.rules, rules.1.rules))
          (λ many.
          let listed = c.in-Ok.ensures.listed in
          room_breaks canonical over sound c.requires.means (rules.0.rules, rules.1.rules) rules.1.room listed.named listed.distinct listed.scalars
          (subst (λ (xs : List ℕ). 2 ^ 14 - 1 ≤ sum_by (full_room (steps_in over)) xs) (c.as_slice.ensures.value ∙ listed.is) many))
          w.1,
    ))
    c.in-Err-word_tables.ensures.refused

pub returns-in-None-clause-means : goal.returns-in-None-clause-means
returns-in-None-clause-means c =
    let over : Mappings = record { tables = c.args.tables; given = c.args.given } in
    let sound : IsSound over = record { accepted = c.requires.accepted; given = c.requires.given; starters = (c.in_ok-kept.ensures.kept c.if-not-kept.false).starters } in
    let canonical : CanonicalMaps = record { classes = c.args.classes.now; mappings = c.args.mappings.now } in
    built_means canonical over sound c.requires.means (nfkd_lists c.in-Ok-word_tables.made) c.in-Ok-word_tables.ensures.built

pub returns-in-None-clause-accepted : goal.returns-in-None-clause-accepted
returns-in-None-clause-accepted c =
    let canonical : CanonicalMaps = record { classes = c.args.classes.now; mappings = c.args.mappings.now } in
    accepted_over canonical (lists_of c.args.tables.now) (nfkd_lists c.in-Ok-word_tables.made) c.requires.accepted
    (subst (AreAcceptedWords (lists_of c.args.tables.now)) c.words.ensures c.in-None.ensures) c.requires.means

pub returns-clause-refused : goal.returns-clause-refused
returns-clause-refused c =
    let over : Mappings = record { tables = c.args.tables; given = c.args.given } in
    let sound : IsSound over = record { accepted = c.requires.accepted; given = c.requires.given; starters = (c.in_ok-kept.ensures.kept c.if-not-kept.false).starters } in
    let canonical : CanonicalMaps = record { classes = c.args.classes.now; mappings = c.args.mappings.now } in
    inr (
      refl,
      λ rules.
          word_fault_refutes (lists_of c.args.tables.now) (nfkd_lists c.in-Ok-word_tables.made) c.in-Some.field-0
          (subst (λ (words : WordLists). IsFirstWordFault (lists_of c.args.tables.now) words c.in-Some.field-0) c.words.ensures c.in-Some.ensures)
          (built_words_accepted canonical over sound c.requires.means (nfkd_lists c.in-Ok-word_tables.made) c.in-Ok-word_tables.ensures.built (rules.0.rules, rules.1.rules)),
    )
