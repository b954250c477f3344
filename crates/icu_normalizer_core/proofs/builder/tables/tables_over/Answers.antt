use Rattle.std.proofs.Common.{◌≡◌, true, false, ⊎_elim, inl, inr, refl, arith}
use Rattle.std.proofs.lemmas.Bool.{false≢true}
use Rattle.icu_normalizer_core.specs.CanonicalMaps.{CanonicalMaps}
use Rattle.icu_normalizer_core.proofs.building.KeptRuleLemmas.{kept_classes, kept_ends, kept_room, kept_starters}
use Rattle.icu_normalizer_core.proofs.builder.tables.tables_over.Goals as goal

pub returns-then-not-are_classes-clause-refused : goal.returns-then-not-are_classes-clause-refused
returns-then-not-are_classes-clause-refused c =
    inr (
      refl,
      λ rules.
          let yes : c.are_classes.result ≡ true = c.are_classes.ensures.1 (kept_classes (record { classes = c.args.classes.now.given.now; mappings = c.args.mappings.now }) rules.rules c.as_slice.result.now) in
          let no = c.if-not-are_classes.true in
          absurd (false≢true (let e : false ≡ true = cc in e)),
    )

pub returns-in-Err-clause-refused : goal.returns-in-Err-clause-refused
returns-in-Err-clause-refused c =
    ⊎_elim (λ memory. inl memory)
    (λ w. inr (
      w.0,
      λ rules.
          ⊎_elim (λ many. let few = rules.few in omega (arith, few, many)) (λ wide. wide (record { wide = rules.room.wide; narrow = rules.room.narrow })) w.1,
    ))
    c.in-Err.ensures.refused

pub returns-then-not-are_starters-clause-refused : goal.returns-then-not-are_starters-clause-refused
returns-then-not-are_starters-clause-refused c =
    inr (
      refl,
      λ rules.
          let yes : c.are_starters.result ≡ true = c.are_starters.ensures.1
          (kept_starters (record { classes = c.args.classes.now.given.now; mappings = c.args.mappings.now }) c.in_ok-steps.steps c.in_ok-steps.ensures.triples c.in_ok-steps.ensures.listed rules.rules) in
          let no = c.if-not-are_starters.true in
          absurd (false≢true (let e : false ≡ true = cc in e)),
    )

pub returns-in-Err-full_lists-clause-refused : goal.returns-in-Err-full_lists-clause-refused
returns-in-Err-full_lists-clause-refused c =
    ⊎_elim (λ memory. inl memory)
    (λ w. inr (
      w.0,
      λ rules.
          let maps : CanonicalMaps = record { classes = c.args.classes.now.given.now; mappings = c.args.mappings.now } in
          ⊎_elim
          (λ bad. kept_ends maps c.in_ok-steps.steps c.in_ok-steps.ensures.triples c.in_ok-steps.ensures.listed rules.rules bad)
          (λ long. kept_room maps c.in_ok-steps.steps c.in_ok-steps.ensures.triples c.in_ok-steps.ensures.listed rules.rules rules.room long)
          w.1,
    ))
    c.in-Err-full_lists.ensures.refused
