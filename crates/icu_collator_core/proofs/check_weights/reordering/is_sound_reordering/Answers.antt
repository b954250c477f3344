use Rattle.std.proofs.Common.{sym, ◌∙◌, refl, true, IsTrue}
use Rattle.std.proofs.lemmas.Bool.{false≢true}
use Rattle.icu_collator_core.proofs.weights.ReorderedHalfLemmas.{halves_alike, halves_apart, steady_halves, tests_keep_apart, tests_keep_compressible, tests_keep_others}
use Rattle.icu_collator_core.proofs.check_weights.reordering.is_sound_reordering.Goals as goal

pub returns-then-not-are_steady_halves : goal.returns-then-not-are_steady_halves
returns-then-not-are_steady_halves c = (
  λ yes. absurd (false≢true yes),
  λ sound. c.if-not-are_steady_halves.ensures.1 (steady_halves c.args.reordering.now sound.apart sound.others),
)

pub returns-then-not-are_all_apart : goal.returns-then-not-are_all_apart
returns-then-not-are_all_apart c =
    (λ yes. absurd (false≢true yes), λ sound. c.if-not-are_all_apart.ensures.1 (halves_apart c.args.reordering.now sound.apart))

pub returns : goal.returns
returns c =
    let yes : IsTrue true = refl
    in let steady = c.if-not-are_steady_halves.ensures.0 yes
    in let apart = c.if-not-are_all_apart.ensures.0 yes
    in (
      λ alike. record {
        count = sym c.len.ensures ∙ c.if-len-ne-BYTE_COUNT.false;
        apart = tests_keep_apart c.args.reordering.now steady apart;
        others = tests_keep_others c.args.reordering.now steady;
        compressible = tests_keep_compressible c.args.special.now c.args.reordering.now steady (c.are_alike.ensures.0 alike);
      },
      λ sound. c.are_alike.ensures.1 (halves_alike c.args.special.now c.args.reordering.now sound.compressible),
    )
