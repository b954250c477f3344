use Rattle.std.proofs.Common.{◌++◌, ◌∙◌, ◌<◌, All, ap, subst, sym}
use Rattle.icu_collator.specs.KeyCodes.{halves_of}
use Rattle.icu_collator.proofs.key_writing.CaseWrittenLemmas.{cases_have_halves}
use Rattle.icu_collator.proofs.key_bytes.cases.write_cases.Goals as goal

pub write_pairs-requires : goal.write_pairs-requires
write_pairs-requires c =
    let cases = c.args.cases.now in
    let halves = halves_of c.args.is_upper_first cases in
    subst (λ l. All (λ half. half < 16) l)
    (sym (c.as_slice.ensures ∙ c.in_ok-write_halves.ensures ∙ ap (λ l. l ++ halves) c.new-halves.ensures))
    (cases_have_halves c.args.is_upper_first cases c.requires)
