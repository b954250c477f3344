use Rattle.std.proofs.Common.{◌≡◌, sym, ◌∙◌, rules}
use Rattle.icu_normalizer_core.proofs.compatible.HarmlessLemmas.{harmless_run}
use Rattle.icu_normalizer_core.proofs.compatibility.check.walk.harmless_end.Goals as goal

pub returns-clause-harmless : goal.returns-clause-harmless
returns-clause-harmless c =
    let same : c.plain_word-canonical.result ≡ c.plain_word-word.result = search rules in
    harmless_run c.args.tables.now c.args.words c.plain_word-word.result c.args.code c.args.end c.end_of_silence.result c.min.result c.requires.run
    (sym c.has_cell.ensures ∙ c.if-not-has_cell.false) (sym c.plain_word-word.ensures) (sym c.plain_word-canonical.ensures ∙ same)
    (λ one. c.requires.letters (c.may_pass.ensures c.if-not-may_pass.false one)) c.end_of_silence.ensures.silent (search rules) (search rules)
