use Rattle.std.proofs.Common.{ap, ap₂, chars, encode_utf8_all, subst, sym, take, ◌-◌, ◌∙◌}
use Rattle.std.specs.Str.{IsCharBoundary}
use Rattle.icu_normalizer.proofs.passed.FormTextLemmas.{part_before, str_cut, str_reads}
use Rattle.icu_normalizer.proofs.text_sources.known.RefStrText.split_before.Goals as goal

pub split_at-requires : goal.split_at-requires
split_at-requires c =
    let behind = c.requires.1 in
    subst (IsCharBoundary c.args.self.now) (ap₂ (λ x y. x - y) (sym c.len.ensures) (sym c.len-2.ensures)) (str_cut c.args.self.now (encode_utf8_all c.requires.0) c.args.rest.now behind.units c.utf8.rest)

pub returns-clause-front : goal.returns-clause-front
returns-clause-front c prefix behind =
    let front = part_before c.args.self.now _ c.args.rest.now behind.units _ (c.split_at.ensures.front ∙ ap₂ (λ x y. take (x - y) c.args.self.now) c.len.ensures c.len-2.ensures) in
    (front, ap chars front ∙ str_reads prefix behind.scalars)
