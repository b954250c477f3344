use Rattle.std.proofs.Common.{arith}
use Rattle.std.proofs.lemmas.Bool.Decides.{nat_tests}
use Rattle.std.proofs.lemmas.List.{nil_from_length}
use Rattle.icu_normalizer.proofs.passed.FormTextLemmas.{utf8_at_end}
use Rattle.icu_normalizer.proofs.text_sources.bytes.RefSliceU8Text.is_at_end.Goals as goal

pub returns : goal.returns
returns c = (
  λ yes. utf8_at_end c.args.self.now (nil_from_length c.args.self.now (grind (arith, nat_tests))),
  λ end. let none = end.0 in grind (arith, nat_tests),
)
