use Rattle.std.proofs.Common.{ℕ, List, ap, ◌∙◌}
use Rattle.std.specs.Cmp.Lexicographic.{slice_cmp}
use Rattle.std.specs.Ordering.{nat_cmp}
use Rattle.icu_normalizer_core.specs.Decoding.{utf8_chars}
use Rattle.icu_collator.specs.CollatorAnswers.{key_by}
use Rattle.examples_uses.proofs.keys.order_of_keys.Goals as goal

pub returns : goal.returns
returns c =
    c.cmp.ensures
    ∙ ap (λ (k : List ℕ). slice_cmp nat_cmp k c.in_ok-right_key.right_key.items) c.in_ok-left_key.ensures
    ∙ ap (λ (k : List ℕ). slice_cmp nat_cmp (key_by c.args.collator.now (utf8_chars c.args.left.now)) k) c.in_ok-right_key.ensures
