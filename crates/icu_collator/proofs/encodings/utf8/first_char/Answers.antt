use Rattle.std.proofs.Common.{◌≡◌, ◌∙◌, [], sym}
use Rattle.std.proofs.lemmas.Bool.Decides.{Decides-eqb}
use Rattle.std.proofs.lemmas.List.{nil_from_length}
use Rattle.icu_normalizer.proofs.passed.FormTextLemmas.{utf8_at_end}
use Rattle.icu_collator.proofs.encodings.utf8.first_char.Goals as goal

pub returns-then-is_empty : goal.returns-then-is_empty
returns-then-is_empty c =
    let bytes = c.args.bytes.now in
    let none : bytes ≡ [] = nil_from_length bytes ((Decides-eqb _ 0).0 (sym c.is_empty.ensures ∙ c.if-is_empty.true)) in
    (utf8_at_end bytes none).1
