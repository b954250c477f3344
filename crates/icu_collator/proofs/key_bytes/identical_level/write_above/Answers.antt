use Rattle.std.proofs.Common.{◌++◌, ◌∙◌, [], ◌∷◌, ap, sym}
use Rattle.icu_collator.specs.KeyBytes.{difference_digit, moved_by}
use Rattle.icu_collator.proofs.key_writing.CharacterWrittenLemmas.{near, high, higher, highest}
use Rattle.icu_collator.proofs.key_writing.CodesWrittenLemmas.{two_pieces}
use Rattle.icu_collator.proofs.key_bytes.identical_level.write_above.Goals as goal

pub returns-then-c-near : goal.returns-then-c-near
returns-then-c-near c =
    c.in_ok-push.ensures.ok ∙ ap (λ b. c.args.key.now.items ++ b ∷ []) c.moved_by.ensures
    ∙ ap (λ l. c.args.key.now.items ++ l) (sym (near c.args.near c.args.c c.requires.above c.if-c-near.true))

pub returns-then-c-near-2 : goal.returns-then-c-near-2
returns-then-c-near-2 c =
    two_pieces c.args.key.now.items (moved_by 210 253 c.args.near c.args.c ∷ []) (difference_digit 1 c.args.near c.args.c ∷ []) _
    c.push-then-c-near-2.new.self.items c.push-then-c-near-2-2.new.self.items
    (c.in_ok-push-2.ensures.ok ∙ ap (λ b. c.args.key.now.items ++ b ∷ []) c.moved_by-then-c-near-2.ensures)
    (c.in_ok-push-3.ensures.ok ∙ ap (λ b. c.push-then-c-near-2.new.self.items ++ b ∷ []) c.difference_digit.ensures)
    (high c.args.near c.args.c c.if-c-near.false c.if-c-near-2.true)

pub returns-then-c-near-3 : goal.returns-then-c-near-3
returns-then-c-near-3 c =
    two_pieces c.args.key.now.items (moved_by 252 64009 c.args.near c.args.c ∷ []) _ _ c.push-then-c-near-3.new.self.items c.write_two_digits.new.key.items
    (c.in_ok-push-4.ensures.ok ∙ ap (λ b. c.args.key.now.items ++ b ∷ []) c.moved_by-then-c-near-3.ensures) c.in_ok-write_two_digits.ensures
    (higher c.args.near c.args.c c.if-c-near-2.false c.if-c-near-3.true)

pub returns : goal.returns
returns c =
    two_pieces c.args.key.now.items (0xff ∷ []) _ _ c.push-2.new.self.items c.write_three_digits.new.key.items
    c.in_ok-push-5.ensures.ok c.in_ok-write_three_digits.ensures (highest c.args.near c.args.c c.if-c-near-3.false)
