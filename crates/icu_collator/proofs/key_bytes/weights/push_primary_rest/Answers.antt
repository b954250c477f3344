use Rattle.std.proofs.Common.{◌++◌, ◌∙◌, [], ◌∷◌, ◌/◌, ◌^◌, sym, ap, append-nil, append_assoc, bit_and}
use Rattle.icu_collator.proofs.key_writing.WeightWrittenLemmas.{none_behind, one_behind, two_behind, three_behind}
use Rattle.icu_collator.proofs.key_bytes.weights.push_primary_rest.Goals as goal

pub returns-then-primary-eq0 : goal.returns-then-primary-eq0
returns-then-primary-eq0 c =
    let key = c.args.key.now.items in
    sym (ap (λ l. key ++ l) (none_behind c.args.primary c.if-primary-eq0.true) ∙ append-nil key)

pub returns-then-primary-eq0-2 : goal.returns-then-primary-eq0-2
returns-then-primary-eq0-2 c =
    let key = c.args.key.now.items in
    c.in_ok-push.ensures.ok ∙ sym (ap (λ l. key ++ l) (one_behind c.args.primary c.if-primary-eq0.false c.if-primary-eq0-2.true))

pub returns-then-primary-eq0-3 : goal.returns-then-primary-eq0-3
returns-then-primary-eq0-3 c =
    let key = c.args.key.now.items in
    let p = c.args.primary in
    let first = bit_and (p / 2 ^ 16) 0xff ∷ [] in
    let second = bit_and (p / 2 ^ 8) 0xff ∷ [] in
    c.in_ok-push-2.ensures.ok ∙ ap (λ l. l ++ second) c.in_ok-push.ensures.ok ∙ append_assoc key first second
    ∙ sym (ap (λ l. key ++ l) (two_behind p c.if-primary-eq0-2.false c.if-primary-eq0-3.true))

pub returns : goal.returns
returns c =
    let key = c.args.key.now.items in
    let p = c.args.primary in
    let first = bit_and (p / 2 ^ 16) 0xff ∷ [] in
    let second = bit_and (p / 2 ^ 8) 0xff ∷ [] in
    let third = bit_and p 0xff ∷ [] in
    c.in_ok-push-3.ensures.ok ∙ ap (λ l. l ++ third) (c.in_ok-push-2.ensures.ok ∙ ap (λ l. l ++ second) c.in_ok-push.ensures.ok ∙ append_assoc key first second)
    ∙ append_assoc key (first ++ second) third
    ∙ sym (ap (λ l. key ++ l) (three_behind p c.if-primary-eq0-3.false))
