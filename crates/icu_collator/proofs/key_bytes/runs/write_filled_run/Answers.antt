use Rattle.std.proofs.Common.{◌≡◌, ◌/◌, ◌%◌, ◌+◌, ◌-◌, ◌++◌, [], ◌∷◌, ◌∙◌, cond, replicate, ap, sym, arith, append_assoc, append-nil}
use Rattle.std.proofs.lemmas.List.{replicate-append-replicate}
use Rattle.icu_collator.proofs.key_bytes.runs.write_filled_run.Goals as goal

pub loop-init : goal.loop-init
loop-init c = sym (append-nil c.args.key.now.items)

pub loop-preserved : goal.loop-preserved
loop-preserved c =
    let key = c.args.key.now.items in
    let middle = c.args.bytes.middle in
    let before = replicate c.loop.counter middle in
    c.in_ok-push.ensures.ok ∙ ap (λ l. l ++ middle ∷ []) c.loop.invariant ∙ append_assoc key before (middle ∷ [])
    ∙ ap (λ l. key ++ l) (replicate-append-replicate c.loop.counter 1 middle)

pub returns : goal.returns
returns c =
    let key = c.args.key.now.items in
    let middle = c.args.bytes.middle in
    let more = c.args.more in
    let most = c.args.bytes.most in
    let is_below = c.args.is_below_next in
    let is_most : c.from-most.result ≡ most = c.from-most.ensures in
    let last : c.loop.counter ≡ more / c.from-most.result = let end = c.loop-test.false in let within = c.loop.auto.counter-end in omega (arith, end, within) in
    c.in_ok-push-2.ensures.ok
    ∙ ap (λ b. c.loop.key.items ++ b ∷ []) (c.last_byte.ensures ∙ ap (λ m. cond is_below (c.args.bytes.high - more % m) (c.args.bytes.low + more % m)) is_most)
    ∙ ap (λ l. l ++ cond is_below (c.args.bytes.high - more % most) (c.args.bytes.low + more % most) ∷ [])
    (c.loop.invariant ∙ ap (λ n. key ++ replicate n middle) (last ∙ ap (λ m. more / m) is_most))
