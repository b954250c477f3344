use Rattle.std.proofs.Common.{◌<◌, ◌-◌, ◌+◌, ◌/◌, ◌%◌, ◌++◌, [], ◌∷◌, ◌∙◌, cond, replicate, ap, sym, arith, append-nil, append_assoc}
use Rattle.icu_collator.specs.KeyBytes.{run_bytes}
use Rattle.icu_collator.specs.KeyCodes.{code_of}
use Rattle.icu_collator.proofs.key_writing.RankedRunLemmas.{filled_run}
use Rattle.icu_collator.proofs.key_bytes.runs.write_run.Goals as goal

pub returns-then-count-eq0 : goal.returns-then-count-eq0
unfolding run_bytes
returns-then-count-eq0 c =
    let key = c.args.key.now.items in
    sym (ap (λ n. key ++ run_bytes (code_of c.args.level) c.args.is_below_next n) c.if-count-eq0.true ∙ append-nil key)

pub returns : goal.returns
returns c =
    let key = c.args.key.now.items in
    let code = code_of c.args.level in
    let is_below = c.args.is_below_next in
    let more = c.args.count - 1 in
    let bytes = c.run_bytes.result in
    let is = c.run_bytes.ensures in
    let some : 0 < c.args.count = let other = c.if-count-eq0.false in omega (arith, other) in
    c.in_ok-write_filled_run.ensures
    ∙ append_assoc key (replicate (more / bytes.most) bytes.middle) (cond is_below (bytes.high - more % bytes.most) (bytes.low + more % bytes.most) ∷ [])
    ∙ ap (λ m. key ++ (replicate (more / m) bytes.middle ++ cond is_below (bytes.high - more % m) (bytes.low + more % m) ∷ [])) is.most
    ∙ ap (λ b. key ++ (replicate (more / code.most) b ++ cond is_below (bytes.high - more % code.most) (bytes.low + more % code.most) ∷ [])) is.middle
    ∙ ap (λ b. key ++ (replicate (more / code.most) code.middle ++ cond is_below (b - more % code.most) (bytes.low + more % code.most) ∷ [])) is.high
    ∙ ap (λ b. key ++ (replicate (more / code.most) code.middle ++ cond is_below (code.high - more % code.most) (b + more % code.most) ∷ [])) is.low
    ∙ ap (λ l. key ++ l) (sym (filled_run code is_below c.args.count some))
