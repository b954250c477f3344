use Rattle.std.proofs.Common.{rules, ◌≡◌, ℕ, ◌+◌, ◌*◌, ◌-◌, ◌/◌, ◌%◌, ◌^◌, ◌<◌, length, slice_index, Some, sym, ap, ◌∙◌, arith}
use Rattle.icu_normalizer_core.specs.CanonicalLists.{pair_composed}
use Rattle.icu_normalizer_core.proofs.composed.PairLemmas.{listed_pair_of, unlisted_pair_between}
use Rattle.icu_normalizer_core.proofs.canonical.pairs.listed_pair.Goals as goal

pub returns-then-index-count : goal.returns-then-index-count
returns-then-index-count c =
    let below : 0 < c.first_past-index.result → slice_index c.args.pairs.now (c.first_past-index.result - 1) / 2 ^ 21 < c.args.first * 2 ^ 21 + c.args.second = λ h. let w = c.first_past-index.ensures.before h in search rules in
    sym (unlisted_pair_between c.args.pairs.now c.args.first c.args.second c.first_past-index.result c.requires.pairs below
    (λ h. let end = c.if-index-count.true in omega arith)
    (let bound = c.first_past-index.ensures.bound in omega arith))

pub returns-then-pair-key : goal.returns-then-pair-key
returns-then-pair-key c =
    let item : c.at-pair.result ≡ slice_index c.args.pairs.now c.first_past-index.result = c.at-pair.ensures.item 0 in
    let here : c.first_past-index.result < length c.args.pairs.now = omega arith in
    let key : slice_index c.args.pairs.now c.first_past-index.result / 2 ^ 21 ≡ c.args.first * 2 ^ 21 + c.args.second = let e = c.if-pair-key.true in omega (arith, ap (λ (n : ℕ). n / 2 ^ 21) item) in
    let composed : c.unwrap.result ≡ pair_composed (slice_index c.args.pairs.now c.first_past-index.result) =
    let read = rw c.unwrap.ensures at c.from_u32.ensures.value in read.1 ∙ ap (λ (n : ℕ). n % 2 ^ 21) item in
    ap (λ (n : ℕ). Some n) composed ∙ sym (listed_pair_of c.args.pairs.now c.args.first c.args.second c.first_past-index.result c.requires.second c.requires.pairs here key)

pub returns-else-pair-key : goal.returns-else-pair-key
returns-else-pair-key c =
    let below : 0 < c.first_past-index.result → slice_index c.args.pairs.now (c.first_past-index.result - 1) / 2 ^ 21 < c.args.first * 2 ^ 21 + c.args.second = λ h. let w = c.first_past-index.ensures.before h in search rules in
    let item : c.at-pair.result ≡ slice_index c.args.pairs.now c.first_past-index.result = c.at-pair.ensures.item 0 in
    sym (unlisted_pair_between c.args.pairs.now c.args.first c.args.second c.first_past-index.result c.requires.pairs below
    (λ h.
    let past = c.first_past-index.ensures.past (let e = c.len-count.ensures in omega arith) in
    let not_below : slice_index c.args.pairs.now c.first_past-index.result / 2 ^ 21 < c.args.first * 2 ^ 21 + c.args.second → ⊥ = search rules in
    let other = c.if-pair-key.false in omega (arith, not_below, ap (λ (n : ℕ). n / 2 ^ 21) item))
    (let bound = c.first_past-index.ensures.bound in omega arith))
