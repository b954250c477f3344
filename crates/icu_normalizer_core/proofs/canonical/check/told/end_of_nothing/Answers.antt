use Rattle.std.proofs.Common.{◌≤◌, arith, rules}
use Rattle.icu_normalizer_core.proofs.built.GapFacts.{nothing_below_tibetan, nothing_below_jamo, nothing_below_kana, nothing_below_syllables, nothing_below_halfwidth, nothing_past}
use Rattle.icu_normalizer_core.proofs.canonical.check.told.end_of_nothing.Goals as goal

pub returns-in-837-to-3952-clause-nothing : goal.returns-in-837-to-3952-clause-nothing
returns-in-837-to-3952-clause-nothing c =
    let from : 837 ≤ c.args.code = search rules in
    λ d low high. nothing_below_tibetan d (omega (arith, from, low)) high

pub returns-in-3970-to-4351-clause-nothing : goal.returns-in-3970-to-4351-clause-nothing
returns-in-3970-to-4351-clause-nothing c =
    let from : 3970 ≤ c.args.code = search rules in
    λ d low high. nothing_below_jamo d (omega (arith, from, low)) high

pub returns-in-4608-to-12440-clause-nothing : goal.returns-in-4608-to-12440-clause-nothing
returns-in-4608-to-12440-clause-nothing c =
    let from : 4608 ≤ c.args.code = search rules in
    λ d low high. nothing_below_kana d (omega (arith, from, low)) high

pub returns-in-12443-to-44031-clause-nothing : goal.returns-in-12443-to-44031-clause-nothing
returns-in-12443-to-44031-clause-nothing c =
    let from : 12443 ≤ c.args.code = search rules in
    λ d low high. nothing_below_syllables d (omega (arith, from, low)) high

pub returns-in-55204-to-65437-clause-nothing : goal.returns-in-55204-to-65437-clause-nothing
returns-in-55204-to-65437-clause-nothing c =
    let from : 55204 ≤ c.args.code = search rules in
    λ d low high. nothing_below_halfwidth d (omega (arith, from, low)) high

pub returns-in-65536-to-1114111-clause-nothing : goal.returns-in-65536-to-1114111-clause-nothing
returns-in-65536-to-1114111-clause-nothing c =
    let from : 65536 ≤ c.args.code = search rules in
    λ d low high. nothing_past d (omega (arith, from, low)) high
