use Rattle.std.proofs.Common.{◌≡◌, ℕ, ◌+◌, ◌-◌, ◌*◌, ◌<◌, List, map, ◌∙◌, arith, rules, ⊎_elim}
use Rattle.std.specs.Prelude.{slice_index, IsTrue}
use Rattle.std.proofs.lemmas.Bool.{cases_lt}
use Rattle.icu_codepointtrie.specs.Layouts.{IsLastRun}
use Rattle.icu_codepointtrie.proofs.builder.layout.end_of_blocks.Goals as goal

-- a block before the last run that has the same value joins it
IsLastRun-back : (values : List ℕ) (block next : ℕ) → block + 1 ≡ next → IsLastRun values next → ((i : ℕ) → i < 512 → slice_index values (block * 512 + i) ≡ slice_index values 0x10_FFFF) → IsLastRun values block
IsLastRun-back values block next is run same c low high =
    ⊎_elim
    (λ below.
    let i : ℕ = c - block * 512 in
    let sum : block * 512 + i ≡ c = omega arith in
    rw sum at (same i (omega arith)))
    (λ above. run c above high)
    (cases_lt c (next * 512))

pub loop-back-preserved : goal.loop-back-preserved
loop-back-preserved g c =
    let block : ℕ = 2175 - c.loop-back.back in
    let here : 2176 - (c.loop-back.back + 1) ≡ block = omega arith in
    let yes : IsTrue c.has_only.result = search rules in
    rw here (IsLastRun-back (map g.T.TrieValue.number c.args.values.now) block (2176 - c.loop-back.back) (omega arith) c.loop-back.invariant
    (λ i h. c.has_only.ensures.0 yes i h ∙ c.number_at-last.ensures))
