use Rattle.std.proofs.Common.{⊎_elim, arith}
use Rattle.icu_codepointtrie.proofs.built.PlaneLemmas.{few_wide, few_small}
use Rattle.icu_codepointtrie.proofs.built.UpperBlockLemmas.{upper_blocks-le}
use Rattle.icu_codepointtrie.proofs.planes.get_planes_trie.Goals as goal

pub unreachable-requires : goal.unreachable-requires
unreachable-requires c =
    let map = c.in_ok-map.map in
    ⊎_elim
    (λ memory. cc (c.in-Err-TooLarge.field-0-is, memory))
    (λ large. ⊎_elim
    (λ wide. let few = few_wide map (λ v. v) c.in_ok-map.ensures.all c.in_ok-map.ensures.planes in omega (arith, wide, few))
    (λ small. let few = few_small map (λ v. v) c.in_ok-map.ensures.all c.in_ok-map.ensures.planes in omega (arith, small, few, upper_blocks-le (λ v. v) map.values))
    large.1)
    c.in-Err-TooLarge.ensures.refused
