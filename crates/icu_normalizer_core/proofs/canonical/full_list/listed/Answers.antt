use Rattle.std.proofs.Common.{◌+◌, ◌-◌, ◌%◌, ◌<◌, ◌≤◌, ℕ, length, All, sym, subst, arith}
use Rattle.std.specs.Char.{IsScalar}
use Rattle.icu_normalizer_core.specs.CanonicalWords.{items_at, list_offset}
use Rattle.icu_normalizer_core.proofs.full_lists.FullListLemmas.{listed_in_16, listed_in_24}
use Rattle.icu_normalizer_core.proofs.canonical.full_list.listed.Goals as goal

pub part-requires-clause-scalars : goal.part-requires-clause-scalars
part-requires-clause-scalars c =
    let within : list_offset c.args.word < length c.args.words.scalars16.now = let n = c.len-in_16.ensures in let h = c.if-offset-in_16.true in omega arith in
    let e = listed_in_16 c.args.words.scalars16.now c.args.words.scalars24.now c.args.word within in
    subst (All IsScalar) e c.requires.scalars

pub part-requires-else-offset-in_16-clause-scalars : goal.part-requires-else-offset-in_16-clause-scalars
part-requires-else-offset-in_16-clause-scalars c =
    let behind : length c.args.words.scalars16.now ≤ list_offset c.args.word = let n = c.len-in_16.ensures in let h = c.if-offset-in_16.false in omega arith in
    let e = listed_in_24 c.args.words.scalars16.now c.args.words.scalars24.now c.args.word behind in
    let all : All IsScalar _ = subst (All IsScalar) e c.requires.scalars in
    subst (λ (n : ℕ). All IsScalar (items_at c.args.words.scalars24.now (list_offset c.args.word - n) (c.args.word % 16 + 1))) (sym c.len-in_16.ensures) all
