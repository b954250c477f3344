use Rattle.std.proofs.Common.{Result, Ok, Err, OnErr, sym, ap, arith}
use Rattle.icu_normalizer_core.specs.Run.{reordered, data_of}
use Rattle.icu_normalizer_core.proofs.decomposed_lists.RunLemmas.{out, out_sorted}
use Rattle.icu_normalizer_core.proofs.decomposition.run.Run.finish.Goals as goal

pub returns-clause-output : goal.returns-clause-output
unfolding reordered
returns-clause-output c =
    let b = c.args.self.now in
    out_sorted (data_of b).class b.chars.items _ b.next b.ready _ b.taken b.within c.in_ok-sort_marks.ensures.ok (omega arith)

-- what holds holds after an error
after_error : {T E : Type 0} (P : Type 0) (r : Result T E) → P → OnErr r P
after_error P (Ok x) p = tt
after_error P (Err e) p = p

pub returns-in_err-sort_marks-clause-err : goal.returns-in_err-sort_marks-clause-err
unfolding reordered
returns-in_err-sort_marks-clause-err c =
    let b = c.args.self.now in
    let same = c.in_err-sort_marks.ensures.err in
    after_error _ c.from_residual.result (
      record { at = λ rest. ap (λ l. out (data_of b).class l b.next b.ready rest) (sym same) },
      omega (arith, c.in_err-sort_marks.ensures.len),
    )
