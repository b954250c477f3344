use Rattle.std.proofs.Common.{sym, subst, List, ℕ, IfOk}
use Rattle.icu_normalizer_core.specs.BorrowedMeaning.{borrowed_meaning}
use Rattle.icu_collator_core.specs.Decomposing.{Appends}
use Rattle.icu_collator_core.proofs.readings.DecomposingLemmas.{low_itself, low_starter}
use Rattle.icu_collator_core.proofs.reading.decomposing.push_decomposed.Goals as goal

pub push_classed-requires-clause-class : goal.push_classed-requires-clause-class
push_classed-requires-clause-class c = sym (low_starter (borrowed_meaning c.args.canonical) c.args.c c.keep_promise.ensures c.if-c-lt160.true)

pub returns-then-c-lt160 : goal.returns-then-c-lt160
returns-then-c-lt160 c =
    let canonical = borrowed_meaning c.args.canonical in
    subst (λ (read : List ℕ). IfOk c.push_classed.result (λ next. Appends canonical.class c.args.list.now.items c.args.ready read c.push_classed.new.list.items next))
    (sym (low_itself canonical c.args.c c.keep_promise.ensures c.if-c-lt160.true)) c.push_classed.ensures
