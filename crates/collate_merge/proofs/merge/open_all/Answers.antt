use Rattle.std.proofs.Common.{◌≡◌, ◌∙◌, ℕ, ◌+◌, ◌++◌, ◌∷◌, [], arith, get_or, length, subst, sym, ap}
use Rattle.std.proofs.lemmas.Iterator.Adapters.{YieldsList-from_vec}
use Rattle.std.proofs.lemmas.Iterator.Consumers.{YieldsList-end, YieldsList-turn}
use Rattle.std.proofs.lemmas.List.{length_push}
use Rattle.collate_merge.proofs.OpenLemmas.{AreOpened, as_many, known_at, opened_all, opened_more}
use Rattle.collate_merge.proofs.merge.open_all.Goals as goal

pub loop-reader-preserved : goal.loop-reader-preserved
loop-reader-preserved g c =
    let remaining = g.R.Read.remaining in
    let gives = c.into_iter-reader-iterator.ensures.into_iter_gives in
    let turn = YieldsList-turn (YieldsList-from_vec c.args.readers.items gives.0 (omega (arith, gives.1, c.args.readers.ok.0)))
    c.loop-reader.yielded _ c.loop-reader.yielded_by c.next.result c.next.new.self c.in-Some.reader c.in-Some.is c.next.ensures.steps in
    let index : ℕ = length c.loop-reader.yielded in
    let more : length (c.loop-reader.yielded ++ c.in-Some.reader ∷ []) ≡ index + 1 = length_push c.loop-reader.yielded c.in-Some.reader in
    let pushed : c.push.new.self.items ≡ c.loop-reader.sources.items ++ c.in-Ok.source ∷ [] = c.in-Ok-push.ensures.items in
    record {
      long = ap length pushed ∙ length_push c.loop-reader.sources.items c.in-Ok.source ∙ ap (λ (n : ℕ). n + 1) c.loop-reader.invariant.long ∙ sym more;
      opened = λ m files same known.
          subst (λ (n : ℕ). AreOpened remaining m files n c.push.new.self.items) (sym more)
          (subst (AreOpened remaining m files (index + 1)) (sym pushed)
          (opened_more remaining m files index c.loop-reader.sources.items c.in-Ok.source c.loop-reader.invariant.long (c.loop-reader.invariant.opened m files same known)
          (c.in-Ok.ensures.opened m (get_or files index []) same (known_at remaining c.args.readers.items files known index c.in-Some.reader turn.0 turn.1))));
    }

pub returns-clause-opened : goal.returns-clause-opened
returns-clause-opened g c = λ m files same known.
    let remaining = g.R.Read.remaining in
    let gives = c.into_iter-reader-iterator.ensures.into_iter_gives in
    let end = YieldsList-end (YieldsList-from_vec c.args.readers.items gives.0 (omega (arith, gives.1, c.args.readers.ok.0)))
    c.loop-reader.yielded _ c.loop-reader.yielded_by c.next.result c.next.new.self c.in-None.is c.next.ensures.steps in
    let all : length c.loop-reader.yielded ≡ length files = end.1 ∙ as_many remaining c.args.readers.items files known in
    opened_all remaining m files c.loop-reader.sources.items (c.loop-reader.invariant.long ∙ all)
    (subst (λ (n : ℕ). AreOpened remaining m files n c.loop-reader.sources.items) all (c.loop-reader.invariant.opened m files same known))
