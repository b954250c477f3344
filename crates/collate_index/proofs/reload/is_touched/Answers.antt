use Rattle.std.proofs.Common.{◌∙◌, ℕ, Bool, false, List, length, subst, sym}
use Rattle.std.specs.List.{All}
use Rattle.std.proofs.lemmas.Iterator.Consumers.{YieldsList-end, YieldsList-from_first, YieldsList-turn}
use Rattle.std.proofs.lemmas.List.Elements.{All-map, All-push}
use Rattle.icu_normalizer_core.specs.Decoding.{utf8_chars}
use Rattle.collate_records.specs.Differences.{TwoFiles}
use Rattle.collate_index.specs.Changes.{Tells}
use Rattle.collate_index.proofs.reloading.KnownLemmas.{told_none, told_one}
use Rattle.collate_index.proofs.reload.is_touched.Goals as goal

pub returns-then-branch-clause-touched : goal.returns-then-branch-clause-touched
returns-then-branch-clause-touched c =
    let files : TwoFiles = c.args.changes.now in
    let text : List ℕ = utf8_chars c.args.name.now in
    let told : Tells files c.in-Some.c c.in_ok-reaches_changed.field-0 =
    subst (λ (fs : TwoFiles). Tells fs c.in-Some.c c.in_ok-reaches_changed.field-0) c.loop-c.invariant.same c.in_ok-reaches_changed.ensures.tells in
    let turn = YieldsList-turn (YieldsList-from_first (λ (x : ℕ). x) (λ (rest : List ℕ). rest) text (c.into_iter-c-iterator.ensures.into_iter_gives ∙ c.decode_utf8-c-items.ensures.chars)) c.loop-c.yielded _ c.loop-c.yielded_by _ _ c.in-Some.c c.in-Some.is c.next.ensures.steps in
    told_one files text c.in-Some.c (length c.loop-c.yielded, turn.0, sym turn.1) (subst (λ (is : Bool). Tells files c.in-Some.c is) c.if-branch.true told)

pub loop-c-preserved : goal.loop-c-preserved
loop-c-preserved c =
    let files : TwoFiles = c.args.changes.now in
    let told : Tells files c.in-Some.c c.in_ok-reaches_changed.field-0 =
    subst (λ (fs : TwoFiles). Tells fs c.in-Some.c c.in_ok-reaches_changed.field-0) c.loop-c.invariant.same c.in_ok-reaches_changed.ensures.tells in
    record {
      same = c.reaches_changed.ensures.same ∙ c.loop-c.invariant.same;
      none =
          All-push (λ (x : ℕ). Tells files x false) c.loop-c.yielded c.in-Some.c c.loop-c.invariant.none
          (subst (λ (is : Bool). Tells files c.in-Some.c is) c.if-branch.false told);
    }

pub returns-clause-touched : goal.returns-clause-touched
returns-clause-touched c =
    let files : TwoFiles = c.args.changes.now in
    let text : List ℕ = utf8_chars c.args.name.now in
    let Each : ℕ → Type 0 = λ x. Tells files x false in
    let ended = YieldsList-end (YieldsList-from_first (λ (x : ℕ). x) (λ (rest : List ℕ). rest) text (c.into_iter-c-iterator.ensures.into_iter_gives ∙ c.decode_utf8-c-items.ensures.chars)) c.loop-c.yielded _ c.loop-c.yielded_by _ _ c.in-None.is c.next.ensures.steps in
    told_none files text (subst (All Each) ended.0 (All-map Each (λ (x : ℕ). x) c.loop-c.yielded c.loop-c.invariant.none))
