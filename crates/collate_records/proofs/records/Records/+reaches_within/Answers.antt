use Rattle.std.proofs.Common.{ℕ, ◌<◌, Bool, false, [], ◌∷◌, All, sym, subst, arith}
use Rattle.std.proofs.lemmas.Bool.{MatchBool-at_false, OnFalse_from, OnTrue_at, OnTrue_from}
use Rattle.collate_rules.specs.Meaning.{step_of}
use Rattle.collate_records.specs.Reaching.{brought_within, ReachesOne}
use Rattle.collate_records.proofs.comparing.ReachingLemmas.{none_last, none_more, one_first, one_itself, one_second}
use Rattle.collate_records.proofs.records.Records.+reaches_within.Goals as goal

pub loop-c-init : goal.loop-c-init
loop-c-init g t c = record { within = omega arith; one = λ r. r; none = λ a. a }

pub loop-c-preserved : goal.loop-c-preserved
loop-c-preserved g t c =
    let Answers : ℕ → Bool → Type 0 = goal.F-post g c.args.is_one.now
    in let Fails : ℕ → Type 0 = λ d. goal.F-post g c.args.is_one.now d false
    in let step = step_of c.args.self.now.lines
    in let itself : Fails c.loop-c.c = subst (λ b. goal.F-post g c.args.is_one.now c.loop-c.c b) c.loop-c-test.true c.is_one.ensures
    in let above : 0 < c.loop-c.steps = omega arith
    in record {
      within = omega arith;
      one = λ r. c.loop-c.invariant.one (one_first step Answers c.loop-c.c c.in-Singleton.d [] (sym (c.in-Singleton.ensures)) r);
      none = λ a. c.loop-c.invariant.none (none_more step Fails c.loop-c.steps c.loop-c.c (c.in-Singleton.d ∷ []) above (sym (c.in-Singleton.ensures)) itself (a, tt));
    }

pub returns-clause-one : goal.returns-clause-one
returns-clause-one g t c =
    let Answers : ℕ → Bool → Type 0 = goal.F-post g c.args.is_one.now
    in c.loop-c.invariant.one (one_itself (step_of c.args.self.now.lines) Answers c.loop-c.c (subst (λ b. Answers c.loop-c.c b) c.loop-c-test.false c.is_one.ensures))

pub returns-then-steps-eq0-clause-none : goal.returns-then-steps-eq0-clause-none
returns-then-steps-eq0-clause-none g t c =
    let Fails : ℕ → Type 0 = λ d. goal.F-post g c.args.is_one.now d false
    in let step = step_of c.args.self.now.lines
    in let itself : Fails c.loop-c.c = subst (λ b. goal.F-post g c.args.is_one.now c.loop-c.c b) c.loop-c-test.true c.is_one.ensures
    in c.loop-c.invariant.none (subst (λ n. All Fails (brought_within step n c.loop-c.c)) (sym c.if-steps-eq0.true) (none_last step Fails c.loop-c.c itself))

pub returns-in-Default-clause-none : goal.returns-in-Default-clause-none
returns-in-Default-clause-none g t c =
    let Fails : ℕ → Type 0 = λ d. goal.F-post g c.args.is_one.now d false
    in let itself : Fails c.loop-c.c = subst (λ b. goal.F-post g c.args.is_one.now c.loop-c.c b) c.loop-c-test.true c.is_one.ensures
    in let above : 0 < c.loop-c.steps = omega arith
    in c.loop-c.invariant.none (none_more (step_of c.args.self.now.lines) Fails c.loop-c.steps c.loop-c.c [] above (sym (c.in-Default.ensures)) itself tt)

pub returns-then-reaches_within-clause-one : goal.returns-then-reaches_within-clause-one
returns-then-reaches_within-clause-one g t c =
    let Answers : ℕ → Bool → Type 0 = goal.F-post g c.args.is_one.now
    in let step = step_of c.args.self.now.lines
    in OnTrue_from c.reaches_within.result (ReachesOne step Answers (c.args.c ∷ []))
    (λ is. c.loop-c.invariant.one (one_first step Answers c.loop-c.c c.in-Expansion.d (c.in-Expansion.e ∷ []) (sym (c.in-Expansion.ensures)) (OnTrue_at is c.reaches_within.ensures.one)))

pub returns-else-reaches_within-clause-one : goal.returns-else-reaches_within-clause-one
returns-else-reaches_within-clause-one g t c =
    let Answers : ℕ → Bool → Type 0 = goal.F-post g c.args.is_one.now
    in let step = step_of c.args.self.now.lines
    in OnTrue_from c.reaches_within-else-reaches_within.result (ReachesOne step Answers (c.args.c ∷ []))
    (λ is. c.loop-c.invariant.one (one_second step Answers c.loop-c.c c.in-Expansion.d c.in-Expansion.e (sym (c.in-Expansion.ensures)) (OnTrue_at is c.reaches_within-else-reaches_within.ensures.one)))

pub returns-else-reaches_within-clause-none : goal.returns-else-reaches_within-clause-none
returns-else-reaches_within-clause-none g t c =
    let Fails : ℕ → Type 0 = λ d. goal.F-post g c.args.is_one.now d false
    in let step = step_of c.args.self.now.lines
    in let itself : Fails c.loop-c.c = subst (λ b. goal.F-post g c.args.is_one.now c.loop-c.c b) c.loop-c-test.true c.is_one.ensures
    in let above : 0 < c.loop-c.steps = omega arith
    in let first = MatchBool-at_false _ _ c.if-reaches_within.false c.reaches_within.ensures.none
    in OnFalse_from c.reaches_within-else-reaches_within.result (All Fails (brought_within step c.args.steps c.args.c))
    (λ is. c.loop-c.invariant.none (none_more step Fails c.loop-c.steps c.loop-c.c (c.in-Expansion.d ∷ c.in-Expansion.e ∷ []) above (sym (c.in-Expansion.ensures)) itself
    (first, (MatchBool-at_false _ _ is c.reaches_within-else-reaches_within.ensures.none, tt))))
