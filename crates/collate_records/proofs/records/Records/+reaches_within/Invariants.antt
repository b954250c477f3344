use Rattle.std.proofs.Common.{ℕ, ◌≤◌, Bool, false, [], ◌∷◌, All}
use Rattle.collate_rules.specs.Meaning.{step_of}
use Rattle.collate_records.specs.Reaching.{brought_within, ReachesOne}
use Rattle.collate_records.proofs.records.Records.+reaches_within.Given as goal

abbrev pub decreases-reaches_within : goal.decreases-reaches_within
decreases-reaches_within g l = l.steps

abbrev pub invariant-loop-c : goal.invariant-loop-c
invariant-loop-c g l =
    let Answers : ℕ → Bool → Type 0 = goal.F-post g l.is_one in
    let Fails : ℕ → Type 0 = λ d. goal.F-post g l.is_one d false in
    record {
      within : l.steps ≤ l.fn.steps;
      one : ReachesOne (step_of l.self.lines) Answers (l.c ∷ []) → ReachesOne (step_of l.self.lines) Answers (l.fn.c ∷ []);
      none : All Fails (brought_within (step_of l.self.lines) l.steps l.c) → All Fails (brought_within (step_of l.self.lines) l.fn.steps l.fn.c);
    }

abbrev pub decreases-loop-c : goal.decreases-loop-c
decreases-loop-c g l = l.steps
