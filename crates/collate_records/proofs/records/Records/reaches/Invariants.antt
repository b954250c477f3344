use Rattle.std.proofs.Common.{All, false}
use Rattle.collate_rules.specs.Meaning.{step_of}
use Rattle.collate_records.specs.Reaching.{brought_within}
use Rattle.collate_records.proofs.records.Records.reaches.Given as goal

abbrev pub invariant-loop-c : goal.invariant-loop-c
invariant-loop-c g l = All (λ x. All (λ d. goal.F-post g l.is_one d false) (brought_within (step_of l.self.lines) 0x110000 x)) l.yielded
