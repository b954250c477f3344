-- a step at the source that was read at the index of the least
use Rattle.std.proofs.Common.{◌≡◌, ℕ, Option, Ok, Err, List, [], get_or, length, sym, subst}
use Rattle.std.specs.Prelude.{set}
use Rattle.collate_keyed_lines.specs.declared.direction.Direction.{Direction}
use Rattle.collate_rules.specs.Accepted.{AreAccepted}
use Rattle.collate_merge.specs.Least.{IsLeast}
use Rattle.collate_merge.specs.Lines.{lines_in}
use Rattle.collate_merge.specs.Merges.{Merge}
use Rattle.collate_merge.specs.Sources.{Goes, HasLine, Merges, source_order}
use Rattle.collate_merge.specs.declared.errors.MergeError.{MergeError}
use Rattle.collate_merge.specs.declared.output.Output.{Output}
use Rattle.collate_merge.specs.declared.sources.Source.{Source}
use Rattle.collate_merge.proofs.ProgressLemmas.{Progress, least_line, progress_cut, progress_more}

module _ {R : Type 0} (remaining : R → Option (List ℕ)) (m : Merge) (files : List (List ℕ)) (sources : List (Source R)) (output : Output) (old new : Option (List ℕ))
    (p : Progress remaining m files sources output old new) (accepted : AreAccepted m.rule.records.lines) (direction : Direction) (same : direction ≡ m.rule.direction) (index : ℕ)
    (least : IsLeast (λ (s : Source R). s.is_done) (source_order direction) sources (length sources) index) (e : Source R) (e_is : e ≡ get_or sources index e) where
  abbrev all : ℕ
  all = length (lines_in m.separator (get_or files index []))

  -- the lines after its first
  pub behind_first : List (List ℕ)
  behind_first = (least_line remaining m files sources output old new p accepted direction same index least e).0

  pub first_line : HasLine remaining m (length (lines_in m.separator (get_or files index []))) behind_first e
  unfolding behind_first
  first_line =
      let line = least_line remaining m files sources output old new p accepted direction same index least e in
      subst (HasLine remaining m all line.0) (sym e_is) line.2

  module _ (s : Source R) (after : Output) (now : Option (List ℕ)) where
    pub step_more : (u : Unit {0}) → Goes remaining m (length (lines_in m.separator (get_or files index []))) e.line.items behind_first p.last index (Ok u) s after new now
        → Progress remaining m files (set sources index s) after old now
    unfolding behind_first
    step_more u goes =
        let line = least_line remaining m files sources output old new p accepted direction same index least e in
        progress_more remaining m files sources output old new p accepted direction same index least e s after now u
        (subst (λ (t : Source R). Goes remaining m all t.line.items line.0 p.last index (Ok u) s after new now) e_is goes)

    pub step_cut : (fault : MergeError) → Goes remaining m (length (lines_in m.separator (get_or files index []))) e.line.items behind_first p.last index (Err fault) s after new now
        → Merges m files (Err fault) old now
    unfolding behind_first
    step_cut fault goes =
        let line = least_line remaining m files sources output old new p accepted direction same index least e in
        progress_cut remaining m files sources output old new p accepted direction same index least e s after now fault
        (subst (λ (t : Source R). Goes remaining m all t.line.items line.0 p.last index (Err fault) s after new now) e_is goes)
