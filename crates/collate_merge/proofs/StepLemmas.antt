-- a step of a merge: a line written, and the next one read
use Rattle.std.proofs.Common.{◌≡◌, ℕ, Option, Some, None, Result, Ok, List, length, sym, ap, ◌∙◌, subst}
use Rattle.std.specs.Prelude.{OnOk}
use Rattle.collate_keyed_lines.specs.declared.direction.Direction.{Direction}
use Rattle.collate_rules.specs.Accepted.{AreAccepted}
use Rattle.collate_sort.specs.Orders.{LineRule}
use Rattle.collate_merge.specs.Least.{FindsLeast, IsLeast}
use Rattle.collate_merge.specs.Merges.{Merge, order_in, text_of}
use Rattle.collate_merge.specs.Sending.{Sends}
use Rattle.collate_merge.specs.Sources.{Advances, Goes, IsOutput, key_in, source_order}
use Rattle.collate_merge.specs.Written.{last_behind, written_of}
use Rattle.collate_merge.specs.declared.errors.MergeError.{MergeError}
use Rattle.collate_merge.specs.declared.output.Output.{Output}
use Rattle.collate_merge.specs.declared.sources.Source.{Source}
use Rattle.collate_merge.proofs.SendingLemmas.{always, sends-all, sent-all}

pub accepted_by : (m : Merge) (rule : LineRule) → m.rule ≡ rule → AreAccepted rule.records.lines → AreAccepted m.rule.records.lines
accepted_by m rule same h = subst (λ (r : LineRule). AreAccepted r.records.lines) (sym same) h

pub key_of_line : (m : Merge) (x line key kept : List ℕ) → line ≡ x → key ≡ kept → kept ≡ key_in m x → key ≡ key_in m line
key_of_line m x line key kept line_is key_is of = key_is ∙ of ∙ sym (ap (key_in m) line_is)

-- the least source that was found
pub found_least : {R : Type 0} (direction : Direction) (shown sources : List (Source R)) (result : Option ℕ) (index : ℕ) → shown ≡ sources → result ≡ Some index
    → FindsLeast (λ (s : Source R). s.is_done) (source_order direction) shown (length shown) result → IsLeast (λ (s : Source R). s.is_done) (source_order direction) sources (length sources) index
found_least {R} direction shown sources result index same is h =
    subst (λ (ss : List (Source R)). IsLeast (λ (s : Source R). s.is_done) (source_order direction) ss (length ss) index) same
    (subst (λ (o : Option ℕ). FindsLeast (λ (s : Source R). s.is_done) (source_order direction) shown (length shown) o) is h)

pub found_none : {R : Type 0} (direction : Direction) (shown sources : List (Source R)) (result : Option ℕ) → shown ≡ sources → result ≡ None
    → FindsLeast (λ (s : Source R). s.is_done) (source_order direction) shown (length shown) result → FindsLeast (λ (s : Source R). s.is_done) (source_order direction) sources (length sources) None
found_none {R} direction shown sources result same is h =
    subst (λ (ss : List (Source R)). FindsLeast (λ (s : Source R). s.is_done) (source_order direction) ss (length ss) None) same
    (subst (λ (o : Option ℕ). FindsLeast (λ (s : Source R). s.is_done) (source_order direction) shown (length shown) o) is h)

module _ {R : Type 0} (remaining : R → Option (List ℕ)) (m : Merge) (all : ℕ) (x : List ℕ) (more : List (List ℕ)) (last : Option (List ℕ)) (index : ℕ)
    (put : Result (Unit {0}) MergeError) (output : Output) (old new : Option (List ℕ)) (line : List ℕ) (line_is : line ≡ x)
    (sent : Sends put old new (text_of m.separator (written_of m.unique (order_in m) last line))) where
  sent_x : Sends put old new (text_of m.separator (written_of m.unique (order_in m) last x))
  sent_x = subst (λ (l : List ℕ). Sends put old new (text_of m.separator (written_of m.unique (order_in m) last l))) line_is sent

  -- the line was written
  pub goes_on : (u : Unit {0}) → put ≡ Ok u → OnOk put (IsOutput m (last_behind m.unique (order_in m) last line) output)
      → (result : Result (Unit {0}) MergeError) (s : Source R) → Advances remaining m all x more index result s → Goes remaining m all x more last index result s output old new
  goes_on u is kept result s advances = record {
    sends =
        sends-all result old new (text_of m.separator (written_of m.unique (order_in m) last x))
        (sent-all put u old new (text_of m.separator (written_of m.unique (order_in m) last x)) is sent_x);
    kept = always result now;
    follows = advances.follows;
    left = advances.left;
    fault = advances.fault;
  }
    where
      now : IsOutput m (last_behind m.unique (order_in m) last x) output
      now =
          subst (λ (l : List ℕ). IsOutput m (last_behind m.unique (order_in m) last l) output) line_is
          (subst (λ (r : Result (Unit {0}) MergeError). OnOk r (IsOutput m (last_behind m.unique (order_in m) last line) output)) is kept)
