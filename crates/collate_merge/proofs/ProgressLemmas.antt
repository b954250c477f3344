-- a merge of readers on its way: begun, gone on, ended and cut off
use Rattle.std.proofs.Common.{◌≡◌, ℕ, suc, ◌+◌, ◌-◌, ◌<◌, Bool, true, false, Option, None, Result, Ok, Err, List, [], ◌∷◌, ◌++◌, ⊎_elim, drop, flat_map, get_or, length, take, refl, sym, ap, ◌∙◌, subst, arith, append_assoc}
use Rattle.std.specs.Prelude.{MatchBool, set}
use Rattle.std.specs.List.{All}
use Rattle.std.specs.Io.KnownBytes.{Appends}
use Rattle.std.proofs.lemmas.Bool.{cases_eq}
use Rattle.std.proofs.lemmas.Grind.{flat_map-append}
use Rattle.std.proofs.lemmas.List.{append-nil, get_or-drop, get_or-map, get_or-set_other, get_or-set_same, get_or-take, get_or_default, length-drop, length-map, length-set, length-take-le}
use Rattle.collate_keyed_lines.specs.KeyedLines.{AreInOrder, IsFirstUnordered}
use Rattle.collate_keyed_lines.specs.declared.direction.Direction.{Direction}
use Rattle.collate_lists.specs.Names.{in_order, is_greater}
use Rattle.collate_rules.specs.Accepted.{AreAccepted}
use Rattle.collate_merge.specs.Least.{FindsLeast, IsLeast}
use Rattle.collate_merge.specs.Lines.{lines_in}
use Rattle.collate_merge.specs.Merged.{StartsAbove, StartsUpto, ordered_part}
use Rattle.collate_merge.specs.Merges.{IsTrueOf, Merge, order_in, parts_of, text_of}
use Rattle.collate_merge.specs.Sources.{AreLeft, Goes, HasLeft, HasLine, IsFaultAt, IsOutput, Merges, source_order}
use Rattle.collate_merge.specs.Written.{all_written, last_behind, written_of}
use Rattle.collate_merge.specs.declared.errors.MergeError.{MergeError}
use Rattle.collate_merge.specs.declared.errors.MergeError.TheVariants.{Memory, Read, TooManyLines, Unordered, Write}
use Rattle.collate_merge.specs.declared.output.Output.{Output}
use Rattle.collate_merge.specs.declared.sources.Source.{Source}
use Rattle.collate_merge.proofs.KeyLemmas.{keys_tell, order_total}
use Rattle.collate_merge.proofs.MergingLemmas.{Merging, begun, below_passed, ended, ended_ordered, ended_whole, next_written, went_on, whole_in_order}
use Rattle.collate_merge.proofs.SendingLemmas.{Appends-none, Appends-then, sent-all}

-- what is left of each reader, what was written last, what was written, and that it was sent
pub record Progress {R : Type 0} (remaining : R → Option (List ℕ)) (m : Merge) (files : List (List ℕ)) (sources : List (Source R)) (output : Output) (old new : Option (List ℕ)) : Type 0 where
  pub lefts : List (List (List ℕ))
  pub last : Option (List ℕ)
  pub written : List (List ℕ)
  pub left : AreLeft remaining m files lefts sources
  pub kept : IsOutput m last output
  pub merging : Merging m.unique (order_in m) (parts_of m files) lefts last written
  pub sent : Appends old new (text_of m.separator written)

first_value : {X : Type 0} (xs : List X) → 0 < length xs → X
first_value [] h = absurd (omega arith)
first_value (x ∷ xs) h = x

text_more : (separator : ℕ) (xs ys : List (List ℕ)) → text_of separator (xs ++ ys) ≡ text_of separator xs ++ text_of separator ys
text_more separator xs ys = flat_map-append (λ (line : List ℕ). line ++ separator ∷ []) xs ys

part_at : (m : Merge) (files : List (List ℕ)) (k : ℕ) (d : List ℕ) → k < length files → get_or (parts_of m files) k [] ≡ lines_in m.separator (get_or files k d)
part_at m files k d within = get_or-map (lines_in m.separator) files k d [] within

module _ {R : Type 0} (remaining : R → Option (List ℕ)) (m : Merge) (files : List (List ℕ)) where
  abbrev parts : List (List (List ℕ))
  parts = parts_of m files

  parts_long : length (parts_of m files) ≡ length files
  parts_long = length-map files (lines_in m.separator)

  abbrev lines_at : ℕ → ℕ
  lines_at k = length (lines_in m.separator (get_or files k []))

  -- a source that is done has no line left
  done_none : (all : ℕ) (left : List (List ℕ)) (s : Source R) → s.is_done ≡ true → HasLeft remaining m all left s → left ≡ []
  done_none all left s done h = subst (λ (b : Bool). MatchBool b (left ≡ []) ((more : List (List ℕ)) × (left ≡ s.line.items ∷ more) × HasLine remaining m all more s)) done h

  -- one that isn't has one
  line_left : (all : ℕ) (left : List (List ℕ)) (s : Source R) → s.is_done ≡ false → HasLeft remaining m all left s
      → (more : List (List ℕ)) × (left ≡ s.line.items ∷ more) × HasLine remaining m all more s
  line_left all left s here h = subst (λ (b : Bool). MatchBool b (left ≡ []) ((more : List (List ℕ)) × (left ≡ s.line.items ∷ more) × HasLine remaining m all more s)) here h

  pub progress_none : (sources : List (Source R)) (output : Output) (w : Option (List ℕ)) → AreLeft remaining m files (parts_of m files) sources → IsOutput m None output
      → Progress remaining m files sources output w w
  progress_none sources output w left kept = record {
    lefts = parts_of m files;
    last = None;
    written = [];
    left = left;
    kept = kept;
    merging = begun (order_in m) (order_total m) m.unique (parts_of m files);
    sent = Appends-none w;
  }

  module _ (sources : List (Source R)) (output : Output) (old new : Option (List ℕ)) (p : Progress remaining m files sources output old new) where
    -- ---- the end

    all_done : (direction : Direction) → FindsLeast (λ (s : Source R). s.is_done) (source_order direction) sources (length sources) None
        → (k : ℕ) → k < length (parts_of m files) → get_or p.lefts k [] ≡ []
    all_done direction none k within =
        let low : k < length files = omega (arith, parts_long) in
        let d : Source R = first_value sources (omega (arith, p.left.long)) in
        done_none (lines_at k) (get_or p.lefts k []) (get_or sources k d) (none k d (omega (arith, p.left.long))) (p.left.each k d low)

    pub progress_end : (u : Unit {0}) (direction : Direction) → FindsLeast (λ (s : Source R). s.is_done) (source_order direction) sources (length sources) None → Merges m files (Ok u) old new
    progress_end u direction none =
        let order = order_in m in
        let nothing = all_done direction none in
        let whole = ended_whole order (order_total m) m.unique parts p.lefts p.last p.written p.merging nothing in
        let ordered = ended_ordered order (order_total m) m.unique parts p.lefts p.last p.written p.merging nothing in
        record {
          merged = subst (Appends old new) (sym (ap (text_of m.separator) (ended order (order_total m) m.unique parts p.lefts p.last p.written p.merging nothing))) p.sent;
          ordered = λ k d l.
              subst (λ (part : List (List ℕ)). AreInOrder false order part (length part)) (part_at m files k d l)
              (whole_in_order order (get_or parts k []) (whole k (omega (arith, parts_long, l))));
          first_part = record {
            written = text_of m.separator p.written;
            unwritten = [];
            bytes_are = ap (text_of m.separator) ordered ∙ sym (append-nil (text_of m.separator p.written));
            appends = p.sent;
          };
          told = tt;
        }

    -- as many steps as are counted
    pub progress_many : Merges m files (Err TooManyLines) old new
    progress_many =
        let rest : List (List ℕ) = all_written m.unique (order_in m) p.last (in_order (order_in m) (flat_map (ordered_part (order_in m)) p.lefts)) in
        record {
          merged = tt;
          ordered = tt;
          first_part = record {
            written = text_of m.separator p.written;
            unwritten = text_of m.separator rest;
            bytes_are = ap (text_of m.separator) p.merging.made ∙ text_more m.separator p.written rest;
            appends = p.sent;
          };
          told = tt;
        }

    -- ---- a step

    module _ (accepted : AreAccepted m.rule.records.lines) (direction : Direction) (same : direction ≡ m.rule.direction) (index : ℕ)
        (least : IsLeast (λ (s : Source R). s.is_done) (source_order direction) sources (length sources) index) (d : Source R) where
      abbrev here : Source R
      here = get_or sources index d

      abbrev x : List ℕ
      x = here.line.items

      pub index_within : index < length files
      index_within = omega (arith, least.within, p.left.long)

      -- the line of the least source, and those after it
      pub least_line : (more : List (List ℕ)) × (get_or p.lefts index [] ≡ x ∷ more) × HasLine remaining m (lines_at index) more here
      least_line = line_left (lines_at index) (get_or p.lefts index []) here (least.here d) (p.left.each index d index_within)

      before_above : (k : ℕ) (b : Bool) → (get_or sources k d).is_done ≡ b → k < index → StartsAbove (order_in m) x (get_or p.lefts k [])
      before_above k true done l =
          subst (StartsAbove (order_in m) x) (sym (done_none (lines_at k) (get_or p.lefts k []) (get_or sources k d) done (p.left.each k d (omega (arith, index_within))))) tt
      before_above k false left l =
          let other = line_left (lines_at k) (get_or p.lefts k []) (get_or sources k d) left (p.left.each k d (omega (arith, index_within))) in
          subst (StartsAbove (order_in m) x) (sym other.1)
          (ap is_greater (sym (keys_tell m accepted direction (get_or sources k d).line.items x (get_or sources k d).key.items here.key.items same other.2.key_is least_line.2.key_is))
          ∙ least.before k d l left)

      behind_upto : (k : ℕ) (b : Bool) → (get_or sources k d).is_done ≡ b → index < k → k < length files → StartsUpto (order_in m) x (get_or p.lefts k [])
      behind_upto k true done l within =
          subst (StartsUpto (order_in m) x) (sym (done_none (lines_at k) (get_or p.lefts k []) (get_or sources k d) done (p.left.each k d within))) tt
      behind_upto k false left l within =
          let other = line_left (lines_at k) (get_or p.lefts k []) (get_or sources k d) left (p.left.each k d within) in
          subst (StartsUpto (order_in m) x) (sym other.1)
          (ap is_greater (sym (keys_tell m accepted direction x (get_or sources k d).line.items here.key.items (get_or sources k d).key.items same least_line.2.key_is other.2.key_is))
          ∙ least.behind k d (omega arith) (omega (arith, p.left.long)) left)

      above : All (StartsAbove (order_in m) x) (take index p.lefts)
      above k e l =
          let low : k < index = omega (arith, length-take-le index p.lefts (omega (arith, index_within, p.merging.long, parts_long))) in
          let within : k < length p.lefts = omega (arith, low, index_within, p.merging.long, parts_long) in
          subst (StartsAbove (order_in m) x) (sym (get_or-take index p.lefts k e low ∙ get_or_default p.lefts k e [] within)) (before_above k (get_or sources k d).is_done refl low)

      upto : All (StartsUpto (order_in m) x) (drop (suc index) p.lefts)
      upto k e l =
          let long : length (drop (suc index) p.lefts) ≡ length p.lefts - suc index = length-drop (suc index) p.lefts in
          let within : suc index + k < length p.lefts = omega (arith, long) in
          subst (StartsUpto (order_in m) x) (sym (get_or-drop (suc index) p.lefts k e ∙ get_or_default p.lefts (suc index + k) e [] within))
          (behind_upto (suc index + k) (get_or sources (suc index + k) d).is_done refl (omega arith) (omega (arith, p.merging.long, parts_long)))

      index_in_parts : index < length parts
      index_in_parts = omega (arith, index_within, parts_long)

      -- ---- it went on

      module _ (s : Source R) (after : Output) (now : Option (List ℕ)) where
        pub progress_more : (u : Unit {0}) → Goes remaining m (lines_at index) x least_line.0 p.last index (Ok u) s after new now → Progress remaining m files (set sources index s) after old now
        progress_more u goes =
            let more = least_line.0 in
            let text = text_of m.separator (written_of m.unique (order_in m) p.last x) in
            let went : Result (Unit {0}) MergeError = Ok u in
            let within : index < length sources = omega (arith, least.within) in
            record {
              lefts = set p.lefts index more;
              last = last_behind m.unique (order_in m) p.last x;
              written = p.written ++ written_of m.unique (order_in m) p.last x;
              left = record {
                long = length-set sources index s ∙ p.left.long;
                each = λ k e l.
                    ⊎_elim
                    (λ (at : k ≡ index).
                    let now_left : get_or (set p.lefts index more) k [] ≡ more =
                    ap (λ (n : ℕ). get_or (set p.lefts index more) n []) at ∙ get_or-set_same p.lefts index more [] (omega (arith, index_within, p.merging.long, parts_long)) in
                    let now_here : get_or (set sources index s) k e ≡ s = ap (λ (n : ℕ). get_or (set sources index s) n e) at ∙ get_or-set_same sources index s e within in
                    subst (λ (n : ℕ). HasLeft remaining m (lines_at n) (get_or (set p.lefts index more) k []) (get_or (set sources index s) k e)) (sym at)
                    (subst (λ (ls : List (List ℕ)). HasLeft remaining m (lines_at index) ls (get_or (set sources index s) k e)) (sym now_left)
                    (subst (HasLeft remaining m (lines_at index) more) (sym now_here) goes.left)))
                    (λ other.
                    subst (λ (ls : List (List ℕ)). HasLeft remaining m (lines_at k) ls (get_or (set sources index s) k e)) (sym (get_or-set_other p.lefts index k more [] other))
                    (subst (HasLeft remaining m (lines_at k) (get_or p.lefts k [])) (sym (get_or-set_other sources index k s e other)) (p.left.each k e l)))
                    (cases_eq k index);
              };
              kept = goes.kept;
              merging = went_on (order_in m) (order_total m) m.unique parts p.lefts p.last p.written p.merging index index_in_parts x more least_line.1 above upto goes.follows;
              sent =
                  subst (Appends old now) (sym (text_more m.separator p.written (written_of m.unique (order_in m) p.last x)))
                  (Appends-then old new now (text_of m.separator p.written) text p.sent (sent-all went u new now text refl goes.sends));
            }

        -- ---- it was cut off

        fault_true : (fault : MergeError) → IsFaultAt m (lines_at index) x least_line.0 index fault → IsTrueOf m files fault
        fault_true (Unordered reader line) h =
            let meant : index ≡ reader = sym h.0 in (
              omega (arith, index_within, h.0),
              subst (λ (n : ℕ). IsFirstUnordered false (order_in m) (lines_in m.separator (get_or files n [])) (line - 1)) meant
                  (subst (λ (part : List (List ℕ)). IsFirstUnordered false (order_in m) part (line - 1)) (part_at m files index [] index_within)
                  (below_passed (order_in m) (get_or parts index []) (get_or p.lefts index []) least_line.0 h.2 x h.1 line (p.merging.each index index_in_parts) least_line.1 h.3 h.4
                  (h.5 ∙ ap (λ (part : List (List ℕ)). length part + 1) (sym (part_at m files index [] index_within))))),
            )
        fault_true (Read reader error) h = omega (arith, index_within, h)
        fault_true (Write error) h = tt
        fault_true Memory h = tt
        fault_true TooManyLines h = tt

        pub progress_cut : (fault : MergeError) → Goes remaining m (lines_at index) x least_line.0 p.last index (Err fault) s after new now → Merges m files (Err fault) old now
        progress_cut fault goes =
            let next = next_written (order_in m) (order_total m) m.unique parts p.lefts p.last p.written p.merging index index_in_parts x least_line.0 least_line.1 above upto in
            let piece = written_of m.unique (order_in m) p.last x in
            let others = text_of m.separator next.0 in
            record {
              merged = tt;
              ordered = tt;
              first_part = record {
                written = text_of m.separator p.written ++ goes.sends.sent;
                unwritten = goes.sends.unsent ++ others;
                bytes_are =
                    ap (text_of m.separator) next.1
                    ∙ text_more m.separator p.written (piece ++ next.0)
                    ∙ ap (λ (bytes : List ℕ). text_of m.separator p.written ++ bytes)
                    (text_more m.separator piece next.0 ∙ ap (λ (bytes : List ℕ). bytes ++ others) goes.sends.bytes_are ∙ append_assoc goes.sends.sent goes.sends.unsent others)
                    ∙ sym (append_assoc (text_of m.separator p.written) goes.sends.sent (goes.sends.unsent ++ others));
                appends = Appends-then old new now (text_of m.separator p.written) goes.sends.sent p.sent goes.sends.appends;
              };
              told = fault_true fault goes.fault;
            }
