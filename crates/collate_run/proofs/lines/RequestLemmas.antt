-- a line and the record lines after it, read line by line
use Rattle.std.proofs.Common.{◌≡◌, ℕ, ◌+◌, ◌-◌, ◌<◌, ◌≤◌, Bool, true, false, not, Option, None, Some, Err, List, [], ◌∷◌, ◌++◌, ◌⊎◌, inl, inr, length, take, All, refl, sym, ap, ◌∙◌, subst, append_assoc, length-append, arith}
use Rattle.std.proofs.lemmas.List.{append-nil, take-append-le, take_all}
use Rattle.std.proofs.lemmas.List.Elements.{All-cons, All-nil, All-push, All-same}
use Rattle.std.proofs.lemmas.Grind.{flat_map-append}
use Rattle.std.proofs.lemmas.Bool.Decides.{when_true, when_false}
use Rattle.std.specs.Bool.{MatchBool}
use Rattle.std.specs.Prelude.{IfSome}
use Rattle.std.specs.Io.KnownBytes.{IsAtEnd}
use Rattle.collate_run.specs.Reading.{AreWhole, CutsLine, CutsRequest, IsUnended, SpellsLine, SpellsRequest, spelled}
use Rattle.collate_run.specs.Replies.{AreFirst, behind, ended}
use Rattle.collate_run.specs.Runs.{IsCutReload, IsUnanswered, IsWithin, KeepsInputLimit, KeepsLineLimit, input_limit, line_limit, lines_of, lines_read, whole_lines}
use Rattle.collate_run.specs.declared.run.Line.{Line}
use Rattle.collate_run.specs.declared.run.Request.{Request}
use Rattle.collate_run.specs.declared.run.RunFault.{RunFault}
use Rattle.collate_run.specs.declared.run.RunFault.TheVariants.{Memory, Read, Write, LineTooLong, InputTooLong, CutReload}
use Rattle.collate_run.proofs.lines.CommandLineLemmas.{lines_of-ended, lines_of-none, lines_of-unended, lines_of-within, whole_lines-unended}
use Rattle.collate_run.proofs.lines.CommandLineWholeLemmas.{input_limit-then, line_limit-then, lines_of-then, lines_read-then, whole-one, whole-then}

lines_of-cases : (is_ended : Bool) (line : List ℕ) (left : Option (List ℕ)) (bytes : List ℕ) → IsUnended line → MatchBool is_ended (bytes ≡ line ++ 10 ∷ []) ((bytes ≡ line) × (0 < length bytes) × IsAtEnd left) → lines_of bytes ≡ line ∷ []
lines_of-cases true line left bytes unended h = ap lines_of h ∙ lines_of-ended line [] unended ∙ ap (λ (ls : List (List ℕ)). line ∷ ls) lines_of-none
lines_of-cases false line left bytes unended h = ap lines_of h.0 ∙ lines_of-unended line unended (subst (λ (xs : List ℕ). 0 < length xs) h.0 h.1)

whole-cases : (is_ended : Bool) (line : List ℕ) (left : Option (List ℕ)) (bytes : List ℕ) → IsUnended line → MatchBool is_ended (bytes ≡ line ++ 10 ∷ []) ((bytes ≡ line) × (0 < length bytes) × IsAtEnd left) → MatchBool is_ended (AreWhole (line ∷ []) bytes) (IsAtEnd left)
whole-cases true line left bytes unended h = subst (λ (xs : List ℕ). AreWhole (line ∷ []) xs) (sym h) (whole-one line unended)
whole-cases false line left bytes unended h = h.2

-- what is kept of no record lines
first-kept : {V : Type 0} (limit : ℕ) (view : V → List ℕ) (records : Option V) → IfSome records (λ kept. view kept ≡ []) → IfSome records (λ kept. AreFirst limit (view kept) [])
first-kept limit view None h = h
first-kept limit view (Some kept) h = ([], ap (λ (xs : List ℕ). xs ++ []) (sym h), λ _. refl)

module _ (line : Line) (left : Option (List ℕ)) (bytes : List ℕ) (spells : SpellsLine line left bytes) where
  -- the bytes of a line are that line
  pub lines_of-spelled : lines_of bytes ≡ line.bytes.items ∷ []
  lines_of-spelled = lines_of-cases line.is_ended line.bytes.items left bytes spells.0 spells.1

  pub whole-spelled : MatchBool line.is_ended (AreWhole (line.bytes.items ∷ []) bytes) (IsAtEnd left)
  whole-spelled = whole-cases line.is_ended line.bytes.items left bytes spells.0 spells.1

  -- a line has been read, and no record line yet
  pub request-first : (request : Request) (before after : ℕ) → request.line.items ≡ line.bytes.items → request.is_ended ≡ line.is_ended
      → IfSome request.records (λ kept. kept.items ≡ []) → after ≡ before + length bytes → after ≤ input_limit → length line.bytes.items ≤ line_limit
      → SpellsRequest request 0 left before after bytes
  request-first request before after line_is ended_is kept counted within short = record {
    records = [];
    all_there = refl;
    lines_are = rw line_is lines_of-spelled;
    whole = rw (line_is, ended_is) whole-spelled;
    kept = first-kept request.limit (λ kept. kept.items) request.records kept;
    short = rw line_is (All-cons IsWithin line.bytes.items [] short (All-nil IsWithin));
    counted = counted;
    within = within;
  }

module _ (count : ℕ) (bytes : List ℕ) (within : count ≤ input_limit) where
  front : (line : List ℕ) (last : ℕ) → bytes ≡ line ++ last ∷ [] → count + length line ≡ input_limit → take (input_limit - count) bytes ≡ line
  front line last e at =
      let size : input_limit - count ≡ length line = omega (arith, at) in
      ap (take (input_limit - count)) e ∙ take-append-le (input_limit - count) line (last ∷ []) (omega (arith, size)) ∙ take_all (input_limit - count) line (omega (arith, size))

  -- no line was read
  pub cut-none : (fault : RunFault) → CutsLine fault count bytes → lines_read (Err fault) (input_limit - count) bytes ≡ []
  cut-none Memory cut = whole_lines-unended bytes cut.0
  cut-none Read cut = whole_lines-unended bytes cut.0
  cut-none Write cut = absurd cut
  cut-none LineTooLong cut = whole_lines-unended bytes cut.0
  cut-none InputTooLong cut = ap whole_lines (front cut.0 cut.1 cut.3 cut.4) ∙ whole_lines-unended cut.0 cut.2
  cut-none CutReload cut = absurd cut

  pub cut-line_limit : (fault : RunFault) → CutsLine fault count bytes → KeepsLineLimit (Err fault) (input_limit - count) bytes
  cut-line_limit Memory cut = lines_of-within bytes cut.0 cut.2
  cut-line_limit Read cut = lines_of-within bytes cut.0 cut.2
  cut-line_limit Write cut = absurd cut
  cut-line_limit LineTooLong cut = (
    All-same IsWithin (whole_lines bytes) [] (whole_lines-unended bytes cut.0) (All-nil IsWithin),
    record {
      front = [];
      line = bytes;
      taken_is = refl;
      too_long = cut.1;
      unended = whole_lines-unended bytes cut.0;
      whole = lines_of-none ∙ sym (whole_lines-unended bytes cut.0);
    },
  )
  cut-line_limit InputTooLong cut = subst (λ (xs : List ℕ). All IsWithin (lines_of xs)) (sym (front cut.0 cut.1 cut.3 cut.4)) (lines_of-within cut.0 cut.2 cut.5)
  cut-line_limit CutReload cut = absurd cut

  pub cut-input_limit : (fault : RunFault) → CutsLine fault count bytes → KeepsInputLimit (Err fault) (input_limit - count) bytes
  cut-input_limit Memory cut = omega (arith, cut.1)
  cut-input_limit Read cut = omega (arith, cut.1)
  cut-input_limit Write cut = absurd cut
  cut-input_limit LineTooLong cut = omega (arith, cut.2)
  cut-input_limit InputTooLong cut = omega (arith, ap length cut.3, length-append cut.0 (cut.1 ∷ []), cut.4)
  cut-input_limit CutReload cut = absurd cut

  -- a fault of a line leaves the lines before it without an answer
  pub cut-unanswered : (fault : RunFault) (left : Option (List ℕ)) (rest : List (List ℕ)) → CutsLine fault count bytes → (rest ≡ []) ⊎ IsCutReload rest → IsUnanswered fault left rest
  cut-unanswered Memory left rest cut h = h
  cut-unanswered Read left rest cut h = h
  cut-unanswered Write left rest cut h = absurd cut
  cut-unanswered LineTooLong left rest cut h = h
  cut-unanswered InputTooLong left rest cut h = h
  cut-unanswered CutReload left rest cut h = absurd cut

  -- a request that is cut off in its first line
  pub request-none : (fault : RunFault) (left : Option (List ℕ)) → CutsLine fault count bytes → CutsRequest fault left (input_limit - count) bytes
  request-none fault left cut = record {
    unanswered = cut-unanswered fault left (lines_read (Err fault) (input_limit - count) bytes) cut (inl (cut-none fault cut));
    line_limit_kept = cut-line_limit fault cut;
    input_limit_kept = cut-input_limit fault cut;
  }

module _ (request : Request) (many : ℕ) (middle left : Option (List ℕ)) (before count : ℕ) (front : List ℕ) (so_far : SpellsRequest request many middle before count front) where
  -- the input ends before all record lines
  pub request-cut : many < behind request.line.items → IsAtEnd left → CutsRequest CutReload left (input_limit - before) front
  request-cut fewer end = record {
    unanswered = (subst IsCutReload (sym so_far.lines_are) (omega (arith, so_far.all_there, fewer)), end);
    line_limit_kept = All-same IsWithin (lines_of front) (request.line.items ∷ so_far.records) so_far.lines_are so_far.short;
    input_limit_kept = omega (arith, so_far.counted, so_far.within);
  }

  pub request-end : many < behind request.line.items → (bytes : List ℕ) → bytes ≡ [] → IsAtEnd left → CutsRequest CutReload left (input_limit - before) (front ++ bytes)
  request-end fewer bytes none end =
      subst (λ (xs : List ℕ). CutsRequest CutReload left (input_limit - before) xs) (sym (ap (λ (xs : List ℕ). front ++ xs) none ∙ append-nil front)) (request-cut fewer end)

  module _ (is_ended : request.is_ended ≡ true) where
    whole : AreWhole (request.line.items ∷ so_far.records) front
    whole = when_true (AreWhole (request.line.items ∷ so_far.records) front) (IsAtEnd middle) is_ended so_far.whole

    at : length front + (input_limit - count) ≡ input_limit - before
    at = omega (arith, so_far.counted, so_far.within)

    -- a record line is cut off by a fault
    pub request-fault : many < behind request.line.items → (fault : RunFault) (bytes : List ℕ) → CutsLine fault count bytes → CutsRequest fault left (input_limit - before) (front ++ bytes)
    request-fault fewer fault bytes cut =
        let lines : lines_read (Err fault) (input_limit - before) (front ++ bytes) ≡ request.line.items ∷ so_far.records =
        lines_read-then (request.line.items ∷ so_far.records) front whole (input_limit - before) (input_limit - count) at (Err fault) bytes
        ∙ ap (λ (ls : List (List ℕ)). (request.line.items ∷ so_far.records) ++ ls) (cut-none count bytes so_far.within fault cut)
        ∙ append-nil (request.line.items ∷ so_far.records) in
        record {
          unanswered = cut-unanswered count bytes so_far.within fault left (lines_read (Err fault) (input_limit - before) (front ++ bytes)) cut
              (inr (subst IsCutReload (sym lines) (omega (arith, so_far.all_there, fewer))));
          line_limit_kept = line_limit-then (request.line.items ∷ so_far.records) front whole (input_limit - before) (input_limit - count) at so_far.short
              (Err fault) bytes (cut-line_limit count bytes so_far.within fault cut);
          input_limit_kept = input_limit-then (request.line.items ∷ so_far.records) front whole (input_limit - before) (input_limit - count) at
              (Err fault) bytes (cut-input_limit count bytes so_far.within fault cut);
        }

    module _ (line : Line) (bytes : List ℕ) (spells : SpellsLine line left bytes) where
      whole-more : (ended_now : Bool) → MatchBool ended_now (AreWhole (line.bytes.items ∷ []) bytes) (IsAtEnd left)
          → MatchBool ended_now (AreWhole ((request.line.items ∷ so_far.records) ++ line.bytes.items ∷ []) (front ++ bytes)) (IsAtEnd left)
      whole-more true h = whole-then (request.line.items ∷ so_far.records) (line.bytes.items ∷ []) front bytes whole h
      whole-more false h = h

      spelled-push : spelled so_far.records ++ ended line.bytes.items ≡ spelled (so_far.records ++ line.bytes.items ∷ [])
      spelled-push = sym (flat_map-append ended so_far.records (line.bytes.items ∷ []) ∙ ap (λ (xs : List ℕ). spelled so_far.records ++ xs) (append-nil (ended line.bytes.items)))

      -- a record line more has been read
      pub request-more : (next : Request) (after : ℕ) → next.line.items ≡ request.line.items → next.is_ended ≡ line.is_ended
          → IfSome next.records (λ kept. AreFirst next.limit kept.items (spelled so_far.records ++ ended line.bytes.items))
          → after ≡ count + length bytes → after ≤ input_limit → length line.bytes.items ≤ line_limit
          → SpellsRequest next (many + 1) left before after (front ++ bytes)
      request-more next after line_is ended_is kept counted within short = record {
        records = so_far.records ++ line.bytes.items ∷ [];
        all_there = omega (arith, length-append so_far.records (line.bytes.items ∷ []), so_far.all_there);
        lines_are = rw line_is (lines_of-then (request.line.items ∷ so_far.records) front whole bytes ∙ ap (λ (ls : List (List ℕ)). (request.line.items ∷ so_far.records) ++ ls) (lines_of-spelled line left bytes spells));
        whole = rw (line_is, ended_is) (whole-more line.is_ended (whole-spelled line left bytes spells));
        kept = rw (← spelled-push) kept;
        short = rw line_is (All-push IsWithin (request.line.items ∷ so_far.records) line.bytes.items so_far.short short);
        counted = omega (arith, counted, so_far.counted, length-append front bytes);
        within = within;
      }

-- what is kept once it passes the limit, and one line more until then
pub first-stays : (limit : ℕ) (kept before more : List ℕ) → limit < length kept → AreFirst limit kept before → AreFirst limit kept (before ++ more)
first-stays limit kept before more long first =
    (first.0 ++ more, ap (λ (xs : List ℕ). xs ++ more) first.1 ∙ append_assoc kept first.0 more, λ short. absurd (omega (arith, long, short)))

pub first-more : (limit : ℕ) (kept before more : List ℕ) → length kept ≤ limit → AreFirst limit kept before → AreFirst limit (kept ++ more) (before ++ more)
first-more limit kept before more short first =
    let same : before ≡ kept = first.1 ∙ ap (λ (xs : List ℕ). kept ++ xs) (first.2 short) ∙ append-nil kept in
    ([], ap (λ (xs : List ℕ). xs ++ more) same ∙ sym (append-nil (kept ++ more)), λ _. refl)

-- what is kept when a record line more is put after the others
pub kept-more : {V : Type 0} (IsKept : V → List ℕ → Type 0) (kept : Option V) (front line lent : List ℕ) → lent ≡ line
    → IfSome kept (λ v. IsKept v (front ++ ended lent)) → IfSome kept (λ v. IsKept v (front ++ ended line))
kept-more IsKept kept front line lent e h = subst (λ (xs : List ℕ). IfSome kept (λ v. IsKept v (front ++ ended xs))) e h

-- a request that is not ended stands at the end of the input
pub at-end : (request : Request) (many : ℕ) (left : Option (List ℕ)) (before after : ℕ) (bytes : List ℕ) (spells : SpellsRequest request many left before after bytes) → request.is_ended ≡ false → IsAtEnd left
at-end request many left before after bytes spells last = when_false (AreWhole (request.line.items ∷ spells.records) bytes) (IsAtEnd left) last spells.whole

pub not-ended : (is_ended : Bool) → not is_ended ≡ true → is_ended ≡ false
not-ended true h = sym h
not-ended false h = refl

pub is-ended : (is_ended : Bool) → not is_ended ≡ false → is_ended ≡ true
is-ended true h = refl
is-ended false h = sym h
