-- a run, command after command, and the ways in which it ends
use Rattle.std.proofs.Common.{◌≡◌, ◌≢◌, ℕ, ◌+◌, ◌-◌, ◌≤◌, true, false, Option, Result, Ok, Err, List, [], ◌∷◌, ◌++◌, length, All, refl, sym, ap, ◌∙◌, subst, append_assoc, length-append, arith}
use Rattle.std.proofs.lemmas.List.{append-nil}
use Rattle.std.proofs.lemmas.List.Elements.{All-append, All-nil}
use Rattle.std.proofs.lemmas.Bool.Decides.{when_true, when_false}
use Rattle.std.specs.Io.KnownBytes.{Appends, Consumes, IsAtEnd}
use Rattle.collate_index.specs.Catalogue.{Catalogue}
use Rattle.collate_run.specs.Reading.{AreWhole, CutsRequest, SpellsRequest, spelled}
use Rattle.collate_run.specs.Replies.{Answers, AreReplies, Replied, behind, command, nothing}
use Rattle.collate_run.specs.Runs.{Does, IsUnanswered, IsWithin, Ran, input_limit, lines_of, lines_read}
use Rattle.collate_run.specs.Sending.{Sends}
use Rattle.collate_run.specs.declared.run.Request.{Request}
use Rattle.collate_run.specs.declared.run.RunFault.{RunFault}
use Rattle.collate_run.specs.declared.run.RunFault.TheVariants.{Memory, Read, Write, LineTooLong, InputTooLong, CutReload}
use Rattle.collate_run.proofs.bytes.KnownBytesLemmas.{Appends-none, Appends-then, Consumes-none, Consumes-then}
use Rattle.collate_run.proofs.lines.CommandLineLemmas.{lines_of-within}
use Rattle.collate_run.proofs.lines.RequestLemmas.{request-none}
use Rattle.collate_run.proofs.lines.CommandLineWholeLemmas.{input_limit-then, line_limit-then, lines_of-front, lines_read-then, whole-none, whole-then}

-- the lines read so far, what was written to them, and the catalogue that they left
pub record Progress (start now : Catalogue) (reader_old reader_new writer_old writer_new : Option (List ℕ)) (count : ℕ) : Type 0 where
  pub lines : List (List ℕ)
  pub taken : List ℕ
  pub out : List ℕ
  pub whole : AreWhole lines taken
  pub short : All IsWithin lines
  pub consumes : Consumes reader_old reader_new taken
  pub appends : Appends writer_old writer_new out
  pub replied : Replied start lines out now
  pub counted : count ≡ length taken
  pub within : count ≤ input_limit

pub progress-none : (start : Catalogue) (reader writer : Option (List ℕ)) → Progress start start reader reader writer writer 0
progress-none start reader writer = record {
  lines = [];
  taken = [];
  out = [];
  whole = whole-none;
  short = All-nil IsWithin;
  consumes = Consumes-none reader;
  appends = Appends-none writer;
  replied = nothing;
  counted = refl;
  within = omega arith;
}

-- what a fault leaves without an answer stands after the lines that got theirs
does-fault : (start : Catalogue) (fault : RunFault) (left : Option (List ℕ)) (lines front rest : List (List ℕ)) (out : List ℕ)
    → lines ≡ front ++ rest → AreReplies start front out → IsUnanswered fault left rest → Does start (Err fault) left lines out
does-fault start Memory left lines front rest out e replies h = (front, rest, e, replies, h)
does-fault start Read left lines front rest out e replies h = (front, rest, e, replies, h)
does-fault start Write left lines front rest out e replies h = absurd h
does-fault start LineTooLong left lines front rest out e replies h = (front, rest, e, replies, h)
does-fault start InputTooLong left lines front rest out e replies h = (front, rest, e, replies, h)
does-fault start CutReload left lines front rest out e replies h = (front, rest, e, replies, h)

module _ (start now : Catalogue) (r0 r1 r2 w0 w1 w2 : Option (List ℕ)) (count : ℕ) (p : Progress start now r0 r1 w0 w1 count) where
  at : length p.taken + (input_limit - count) ≡ input_limit
  at = omega (arith, p.counted, p.within)

  -- the reader is at its end
  pub ran-end : (bytes : List ℕ) → Consumes r1 r2 bytes → bytes ≡ [] → IsAtEnd r2 → Ran start (Ok tt) r0 r2 w0 w1
  ran-end bytes consumed none end = record {
    taken = p.taken ++ bytes;
    out = p.out;
    consumes = Consumes-then r0 r1 r2 p.taken bytes p.consumes consumed;
    appends = p.appends;
    does = (
      (
        now,
        subst (λ (ls : List (List ℕ)). Replied start ls p.out now)
            (sym (ap (λ (xs : List ℕ). lines_of (p.taken ++ xs)) none ∙ ap lines_of (append-nil p.taken) ∙ lines_of-front p.lines p.taken p.whole)) p.replied,
      ),
      end,
    );
    line_limit_kept = line_limit-then p.lines p.taken p.whole input_limit (input_limit - count) at p.short (Ok tt) bytes
        (subst (λ (xs : List ℕ). All IsWithin (lines_of xs)) (sym none) (lines_of-within [] (All-nil (λ byte. byte ≢ 10)) (omega arith)));
    input_limit_kept = input_limit-then p.lines p.taken p.whole input_limit (input_limit - count) at (Ok tt) bytes (omega (arith, ap length none));
  }

  -- no whole request came of what was read
  pub ran-cut : (fault : RunFault) (bytes : List ℕ) → Consumes r1 r2 bytes → CutsRequest fault r2 (input_limit - count) bytes → Ran start (Err fault) r0 r2 w0 w1
  ran-cut fault bytes consumed cut = record {
    taken = p.taken ++ bytes;
    out = p.out;
    consumes = Consumes-then r0 r1 r2 p.taken bytes p.consumes consumed;
    appends = p.appends;
    does = does-fault start fault r2 (lines_read (Err fault) input_limit (p.taken ++ bytes)) p.lines (lines_read (Err fault) (input_limit - count) bytes) p.out
        (lines_read-then p.lines p.taken p.whole input_limit (input_limit - count) at (Err fault) bytes) (now, p.replied) cut.unanswered;
    line_limit_kept = line_limit-then p.lines p.taken p.whole input_limit (input_limit - count) at p.short (Err fault) bytes cut.line_limit_kept;
    input_limit_kept = input_limit-then p.lines p.taken p.whole input_limit (input_limit - count) at (Err fault) bytes cut.input_limit_kept;
  }

  module _ (request : Request) (bytes : List ℕ) (consumed : Consumes r1 r2 bytes) (more : ℕ) (spells : SpellsRequest request (behind request.line.items) r2 count more bytes)
      (next : Catalogue) (text : List ℕ) (answers : Answers request.line.items (spelled spells.records) now next text) where
    replied_more : Replied start (p.lines ++ request.line.items ∷ spells.records) (p.out ++ text) next
    replied_more = command p.lines p.out now request.line.items spells.records text next p.replied spells.all_there answers

    within_bytes : All IsWithin (lines_of bytes)
    within_bytes = subst (λ (ls : List (List ℕ)). All IsWithin ls) (sym spells.lines_are) spells.short

    replied_all : (out : List ℕ) → out ≡ p.out ++ text → AreReplies start (lines_read (Ok tt) input_limit (p.taken ++ bytes)) out
    replied_all out e = (
      next,
      subst (λ (ls : List (List ℕ)). Replied start ls out next)
          (sym (lines_read-then p.lines p.taken p.whole input_limit (input_limit - count) at (Ok tt) bytes ∙ ap (λ (ls : List (List ℕ)). p.lines ++ ls) spells.lines_are))
          (subst (λ (xs : List ℕ). Replied start (p.lines ++ request.line.items ∷ spells.records) xs next) (sym e) replied_more),
    )

    line_limit_more : All IsWithin (lines_of (p.taken ++ bytes))
    line_limit_more = line_limit-then p.lines p.taken p.whole input_limit (input_limit - count) at p.short (Ok tt) bytes within_bytes

    input_limit_more : length (p.taken ++ bytes) ≤ input_limit
    input_limit_more = omega (arith, length-append p.taken bytes, p.counted, spells.counted, spells.within)

    consumed_all : Consumes r0 r2 (p.taken ++ bytes)
    consumed_all = Consumes-then r0 r1 r2 p.taken bytes p.consumes consumed

    -- the reply couldn't be written whole
    pub ran-write : {E : Type 0} (result : Result (Unit {0}) E) (fault : RunFault) → fault ≡ Write → Sends result w1 w2 text → Ran start (Err fault) r0 r2 w0 w2
    ran-write result fault e sends = rw e (record {
      taken = p.taken ++ bytes;
      out = p.out ++ sends.sent;
      consumes = consumed_all;
      appends = Appends-then w0 w1 w2 p.out sends.sent p.appends sends.appends;
      does = (
        sends.unsent,
        replied_all ((p.out ++ sends.sent) ++ sends.unsent)
            (append_assoc p.out sends.sent sends.unsent ∙ ap (λ (xs : List ℕ). p.out ++ xs) (sym sends.bytes_are)),
      );
      line_limit_kept = line_limit_more;
      input_limit_kept = input_limit_more;
    })

    appended_all : Appends w1 w2 text → Appends w0 w2 (p.out ++ text)
    appended_all h = Appends-then w0 w1 w2 p.out text p.appends h

    -- the last request was answered
    pub ran-last : request.is_ended ≡ false → Appends w1 w2 text → Ran start (Ok tt) r0 r2 w0 w2
    ran-last last h = record {
      taken = p.taken ++ bytes;
      out = p.out ++ text;
      consumes = consumed_all;
      appends = appended_all h;
      does = (replied_all (p.out ++ text) refl, when_false (AreWhole (request.line.items ∷ spells.records) bytes) (IsAtEnd r2) last spells.whole);
      line_limit_kept = line_limit_more;
      input_limit_kept = input_limit_more;
    }

    -- a request more was answered
    pub progress-more : request.is_ended ≡ true → Appends w1 w2 text → Progress start next r0 r2 w0 w2 more
    progress-more ended_is h = record {
      lines = p.lines ++ request.line.items ∷ spells.records;
      taken = p.taken ++ bytes;
      out = p.out ++ text;
      whole = whole-then p.lines (request.line.items ∷ spells.records) p.taken bytes p.whole
          (when_true (AreWhole (request.line.items ∷ spells.records) bytes) (IsAtEnd r2) ended_is spells.whole);
      short = All-append IsWithin p.lines (request.line.items ∷ spells.records) p.short spells.short;
      consumes = consumed_all;
      appends = appended_all h;
      replied = replied_more;
      counted = omega (arith, length-append p.taken bytes, p.counted, spells.counted);
      within = spells.within;
    }

-- the index wasn't opened
pub ran-nothing : (start : Catalogue) (reader writer : Option (List ℕ)) → Ran start (Err Memory) reader reader writer writer
ran-nothing start reader writer =
    ran-cut start start reader reader reader writer writer writer 0 (progress-none start reader writer) Memory [] (Consumes-none reader)
    (request-none 0 [] (omega arith) Memory reader (All-nil (λ byte. byte ≢ 10), omega arith, omega arith))
