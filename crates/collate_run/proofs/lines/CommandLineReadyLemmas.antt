-- lines that are answered together, and what waits of their replies
use Rattle.std.proofs.Common.{◌≡◌, ◌≢◌, ℕ, ◌+◌, ◌-◌, ◌<◌, ◌≤◌, Bool, true, false, Option, None, Some, Result, Ok, Err, OnOk, List, [], ◌∷◌, ◌++◌, ◌⊎◌, inl, inr, get_or, length, take, drop, All, refl, sym, ap, ◌∙◌, subst, append_assoc, length-append, length-take-le, get_or-take, take-add, take-take, eqb-true, arith}
use Rattle.std.proofs.lemmas.List.{append-nil, length-take, take_more, take_rest}
use Rattle.std.proofs.lemmas.List.Elements.{All-append, All-from_get_or, All-nil, All-push}
use Rattle.std.proofs.lemmas.List.Quantifiers.{position-Some}
use Rattle.std.proofs.lemmas.Bool.Decides.{nat_tests}
use Rattle.std.specs.Prelude.{position, ◌==◌, if◌then◌else◌, IfErr, IfSome, MatchResult}
use Rattle.std.proofs.BufReadLemmas.{Consumes_shown}
use Rattle.std.specs.Io.{StartsWith}
use Rattle.std.specs.Io.BufRead.{DropsConsumable}
use Rattle.std.specs.Io.KnownBytes.{Appends, Consumes, Keeps}
use Rattle.collate_index.specs.Catalogue.{Catalogue}
use Rattle.collate_run.specs.Buffered.{AnswersLines, Gathers, IsReadyLine, TakesReady}
use Rattle.collate_run.specs.Reading.{AreWhole, IsUnended}
use Rattle.collate_run.specs.Replies.{Answers, Replied, behind, command, ended, nothing}
use Rattle.collate_run.specs.Runs.{IsWithin, Ran, input_limit, lines_of}
use Rattle.collate_run.specs.Sending.{Sends}
use Rattle.collate_run.specs.declared.run.RunFault.{RunFault}
use Rattle.collate_run.specs.declared.run.RunFault.TheVariants.{Read, Write}
use Rattle.collate_run.proofs.bytes.KnownBytesLemmas.{Appends-none, Appends-then, Consumes-none, Consumes-then}
use Rattle.collate_run.proofs.lines.CommandLineRunLemmas.{Progress, ran-cut}
use Rattle.collate_run.proofs.lines.CommandLineWholeLemmas.{lines_of-front, whole-none, whole-one, whole-then}
use Rattle.collate_run.proofs.lines.RequestLemmas.{request-none}

-- ## A line in the buffer

pub ready-line : (bytes line : List ℕ) (end : ℕ) → position (λ byte. byte == 10) bytes ≡ Some end → line ≡ take end bytes → IsWithin line → behind line ≡ 0 → IsReadyLine line bytes
ready-line bytes line end found line_is short alone =
    let at = position-Some (λ byte. byte == 10) bytes end 0 found in
    let size : length line ≡ end = ap length line_is ∙ length-take-le end bytes (omega (arith, at.0)) in
    record {
      unended = subst IsUnended (sym line_is) (All-from_get_or (λ byte. byte ≢ 10) (take end bytes) 0 (λ i lt e.
          let before : i < end = omega (arith, lt, length-take-le end bytes (omega (arith, at.0))) in
          differs (get_or bytes i 0) (at.2 i before) (sym (get_or-take end bytes i 0 before) ∙ e)));
      short = short;
      alone = alone;
      within = omega (arith, size, at.0);
      front = ap (λ (n : ℕ). take (n + 1) bytes) size ∙ take_more bytes end 0 at.0 ∙ ap (λ (n : ℕ). take end bytes ++ n ∷ []) (eqb-true (get_or bytes end 0) 10 at.1)
          ∙ ap (λ (xs : List ℕ). xs ++ 10 ∷ []) (sym line_is);
    }
  where
    differs : (b : ℕ) → (b == 10) ≡ false → b ≡ 10 → ⊥
    differs b other e = grind (arith, nat_tests)

pub ready-bound : (all rest line : List ℕ) (taken : ℕ) → taken ≤ length all → rest ≡ take (length all - taken) (drop taken all) → IsReadyLine line rest
    → taken + (length line + 1) ≤ length all
ready-bound all rest line taken bound rest_is ready =
    omega (arith, bound, ready.within, ap length rest_is, length-take (length all - taken) (drop taken all))

-- ## Replies

pub replied-then : (start mid : Catalogue) (lines : List (List ℕ)) (out : List ℕ) → Replied start lines out mid
    → (more : List (List ℕ)) (text : List ℕ) (now : Catalogue) → Replied mid more text now → Replied start (lines ++ more) (out ++ text) now
replied-then start mid lines out front _ _ _ nothing = rw (append-nil lines, append-nil out) front
replied-then start mid lines out front _ _ _ (command before text old line records last new replied all answers) =
    rw (sym (append_assoc lines before (line ∷ records)), sym (append_assoc out text last))
    (command (lines ++ before) (out ++ text) old line records last new (replied-then start mid lines out front before text old replied) all answers)

pub answers-none : (start : Catalogue) → AnswersLines start start [] []
answers-none start = record { lines = []; whole = whole-none; short = All-nil IsWithin; replied = nothing }

module _ (start now next : Catalogue) (bytes text : List ℕ) (so_far : AnswersLines start now bytes text) where
  pub answers-more : (line last : List ℕ) → IsUnended line → IsWithin line → behind line ≡ 0 → Answers line [] now next last
      → AnswersLines start next (bytes ++ ended line) (text ++ last)
  answers-more line last unended short alone answers = record {
    lines = so_far.lines ++ line ∷ [];
    whole = whole-then so_far.lines (line ∷ []) bytes (ended line) so_far.whole (whole-one line unended);
    short = All-push IsWithin so_far.lines line so_far.short short;
    replied = command so_far.lines text now line [] last next so_far.replied (sym alone) answers;
  }

-- a line more of the bytes is answered
pub answers-ready : (start now next : Catalogue) (all text line rest last : List ℕ) (taken : ℕ) → rest ≡ take (length all - taken) (drop taken all)
    → AnswersLines start now (take taken all) text → IsReadyLine line rest → Answers line [] now next last
    → AnswersLines start next (take (taken + (length line + 1)) all) (text ++ last)
answers-ready start now next all text line rest last taken rest_is so_far ready answers =
    subst (λ (xs : List ℕ). AnswersLines start next xs (text ++ last))
    (sym (take-add taken (length line + 1) all ∙ ap (λ (xs : List ℕ). take taken all ++ xs) (ap (take (length line + 1)) (sym (rest_is ∙ take_rest all taken)) ∙ ready.front)))
    (answers-more start now next (take taken all) text so_far line last ready.unended ready.short ready.alone answers)

-- ## What waits

pub gathers-none : (writer : Option (List ℕ)) (waits : List ℕ) → Gathers {E = RunFault} (Ok tt) writer writer waits waits []
gathers-none writer waits = record { sent = []; unsent = waits; bytes_are = append-nil waits; appends = Appends-none writer; rest = refl }

pub waits-all : (fits : Bool) (waited waits bytes : List ℕ) → fits ≡ true → waits ≡ (if fits then waited ++ bytes else waited) → waits ≡ waited ++ bytes
waits-all fits waited waits bytes e h = rw e at h

pub waits-none : (fits : Bool) (waited waits bytes : List ℕ) → fits ≡ false → waits ≡ (if fits then waited ++ bytes else waited) → waits ≡ waited
waits-none fits waited waits bytes e h = rw e at h

pub gathers-waits : {E : Type 0} (value : Unit {0}) (writer : Option (List ℕ)) (waited waits bytes : List ℕ) → waits ≡ waited ++ bytes → Gathers {E = E} (Ok value) writer writer waited waits bytes
gathers-waits value writer waited waits bytes e = record { sent = []; unsent = waited ++ bytes; bytes_are = refl; appends = Appends-none writer; rest = sym e }

module _ {E : Type 0} (result : Result (Unit {0}) E) (a b c : Option (List ℕ)) where
  pub gathers-sent : (waited waits bytes : List ℕ) → waits ≡ [] → Appends a b waited → Sends result b c bytes → Gathers result a c waited waits bytes
  gathers-sent waited waits bytes none appends sends = record {
    sent = waited ++ sends.sent;
    unsent = sends.unsent;
    bytes_are = ap (λ (xs : List ℕ). waited ++ xs) sends.bytes_are ∙ sym (append_assoc waited sends.sent sends.unsent);
    appends = Appends-then a b c waited sends.sent appends sends.appends;
    rest = subst (λ (xs : List ℕ). OnOk result (sends.unsent ≡ xs)) (sym none) sends.whole;
  }

  pub gathers-more : {F : Type 0} (value : Unit {0}) (waited waits later text bytes : List ℕ) → Gathers {E = F} (Ok value) a b waited waits text → Gathers result b c waits later bytes
      → Gathers result a c waited later (text ++ bytes)
  gathers-more value waited waits later text bytes before now = record {
    sent = before.sent ++ now.sent;
    unsent = now.unsent;
    bytes_are =
        sym (append_assoc waited text bytes) ∙ ap (λ (xs : List ℕ). xs ++ bytes) before.bytes_are ∙ append_assoc before.sent before.unsent bytes
        ∙ ap (λ (xs : List ℕ). before.sent ++ xs) (ap (λ (xs : List ℕ). xs ++ bytes) before.rest ∙ now.bytes_are)
        ∙ sym (append_assoc before.sent now.sent now.unsent);
    appends = Appends-then a b c before.sent now.sent before.appends now.appends;
    rest = now.rest;
  }

  -- what was gathered is sent
  pub sends-gathered : {F : Type 0} (value : Unit {0}) (waited waits text : List ℕ) → waited ≡ [] → Gathers {E = F} (Ok value) a b waited waits text → Sends result b c waits → Sends result a c text
  sends-gathered value waited waits text none gathers sends = record {
    sent = gathers.sent ++ sends.sent;
    unsent = sends.unsent;
    bytes_are =
        ap (λ (xs : List ℕ). xs ++ text) (sym none) ∙ gathers.bytes_are ∙ ap (λ (xs : List ℕ). gathers.sent ++ xs) (gathers.rest ∙ sends.bytes_are)
        ∙ sym (append_assoc gathers.sent sends.sent sends.unsent);
    appends = Appends-then a b c gathers.sent sends.sent gathers.appends sends.appends;
    whole = sends.whole;
  }

pub gathers-failed : {E : Type 0} (fault : E) (a b : Option (List ℕ)) (waited waits bytes : List ℕ) → Sends (Err fault) a b waited → Gathers (Err fault) a b waited waits bytes
gathers-failed fault a b waited waits bytes sends = record {
  sent = sends.sent;
  unsent = sends.unsent ++ bytes;
  bytes_are = ap (λ (xs : List ℕ). xs ++ bytes) sends.bytes_are ∙ append_assoc sends.sent sends.unsent bytes;
  appends = sends.appends;
  rest = tt;
}

-- what was gathered until a write failed
pub sends-failed : {E : Type 0} (fault : E) (a b : Option (List ℕ)) (waited waits text : List ℕ) → waited ≡ [] → Gathers (Err fault) a b waited waits text → Sends (Err fault) a b text
sends-failed fault a b waited waits text none gathers = record {
  sent = gathers.sent;
  unsent = gathers.unsent;
  bytes_are = ap (λ (xs : List ℕ). xs ++ text) (sym none) ∙ gathers.bytes_are;
  appends = gathers.appends;
  whole = tt;
}

-- ## A turn

pub consumes-kept : (a b : Option (List ℕ)) → Keeps a b → Consumes a b []
consumes-kept None b h = tt
consumes-kept (Some xs) None h = absurd h
consumes-kept (Some xs) (Some ys) h = sym h

-- the front of what a reader showed was consumed
pub consumes-front : (a b c : Option (List ℕ)) (buffered : Option ℕ) (shown : List ℕ) (most taken : ℕ) → most ≤ length shown → taken ≤ length (take most shown)
    → IfSome a (λ xs. StartsWith xs shown) → IfSome a (λ xs. length shown ≡ 0 → xs ≡ []) → Keeps a b
    → IfSome a (λ _. IfSome buffered (λ k. length shown ≤ k)) → DropsConsumable b c buffered taken
    → Consumes a c (take taken (take most shown))
consumes-front a b c buffered shown most taken most_in taken_in front end kept fits drops =
    let long : length (take most shown) ≡ most = length-take-le most shown most_in in
    subst (λ (xs : List ℕ). Consumes a c xs) (sym (take-take taken most shown (omega (arith, taken_in, long))))
    (Consumes_shown a b c buffered shown taken (omega (arith, taken_in, long, most_in)) front end kept fits drops).0

ends-sent : (result : Result (Unit {0}) RunFault) (unsent : List ℕ) → IfErr result (λ fault. fault ≡ Write) → OnOk result (unsent ≡ [])
    → MatchResult result (λ _. unsent ≡ []) (λ fault. (fault ≡ Write) ⊎ ((fault ≡ Read) × (unsent ≡ [])))
ends-sent (Ok done) unsent e whole = whole
ends-sent (Err fault) unsent e whole = inl e

module _ (old new : Catalogue) (r0 r1 w0 w1 : Option (List ℕ)) (before after : ℕ) (taken text : List ℕ) (answers : AnswersLines old new taken text)
    (consumes : Consumes r0 r1 taken) (counted : after ≡ before + length taken) (within : after ≤ input_limit) where
  pub takes-sent : (result : Result (Unit {0}) RunFault) → IfErr result (λ fault. fault ≡ Write) → Sends result w0 w1 text → TakesReady result old new r0 r1 w0 w1 before after
  takes-sent result fault sends = record {
    taken = taken;
    text = text;
    unsent = sends.unsent;
    sent = sends.sent;
    answers = answers;
    consumes = consumes;
    appends = sends.appends;
    text_is = sends.bytes_are;
    counted = counted;
    within = within;
    ends = ends-sent result sends.unsent fault sends.whole;
  }

-- the reader couldn't fill its buffer
pub takes-fault : (now : Catalogue) (r0 r1 w : Option (List ℕ)) (count : ℕ) → Keeps r0 r1 → count ≤ input_limit → TakesReady (Err Read) now now r0 r1 w w count count
takes-fault now r0 r1 w count kept within = record {
  taken = [];
  text = [];
  unsent = [];
  sent = [];
  answers = answers-none now;
  consumes = consumes-kept r0 r1 kept;
  appends = Appends-none w;
  text_is = refl;
  counted = omega arith;
  within = within;
  ends = inr (refl, refl);
}

module _ (start mid now : Catalogue) (r0 r1 r2 w0 w1 w2 : Option (List ℕ)) (count more : ℕ) (p : Progress start mid r0 r1 w0 w1 count) where
  module _ (result : Result (Unit {0}) RunFault) (t : TakesReady result mid now r1 r2 w1 w2 count more) where
    whole : AreWhole (p.lines ++ t.answers.lines) (p.taken ++ t.taken)
    whole = whole-then p.lines t.answers.lines p.taken t.taken p.whole t.answers.whole

    short : All IsWithin (p.lines ++ t.answers.lines)
    short = All-append IsWithin p.lines t.answers.lines p.short t.answers.short

    replied : Replied start (p.lines ++ t.answers.lines) (p.out ++ t.text) now
    replied = replied-then start mid p.lines p.out p.replied t.answers.lines t.text now t.answers.replied

    pub progress-ready : t.unsent ≡ [] → Progress start now r0 r2 w0 w2 more
    progress-ready all_sent = record {
      lines = p.lines ++ t.answers.lines;
      taken = p.taken ++ t.taken;
      out = p.out ++ t.sent;
      whole = whole;
      short = short;
      consumes = Consumes-then r0 r1 r2 p.taken t.taken p.consumes t.consumes;
      appends = Appends-then w0 w1 w2 p.out t.sent p.appends t.appends;
      replied = subst (λ (xs : List ℕ). Replied start (p.lines ++ t.answers.lines) (p.out ++ xs) now)
          (t.text_is ∙ ap (λ (xs : List ℕ). t.sent ++ xs) all_sent ∙ append-nil t.sent) replied;
      counted = omega (arith, length-append p.taken t.taken, p.counted, t.counted);
      within = t.within;
    }

    lines_are : lines_of (p.taken ++ t.taken) ≡ p.lines ++ t.answers.lines
    lines_are = lines_of-front (p.lines ++ t.answers.lines) (p.taken ++ t.taken) whole

    pub ran-unsent : Ran start (Err Write) r0 r2 w0 w2
    ran-unsent = record {
      taken = p.taken ++ t.taken;
      out = p.out ++ t.sent;
      consumes = Consumes-then r0 r1 r2 p.taken t.taken p.consumes t.consumes;
      appends = Appends-then w0 w1 w2 p.out t.sent p.appends t.appends;
      does = (
        t.unsent,
        (
          now,
          subst (λ (ls : List (List ℕ)). Replied start ls ((p.out ++ t.sent) ++ t.unsent) now) (sym lines_are)
              (subst (λ (xs : List ℕ). Replied start (p.lines ++ t.answers.lines) xs now)
              (ap (λ (xs : List ℕ). p.out ++ xs) t.text_is ∙ sym (append_assoc p.out t.sent t.unsent)) replied),
        ),
      );
      line_limit_kept = subst (λ (ls : List (List ℕ)). All IsWithin ls) (sym lines_are) short;
      input_limit_kept = omega (arith, length-append p.taken t.taken, p.counted, t.counted, t.within);
    }

    pub ran-unread : t.unsent ≡ [] → Ran start (Err Read) r0 r2 w0 w2
    ran-unread all_sent =
        ran-cut start now r0 r2 r2 w0 w2 w2 more (progress-ready all_sent) Read [] (Consumes-none r2)
        (request-none more [] t.within Read r2 (All-nil (λ byte. byte ≢ 10), omega (arith, t.within), omega arith))

  -- a turn in which a call failed
  pub ran-turn : (fault : RunFault) → TakesReady (Err fault) mid now r1 r2 w1 w2 count more → Ran start (Err fault) r0 r2 w0 w2
  ran-turn fault t = by t.ends
    where
      by : (fault ≡ Write) ⊎ ((fault ≡ Read) × (t.unsent ≡ [])) → Ran start (Err fault) r0 r2 w0 w2
      by (inl e) = rw e (ran-unsent (Err fault) t)
      by (inr (e, all_sent)) = rw e (ran-unread (Err fault) t all_sent)

  -- a turn in which all replies were sent
  pub progress-turn : (value : Unit {0}) → TakesReady (Ok value) mid now r1 r2 w1 w2 count more → Progress start now r0 r2 w0 w2 more
  progress-turn value t = progress-ready (Ok value) t t.ends
