-- bytes after whole lines
use Rattle.std.proofs.Common.{◌≡◌, ℕ, ◌+◌, Result, Ok, Err, List, [], ◌∷◌, ◌++◌, length, take, All, refl, sym, ap, ◌∙◌, subst, append_assoc, length-append, arith}
use Rattle.std.proofs.Math.Seq.{take-append-add}
use Rattle.std.proofs.lemmas.List.{append-nil}
use Rattle.std.proofs.lemmas.List.Elements.{All-append, All-cons, All-nil, All-same}
use Rattle.std.proofs.lemmas.Grind.{flat_map-append}
use Rattle.collate_run.specs.Reading.{AreWhole, IsUnended, spelled}
use Rattle.collate_run.specs.Replies.{ended}
use Rattle.collate_run.specs.Runs.{IsWithin, KeepsInputLimit, KeepsLineLimit, lines_of, lines_read, whole_lines}
use Rattle.collate_run.specs.declared.run.RunFault.{RunFault}
use Rattle.collate_run.specs.declared.run.RunFault.TheVariants.{Memory, Read, Write, LineTooLong, InputTooLong, CutReload}
use Rattle.collate_run.proofs.lines.CommandLineLemmas.{lines_of-none, lines_of-whole, whole_lines-whole}

pub whole-none : AreWhole [] []
whole-none = (All-nil IsUnended, refl)

pub whole-one : (line : List ℕ) → IsUnended line → AreWhole (line ∷ []) (ended line)
whole-one line unended = (All-cons IsUnended line [] unended (All-nil IsUnended), sym (append-nil (ended line)))

pub whole-then : (lines more : List (List ℕ)) (front bytes : List ℕ) → AreWhole lines front → AreWhole more bytes → AreWhole (lines ++ more) (front ++ bytes)
whole-then lines more front bytes h k = (
  All-append IsUnended lines more h.0 k.0,
  ap (λ (xs : List ℕ). xs ++ bytes) h.1 ∙ ap (λ (xs : List ℕ). spelled lines ++ xs) k.1 ∙ sym (flat_map-append ended lines more),
)

module _ (lines : List (List ℕ)) (front : List ℕ) (whole : AreWhole lines front) where
  pub lines_of-then : (bytes : List ℕ) → lines_of (front ++ bytes) ≡ lines ++ lines_of bytes
  lines_of-then bytes = ap (λ (xs : List ℕ). lines_of (xs ++ bytes)) whole.1 ∙ lines_of-whole lines bytes whole.0

  pub whole_lines-then : (bytes : List ℕ) → whole_lines (front ++ bytes) ≡ lines ++ whole_lines bytes
  whole_lines-then bytes = ap (λ (xs : List ℕ). whole_lines (xs ++ bytes)) whole.1 ∙ whole_lines-whole lines bytes whole.0

  pub lines_of-front : lines_of front ≡ lines
  lines_of-front = ap lines_of (sym (append-nil front)) ∙ lines_of-then [] ∙ ap (λ (ls : List (List ℕ)). lines ++ ls) lines_of-none ∙ append-nil lines

  module _ (limit room : ℕ) (at : length front + room ≡ limit) where
    take-then : (bytes : List ℕ) → take limit (front ++ bytes) ≡ front ++ take room bytes
    take-then bytes = ap (λ (n : ℕ). take n (front ++ bytes)) (sym at) ∙ take-append-add front bytes room

    -- the lines that are read come after the lines in front
    pub lines_read-then : (result : Result (Unit {0}) RunFault) (bytes : List ℕ) → lines_read result limit (front ++ bytes) ≡ lines ++ lines_read result room bytes
    lines_read-then (Ok done) bytes = lines_of-then bytes
    lines_read-then (Err Memory) bytes = whole_lines-then bytes
    lines_read-then (Err Read) bytes = whole_lines-then bytes
    lines_read-then (Err Write) bytes = lines_of-then bytes
    lines_read-then (Err LineTooLong) bytes = whole_lines-then bytes
    lines_read-then (Err InputTooLong) bytes = ap whole_lines (take-then bytes) ∙ whole_lines-then (take room bytes)
    lines_read-then (Err CutReload) bytes = lines_of-then bytes

    -- what keeps the input limit after the front keeps it with the front
    pub input_limit-then : (result : Result (Unit {0}) RunFault) (bytes : List ℕ) → KeepsInputLimit result room bytes → KeepsInputLimit result limit (front ++ bytes)
    input_limit-then (Ok done) bytes h = omega (arith, at, length-append front bytes, h)
    input_limit-then (Err Memory) bytes h = omega (arith, at, length-append front bytes, h)
    input_limit-then (Err Read) bytes h = omega (arith, at, length-append front bytes, h)
    input_limit-then (Err Write) bytes h = omega (arith, at, length-append front bytes, h)
    input_limit-then (Err LineTooLong) bytes h = omega (arith, at, length-append front bytes, h)
    input_limit-then (Err InputTooLong) bytes h = omega (arith, at, length-append front bytes, h)
    input_limit-then (Err CutReload) bytes h = omega (arith, at, length-append front bytes, h)

    module _ (short : All IsWithin lines) where
      pub within-then : (bytes : List ℕ) → All IsWithin (lines_of bytes) → All IsWithin (lines_of (front ++ bytes))
      within-then bytes h = All-same IsWithin (lines_of (front ++ bytes)) (lines ++ lines_of bytes) (lines_of-then bytes) (All-append IsWithin lines (lines_of bytes) short h)

      -- what keeps the line limit after the front keeps it with the front
      pub line_limit-then : (result : Result (Unit {0}) RunFault) (bytes : List ℕ) → KeepsLineLimit result room bytes → KeepsLineLimit result limit (front ++ bytes)
      line_limit-then (Ok done) bytes h = within-then bytes h
      line_limit-then (Err Memory) bytes h = within-then bytes h
      line_limit-then (Err Read) bytes h = within-then bytes h
      line_limit-then (Err Write) bytes h = within-then bytes h
      line_limit-then (Err LineTooLong) bytes h = (
        All-same IsWithin (whole_lines (front ++ bytes)) (lines ++ whole_lines bytes) (whole_lines-then bytes) (All-append IsWithin lines (whole_lines bytes) short h.0),
        record {
          front = front ++ h.1.front;
          line = h.1.line;
          taken_is = ap (λ (xs : List ℕ). front ++ xs) h.1.taken_is ∙ sym (append_assoc front h.1.front h.1.line);
          too_long = h.1.too_long;
          unended = h.1.unended;
          whole = lines_of-then h.1.front ∙ ap (λ (ls : List (List ℕ)). lines ++ ls) h.1.whole ∙ sym (whole_lines-then bytes);
        },
      )
      line_limit-then (Err InputTooLong) bytes h = subst (λ (xs : List ℕ). All IsWithin (lines_of xs)) (sym (take-then bytes)) (within-then (take room bytes) h)
      line_limit-then (Err CutReload) bytes h = within-then bytes h
