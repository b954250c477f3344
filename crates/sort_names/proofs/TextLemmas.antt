-- the lines of texts, one after another
use Rattle.std.proofs.Common.{◌≡◌, ℕ, suc, ◌+◌, ◌<◌, ◌==◌, true, false, Bool, List, [], ◌∷◌, ◌++◌, drop, length, map, take, refl, ap, ◌∙◌, sym, append_assoc, append-nil, arith}
use Rattle.collate_sort.specs.Listing.{Listing}
use Rattle.collate_sort.specs.Orders.{Line, LineRule}
use Rattle.sort_names.specs.Texts.{compared, line_by, line_len, lines_of, listed, onto}
use Rattle.sort_names.specs.declared.request.Shape.{Shape}

-- there is no line in no text
pub no_lines : (end : ℕ) → lines_of end [] ≡ []
unfolding lines_of
no_lines end = refl

-- the first line of a text and those after it, by the length of the first
abbrev Parts : ℕ → List ℕ → ℕ → Type 0
Parts end text len = lines_of end text ≡ take len text ∷ lines_of end (drop (len + 1) text)

ended_first : (end byte : ℕ) (text : List ℕ) (len : ℕ) → len ≡ 0 → lines_of end (byte ∷ text) ≡ [] ∷ lines_of end text → Parts end (byte ∷ text) len
ended_first end byte text len none first = let last : len + 1 ≡ 1 = omega arith in rw (last, none) first

one_byte : (end byte : ℕ) (len : ℕ) → len ≡ 1 → lines_of end (byte ∷ []) ≡ (byte ∷ []) ∷ [] → Parts end (byte ∷ []) len
unfolding lines_of
one_byte end byte len one first = let last : len + 1 ≡ 2 = omega arith in rw (last, one) first

byte_more : (end byte : ℕ) (text : List ℕ) (len more : ℕ) → more ≡ suc len → lines_of end (byte ∷ text) ≡ onto byte (lines_of end text) → Parts end text len → Parts end (byte ∷ text) more
byte_more end byte text len more is first later =
    let last : more + 1 ≡ suc (len + 1) = omega arith in
    rw (last, is) (first ∙ ap (onto byte) later)

last_by : (end byte : ℕ) (is : Bool) → (byte == end) ≡ is → Parts end (byte ∷ []) (line_len end (byte ∷ []))
unfolding lines_of
last_by end byte true is = ended_first end byte [] (line_len end (byte ∷ [])) (rw is refl) (rw is refl)
last_by end byte false is = one_byte end byte (line_len end (byte ∷ [])) (rw is refl) (rw is refl)

more_by : (end byte : ℕ) (text : List ℕ) (is : Bool) → (byte == end) ≡ is → Parts end text (line_len end text) → Parts end (byte ∷ text) (line_len end (byte ∷ text))
unfolding lines_of
more_by end byte text true is later = ended_first end byte text (line_len end (byte ∷ text)) (rw is refl) (rw is refl)
more_by end byte text false is later = byte_more end byte text (line_len end text) (line_len end (byte ∷ text)) (rw is (omega arith)) (rw is refl) later

first_line : (end byte : ℕ) (text : List ℕ) → Parts end (byte ∷ text) (line_len end (byte ∷ text))
first_line end byte [] = last_by end byte (byte == end) refl
first_line end byte (second ∷ text) = more_by end byte (second ∷ text) (byte == end) refl (first_line end second text)

-- one line more of a text
pub one_more : (shape : Shape) (before all : List Line) (text : List ℕ)
    → 0 < length text → before ++ listed shape text ≡ all
    → (before ++ line_by shape (take (line_len shape.end text) text) ∷ []) ++ listed shape (drop (line_len shape.end text + 1) text) ≡ all
one_more shape before all [] some so_far = absurd (omega arith)
one_more shape before all (byte ∷ text) some so_far =
    let whole = byte ∷ text in
    let first = ap (map (line_by shape)) (first_line shape.end byte text) in
    let rest = listed shape (drop (line_len shape.end whole + 1) whole) in
    append_assoc before (line_by shape (take (line_len shape.end whole) whole) ∷ []) rest
    ∙ sym (ap (λ (ls : List Line). before ++ ls) first) ∙ so_far

-- a list with a line more, which was the first of what is left of a text
pub add_step : (shape : Shape) (before after : Listing) (all : List Line) (rest behind line text : List ℕ)
    → 0 < length rest → after ≡ record before { lines = before.lines ++ record { line = line; text = text } ∷ [] }
    → line ≡ take (line_len shape.end rest) rest → text ≡ compared shape line → behind ≡ drop (line_len shape.end rest + 1) rest
    → before.lines ++ listed shape rest ≡ all → after.lines ++ listed shape behind ≡ all
add_step shape before after all rest behind line text some added line_is text_is behind_is so_far =
    let first = take (line_len shape.end rest) rest in
    let here : text ≡ compared shape first = text_is ∙ ap (compared shape) line_is in
    let one : record { line = line; text = text } ≡ line_by shape first =
    ap (λ (l : List ℕ). record { line = l; text = text }) line_is ∙ ap (λ (t : List ℕ). record { line = first; text = t }) here in
    ap (λ (l : Listing). l.lines ++ listed shape behind) added
    ∙ ap (λ (l : Line). (before.lines ++ l ∷ []) ++ listed shape behind) one
    ∙ ap (λ (b : List ℕ). (before.lines ++ line_by shape first ∷ []) ++ listed shape b) behind_is
    ∙ one_more shape before.lines all rest some so_far

-- a list once nothing is left of a text
pub add_end : (shape : Shape) (before after : Listing) (rest text : List ℕ) → length rest ≡ 0
    → after.rule ≡ before.rule → after.lines ++ listed shape rest ≡ before.lines ++ listed shape text
    → after ≡ record before { lines = before.lines ++ listed shape text }
add_end shape before after [] text none rule lines =
    let all : after.lines ≡ before.lines ++ listed shape text =
    sym (append-nil after.lines) ∙ sym (ap (λ (ls : List (List ℕ)). after.lines ++ map (line_by shape) ls) (no_lines shape.end)) ∙ lines in
    ap (λ (r : LineRule). record { rule = r; lines = after.lines }) rule
    ∙ ap (λ (ls : List Line). record { rule = before.rule; lines = ls }) all
add_end shape before after (byte ∷ rest) text none rule lines = absurd (omega arith)
