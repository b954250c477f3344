-- What sinks of keys hold while a key is written to them.
use Rattle.std.proofs.Common.{◌≡◌, ℕ, ◌+◌, ◌-◌, ◌<◌, ◌≤◌, min, List, [], ◌∷◌, ◌++◌, length, take, drop, get_or, refl, sym, ◌∙◌, ap, arith, ⊎_elim, append-nil, append_assoc}
use Rattle.std.proofs.lemmas.List.{length-append, length-take, length-drop, take_all, drop_all, take_at, drop_at, take-append-le, take-append-drop, take_more, drop-drop}
use Rattle.std.proofs.lemmas.Bool.{cases_lt}
use Rattle.std.proofs.Math.Seq.{take-append-add}
use Rattle.icu_collator.specs.Sinks.{byte_count, greatest_count, overlaid, written_at}

-- a slice that all of the bytes fit
overlaid_fits : (old bytes : List ℕ) → length bytes ≤ length old → overlaid old bytes ≡ bytes ++ drop (length bytes) old
overlaid_fits old bytes fits = ap (λ l. l ++ drop (length bytes) old) (take_all (length old) bytes fits)

-- a slice that they fill
overlaid_full : (old bytes : List ℕ) → length old ≤ length bytes → overlaid old bytes ≡ take (length old) bytes
overlaid_full old bytes full = ap (λ l. take (length old) bytes ++ l) (drop_all (length bytes) old full) ∙ append-nil _

pub length_overlaid : (old bytes : List ℕ) → length (overlaid old bytes) ≡ length old
length_overlaid old bytes =
    length-append (take (length old) bytes) (drop (length bytes) old)
    ∙ omega (arith, length-take (length old) bytes, length-drop (length bytes) old)

-- after the end of a slice nothing is written
written_behind : (old : List ℕ) (index : ℕ) (bytes : List ℕ) → length old ≤ index → written_at old index bytes ≡ old
written_behind old index bytes full =
    let none : length old - index ≡ 0 = omega arith in
    let nothing : take (length old - index) bytes ≡ [] = ap (λ n. take n bytes) none in
    let end : drop (length bytes) (drop index old) ≡ [] =
    ap (drop (length bytes)) (drop_all index old full) ∙ drop_all (length bytes) [] (omega arith) in
    ap (λ l. l ++ take (length old - index) bytes ++ drop (length bytes) (drop index old)) (take_all index old full)
    ∙ ap (λ l. old ++ l ++ drop (length bytes) (drop index old)) nothing ∙ ap (λ l. old ++ [] ++ l) end
    ∙ append-nil (old ++ []) ∙ append-nil old

-- what is written after bytes that fit stands after them
written_more : (old before bytes : List ℕ) → length before ≤ length old → written_at (overlaid old before) (length before) bytes ≡ overlaid old (before ++ bytes)
written_more old before bytes fits =
    let index = length before in
    let rest = drop index old in
    let is : overlaid old before ≡ before ++ rest = overlaid_fits old before fits in
    let room : length (before ++ rest) - index ≡ length old - index =
    omega (arith, length-append before rest, length-drop index old) in
    let all : length old ≡ index + (length old - index) = omega arith in
    let front : take (length old) (before ++ bytes) ≡ before ++ take (length old - index) bytes =
    ap (λ n. take n (before ++ bytes)) all ∙ take-append-add before bytes (length old - index) in
    let back : drop (length (before ++ bytes)) old ≡ drop (length bytes) rest =
    ap (λ n. drop n old) (length-append before bytes) ∙ sym (drop-drop (length bytes) index old) in
    ap (λ l. written_at l index bytes) is
    ∙ ap (λ l. l ++ take (length (before ++ rest) - index) bytes ++ drop (length bytes) (drop index (before ++ rest))) (take_at before rest index refl)
    ∙ ap (λ n. before ++ take n bytes ++ drop (length bytes) (drop index (before ++ rest))) room
    ∙ ap (λ l. before ++ take (length old - index) bytes ++ drop (length bytes) l) (drop_at before rest index refl)
    ∙ sym (ap (λ l. l ++ drop (length (before ++ bytes)) old) front ∙ ap (λ l. before ++ take (length old - index) bytes ++ l) back)

-- bytes after those that fill a slice change nothing
overlaid_past : (old before bytes : List ℕ) → length old ≤ length before → overlaid old (before ++ bytes) ≡ overlaid old before
overlaid_past old before bytes full =
    overlaid_full old (before ++ bytes) (omega (arith, length-append before bytes))
    ∙ take-append-le (length old) before bytes full ∙ sym (overlaid_full old before full)

-- one piece after others
pub overlaid_more : (old before bytes : List ℕ) → length old ≤ greatest_count → written_at (overlaid old before) (byte_count before) bytes ≡ overlaid old (before ++ bytes)
overlaid_more old before bytes small = ⊎_elim
    (λ passes.
    written_behind (overlaid old before) (byte_count before) bytes (omega (arith, length_overlaid old before))
    ∙ sym (overlaid_past old before bytes (omega arith)))
    (λ fits.
    let counts : byte_count before ≡ length before = omega arith in
    ap (λ n. written_at (overlaid old before) n bytes) counts ∙ written_more old before bytes fits)
    (cases_lt (length old) (length before))

-- and the count
pub counted_more : (before bytes : List ℕ) → min (byte_count before + length bytes) greatest_count ≡ byte_count (before ++ bytes)
counted_more before bytes = omega (arith, length-append before bytes)

-- bytes in order: those before an index, the one there, and the others
pub pieces_are : (before bytes after : List ℕ) (index : ℕ) → index < length bytes → before ++ take index bytes ++ (get_or bytes index 0 ∷ []) ++ (drop (index + 1) bytes ++ after) ≡ before ++ bytes ++ after
pieces_are before bytes after index inside =
    let here = get_or bytes index 0 ∷ [] in
    let rest = drop (index + 1) bytes in
    let first : before ++ take index bytes ++ here ≡ before ++ take (index + 1) bytes =
    append_assoc before (take index bytes) here ∙ ap (λ l. before ++ l) (sym (take_more bytes index 0 inside)) in
    let all : before ++ take (index + 1) bytes ++ rest ≡ before ++ bytes =
    append_assoc before (take (index + 1) bytes) rest ∙ ap (λ l. before ++ l) (take-append-drop (index + 1) bytes) in
    ap (λ l. l ++ (rest ++ after)) first ∙ sym (append_assoc (before ++ take (index + 1) bytes) rest after) ∙ ap (λ l. l ++ after) all
