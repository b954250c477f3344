-- The lines that stay, with their numbers, and the lines of what is written of them.
use Rattle.std.proofs.Common.{◌≡◌, ℕ, ◌+◌, ◌==◌, Bool, true, false, cond, List, [], ◌∷◌, ◌++◌, length, filter, flat_map, Some, None, Ok, refl, sym, ap, ◌∙◌, arith, append_assoc, add-zero, Bor, map, take, get_or, ◌<◌}
use Rattle.std.specs.List.{All, AllByRecursion, slice_split, onto_first}
use Rattle.std.proofs.lemmas.Grind.{flat_map-append}
use Rattle.std.proofs.lemmas.List.{append-nil, length-map, length-take, map-append, take_more}
use Rattle.std.proofs.lemmas.List.Elements.{All-cons, All-nil, filter-append}
use Rattle.std.proofs.lemmas.List.Splits.{slice_split_at}
use Rattle.collate_lines.specs.Lines.{lines_of}
use Rattle.collate_join.specs.declared.Joined.{Joined}
use Rattle.collate_join.specs.Join.{IsJoin, first_fault, joined, numbers_from, stays}
use Rattle.collate_join.specs.Kept.{HasKept, with_lf}

-- the number of one more line, if it passes
pub numbers_push : (n : ℕ) (p : List ℕ → Bool) (lines : List (List ℕ)) (line : List ℕ)
    → numbers_from n p (lines ++ line ∷ []) ≡ numbers_from n p lines ++ numbers_from (n + length lines) p (line ∷ [])
numbers_push n p [] line = ap (λ (m : ℕ). numbers_from m p (line ∷ [])) (sym (add-zero n))
numbers_push n p (x ∷ xs) line = by (p x) (numbers_push (n + 1) p xs line)
  where
    same : n + 1 + length xs ≡ n + length (x ∷ xs)
    same = omega arith

    by : (b : Bool) → numbers_from (n + 1) p (xs ++ line ∷ []) ≡ numbers_from (n + 1) p xs ++ numbers_from (n + 1 + length xs) p (line ∷ [])
        → cond b (n ∷ numbers_from (n + 1) p (xs ++ line ∷ [])) (numbers_from (n + 1) p (xs ++ line ∷ []))
        ≡ cond b (n ∷ numbers_from (n + 1) p xs) (numbers_from (n + 1) p xs) ++ numbers_from (n + length (x ∷ xs)) p (line ∷ [])
    by true more = ap (λ (ns : List ℕ). n ∷ ns) (more ∙ ap (λ (m : ℕ). numbers_from (n + 1) p xs ++ numbers_from m p (line ∷ [])) same)
    by false more = more ∙ ap (λ (m : ℕ). numbers_from (n + 1) p xs ++ numbers_from m p (line ∷ [])) same

-- one more line stays
pub kept_more : (old new : Joined) (p : List ℕ → Bool) (lines : List (List ℕ)) (line : List ℕ) (number : ℕ) → p line ≡ true → number ≡ length lines + 1 → HasKept old p lines
    → new.bytes.items ≡ old.bytes.items ++ line ++ 10 ∷ [] → new.kept.items ≡ old.kept.items ++ number ∷ [] → HasKept new p (lines ++ line ∷ [])
kept_more old new p lines line number passes is had bytes kept = (written, numbered)
  where
    one : filter p (line ∷ []) ≡ line ∷ []
    one = ap (λ (b : Bool). cond b (line ∷ []) []) passes

    listed : filter p (lines ++ line ∷ []) ≡ filter p lines ++ line ∷ []
    listed = filter-append p lines (line ∷ []) ∙ ap (λ (l : List (List ℕ)). filter p lines ++ l) one

    written : new.bytes.items ≡ flat_map with_lf (filter p (lines ++ line ∷ []))
    written =
        bytes ∙ ap (λ (bs : List ℕ). bs ++ line ++ 10 ∷ []) had.0
        ∙ append_assoc (flat_map with_lf (filter p lines)) line (10 ∷ [])
        ∙ ap (λ (bs : List ℕ). flat_map with_lf (filter p lines) ++ bs) (sym (append-nil (line ++ 10 ∷ [])))
        ∙ sym (flat_map-append with_lf (filter p lines) (line ∷ []))
        ∙ ap (flat_map with_lf) (sym listed)

    last : numbers_from (1 + length lines) p (line ∷ []) ≡ number ∷ []
    last =
        let same : 1 + length lines ≡ number = omega arith in
        ap (λ (b : Bool). cond b ((1 + length lines) ∷ []) []) passes ∙ ap (λ (m : ℕ). m ∷ []) same

    numbered : new.kept.items ≡ numbers_from 1 p (lines ++ line ∷ [])
    numbered =
        kept ∙ ap (λ (ns : List ℕ). ns ++ number ∷ []) had.1
        ∙ ap (λ (ns : List ℕ). numbers_from 1 p lines ++ ns) (sym last)
        ∙ sym (numbers_push 1 p lines line)

-- one more line doesn't
pub kept_past : (old : Joined) (p : List ℕ → Bool) (lines : List (List ℕ)) (line : List ℕ) → p line ≡ false → HasKept old p lines → HasKept old p (lines ++ line ∷ [])
kept_past old p lines line fails had = (written, numbered)
  where
    none : filter p (line ∷ []) ≡ []
    none = ap (λ (b : Bool). cond b (line ∷ []) []) fails

    listed : filter p (lines ++ line ∷ []) ≡ filter p lines
    listed = filter-append p lines (line ∷ []) ∙ ap (λ (l : List (List ℕ)). filter p lines ++ l) none ∙ append-nil (filter p lines)

    written : old.bytes.items ≡ flat_map with_lf (filter p (lines ++ line ∷ []))
    written = had.0 ∙ ap (flat_map with_lf) (sym listed)

    last : numbers_from (1 + length lines) p (line ∷ []) ≡ []
    last = ap (λ (b : Bool). cond b ((1 + length lines) ∷ []) []) fails

    numbered : old.kept.items ≡ numbers_from 1 p (lines ++ line ∷ [])
    numbered = had.1 ∙ sym (numbers_push 1 p lines line ∙ ap (λ (ns : List ℕ). numbers_from 1 p lines ++ ns) last ∙ append-nil (numbers_from 1 p lines))

-- ---- The lines of what is written

abbrev is_lf : ℕ → Bool
is_lf b = b == 10

-- a line without LF
abbrev IsOne : List ℕ → Type 0
IsOne line = All (λ b. is_lf b ≡ false) line

-- no line of a file has an LF
pub none_has_lf : (file : List ℕ) → AllByRecursion IsOne (lines_of file)
none_has_lf [] = (All-nil (λ b. is_lf b ≡ false), tt)
none_has_lf (b ∷ bs) = by (is_lf b) refl (lines_of bs) (none_has_lf bs)
  where
    onto : is_lf b ≡ false → (lines : List (List ℕ)) → AllByRecursion IsOne lines → AllByRecursion IsOne (onto_first b lines)
    onto is [] all = (All-cons (λ c. is_lf c ≡ false) b [] is (All-nil (λ c. is_lf c ≡ false)), tt)
    onto is (line ∷ lines) all = (All-cons (λ c. is_lf c ≡ false) b line is all.0, all.1)

    by : (v : Bool) → is_lf b ≡ v → (lines : List (List ℕ)) → AllByRecursion IsOne lines → AllByRecursion IsOne (cond v ([] ∷ lines) (onto_first b lines))
    by true is lines all = (All-nil (λ c. is_lf c ≡ false), all)
    by false is lines all = onto is lines all

-- the lines that stay have none either
pub kept_have_no_lf : (p : List ℕ → Bool) (lines : List (List ℕ)) → AllByRecursion IsOne lines → AllByRecursion IsOne (filter p lines)
kept_have_no_lf p [] all = tt
kept_have_no_lf p (line ∷ lines) all = by (p line) (kept_have_no_lf p lines all.1)
  where
    by : (b : Bool) → AllByRecursion IsOne (filter p lines) → AllByRecursion IsOne (cond b (line ∷ filter p lines) (filter p lines))
    by true others = (all.0, others)
    by false others = others

-- lines that are written with an LF each, before a file, are its first lines
pub lines_of-written : (lines : List (List ℕ)) (file : List ℕ) → AllByRecursion IsOne lines → lines_of (flat_map with_lf lines ++ file) ≡ lines ++ lines_of file
lines_of-written [] file all = refl
lines_of-written (line ∷ lines) file all =
    ap lines_of (append_assoc (line ++ 10 ∷ []) (flat_map with_lf lines) file ∙ append_assoc line (10 ∷ []) (flat_map with_lf lines ++ file))
    ∙ slice_split_at is_lf line 10 (flat_map with_lf lines ++ file) all.0 refl
    ∙ ap (λ (l : List (List ℕ)). line ∷ l) (lines_of-written lines file all.1)

-- the lines of a join
pub lines_of-join : (p : List ℕ → Bool) (root file : List ℕ) → lines_of (flat_map with_lf (filter p (lines_of root)) ++ file) ≡ filter p (lines_of root) ++ lines_of file
lines_of-join p root file = lines_of-written (filter p (lines_of root)) file (kept_have_no_lf p (lines_of root) (none_has_lf root))

-- ---- A join

-- it is one, where its parts are what they are to be
pub join_is : (root file : List ℕ) (root_lines lines : List (List ℕ)) (join : Joined) → root_lines ≡ lines_of root → lines ≡ lines_of file
    → None ≡ first_fault root_lines lines
    → join.bytes.items ≡ flat_map with_lf (filter (stays lines) root_lines) ++ file → join.kept.items ≡ numbers_from 1 (stays lines) root_lines → IsJoin root file (Ok join)
join_is root file root_lines lines join rooted tailored fault bytes kept =
    (sym (fault ∙ ap (λ (r : List (List ℕ)). first_fault r lines) rooted ∙ ap (first_fault (lines_of root)) tailored), as_lines, numbered)
  where
    as_bytes : join.bytes.items ≡ flat_map with_lf (filter (stays (lines_of file)) (lines_of root)) ++ file
    as_bytes =
        bytes ∙ ap (λ (r : List (List ℕ)). flat_map with_lf (filter (stays lines) r) ++ file) rooted
        ∙ ap (λ (t : List (List ℕ)). flat_map with_lf (filter (stays t) (lines_of root)) ++ file) tailored

    as_lines : lines_of join.bytes.items ≡ joined (lines_of root) (lines_of file)
    as_lines = ap lines_of as_bytes ∙ lines_of-join (stays (lines_of file)) root file

    numbered : join.kept.items ≡ numbers_from 1 (stays (lines_of file)) (lines_of root)
    numbered =
        kept ∙ ap (λ (r : List (List ℕ)). numbers_from 1 (stays lines) r) rooted
        ∙ ap (λ (t : List (List ℕ)). numbers_from 1 (stays t) (lines_of root)) tailored

-- a line is at fault
pub fault_is : (root file : List ℕ) (root_lines lines : List (List ℕ)) (line : ℕ) → root_lines ≡ lines_of root → lines ≡ lines_of file
    → Some line ≡ first_fault root_lines lines → first_fault (lines_of root) (lines_of file) ≡ Some line
fault_is root file root_lines lines line rooted tailored fault =
    sym (fault ∙ ap (λ (r : List (List ℕ)). first_fault r lines) rooted ∙ ap (first_fault (lines_of root)) tailored)

-- ---- The lines of a list of slices

abbrev pub texts_of : List (Bor (List ℕ)) → List (List ℕ)
texts_of xs = map (λ (line : Bor (List ℕ)). line.now) xs

-- one more of them
pub lines_more : (xs : List (Bor (List ℕ))) (i : ℕ) (d : Bor (List ℕ)) → i < length xs → texts_of (take i xs) ++ (get_or xs i d).now ∷ [] ≡ texts_of (take (i + 1) xs)
lines_more xs i d there =
    sym (map-append (λ (y : Bor (List ℕ)). y.now) (take i xs) (get_or xs i d ∷ [])) ∙ sym (ap texts_of (take_more xs i d there))

-- its number
pub line_number : (xs : List (Bor (List ℕ))) (i : ℕ) → i < length xs → i + 1 ≡ length (texts_of (take i xs)) + 1
line_number xs i there = omega (arith, length-map (take i xs) (λ (y : Bor (List ℕ)). y.now), length-take i xs)
