-- Lines from the last on.
use Rattle.std.proofs.Common.{◌≡◌, ℕ, suc, ◌+◌, ◌-◌, ◌<◌, ◌≤◌, List, [], ◌∷◌, length, map, drop, get_or, sym, ap, ◌∙◌, arith, cond}
use Rattle.std.specs.Prelude.{count_by}
use Rattle.std.proofs.Common.{drop-cons}
use Rattle.std.proofs.lemmas.List.{get_or-map, length-map}
use Rattle.std.proofs.Math.ListN.{drop_of_length-le}
use Rattle.std.proofs.lemmas.List.Sums.{sum_by-cons, sum_by-take-drop}
use Rattle.collate_lines.specs.declared.record.Record.{Record as Line}
use Rattle.collate_lines.specs.Record.{Record, nothing, said}
use Rattle.collate_rules.specs.Rules.{is_range}

-- the lines from one before an index on
pub from_line : (lines : List Line) (i : ℕ) (x : Line) → i < length lines → x ≡ get_or lines (length lines - 1 - i) x
    → drop (length lines - (i + 1)) (map said lines) ≡ said x ∷ drop (length lines - i) (map said lines)
from_line lines i x h e =
    ap (λ (n : ℕ). drop n (map said lines)) here
    ∙ drop-cons (map said lines) index nothing (omega (arith, length-map lines said))
    ∙ ap (λ (s : Record). s ∷ drop (suc index) (map said lines)) (get_or-map said lines index x nothing (omega arith) ∙ ap said (sym e))
    ∙ ap (λ (n : ℕ). said x ∷ drop n (map said lines)) next
  where
    index : ℕ
    index = length lines - 1 - i

    here : length lines - (i + 1) ≡ length lines - 1 - i
    here = omega arith

    next : suc (length lines - 1 - i) ≡ length lines - i
    next = omega arith

-- how many of them are ranges
pub ranges_from : (lines : List Line) (i : ℕ) (x : Line) → i < length lines → x ≡ get_or lines (length lines - 1 - i) x
    → count_by is_range (drop (length lines - (i + 1)) (map said lines)) ≡ count_by is_range
    (drop (length lines - i) (map said lines)) + cond (is_range (said x)) 1 0
ranges_from lines i x h e =
    ap (count_by is_range) (from_line lines i x h e)
    ∙ omega (arith, sum_by-cons (λ s. cond (is_range s) 1 0) (said x) (drop (length lines - i) (map said lines)))

pub ranges_few : (lines : List Record) (n : ℕ) → count_by is_range (drop n lines) ≤ count_by is_range lines
ranges_few lines n = omega (arith, sum_by-take-drop (λ s. cond (is_range s) 1 0) lines n)

-- from the end the last line on there is none
pub lines_none : (lines : List Line) → drop (length lines - 0) (map said lines) ≡ []
lines_none lines = drop_of_length-le (map said lines) (omega (arith, length-map lines said))

-- from the first line on there are all
pub lines_all : (lines : List Line) (i : ℕ) → length lines ≤ i
    → drop (length lines - i) (map said lines) ≡ map said lines
lines_all lines i h = ap (λ (n : ℕ). drop n (map said lines)) here
  where
    here : length lines - i ≡ 0
    here = omega arith
